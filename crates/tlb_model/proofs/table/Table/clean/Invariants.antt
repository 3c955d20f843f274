use Rattle.std.proofs.Common.{◌≤◌, ◌-◌}
use Rattle.tlb_model.specs.TranslationTable.{IsCleanedBy, IsTable, pairs_of}
use Rattle.tlb_model.proofs.table.Table.clean.Given as goal

abbrev pub invariant-loop-turn : goal.invariant-loop-turn
invariant-loop-turn l = record {
  within : l._turn ≤ l._turn-end;
  table : IsTable l.self;
  cleaned : IsCleanedBy l.self.slots l.self.generation l.self.front l.self.ages.items (l._turn-end - l._turn) (pairs_of l.fn.self);
}
