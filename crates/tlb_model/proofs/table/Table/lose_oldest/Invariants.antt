use Rattle.std.proofs.Common.{◌≡◌, ◌≤◌, length}
use Rattle.tlb_model.specs.TranslationTable.{IsTable, pairs_of}
use Rattle.tlb_model.proofs.table.Table.lose_oldest.Given as goal

abbrev pub invariant-loop-self : goal.invariant-loop-self
invariant-loop-self l = record {
  table : IsTable l.self;
  same : pairs_of l.self ≡ pairs_of l.fn.self;
  count : l.self.order ≡ l.fn.self.order;
  places : length l.self.ages.items ≤ length l.fn.self.ages.items;
}

abbrev pub decreases-loop-self : goal.decreases-loop-self
decreases-loop-self l = length l.self.ages.items
