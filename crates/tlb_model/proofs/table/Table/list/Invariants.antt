use Rattle.std.proofs.Common.{◌≡◌, ◌++◌, ◌+◌, ◌<◌, ◌≤◌, All, length}
use Rattle.tlb_model.specs.TranslationTable.{IsTable, pairs_from, pairs_of}
use Rattle.tlb_model.proofs.table.Table.list.Given as goal

-- the pairs that stand there and those of the places to come are the whole; so many places are to come, each of a slot
abbrev pub invariant-loop-at : goal.invariant-loop-at
invariant-loop-at l = record {
  can_next : (goal.iterator-loop-at).can_next l.at-iterator;
  is_finite : (goal.iterator-loop-at).is_finite l.at-iterator;
  listed : l.pairs.items ++ pairs_from l.self.slots l.self.generation l.number l.at-iterator ≡ l.initial.pairs.items ++ pairs_of l.self;
  places : l.number + length l.at-iterator ≡ l.self.front + length l.self.ages.items;
  named : All (λ at. at < 1024) l.at-iterator;
}
