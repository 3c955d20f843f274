-- What the top call saw: its words, and what the shelf and the sink told as it began and as it returned.
use Rattle.std.specs.Prelude.{ℕ, List, Option}
use Rattle.file_scan.specs.ShelfChanges.{Change, ShelfState}

-- a sink at one moment: the bytes that it took, where it tells them, and its count of faults
pub record SinkState : Type 0 where
  pub taken : Option (List ℕ)
  pub faults : ℕ

pub record Witness : Type 0 where
  pub words : List (List ℕ)
  pub shelf : Change ShelfState
  pub sink : Change SinkState

-- a sink that had one value and then another, by what its type tells of a value
abbrev pub sink_change : {O : Type 0} → (O → Option (List ℕ)) → (O → ℕ) → O → O → Change SinkState
sink_change taken faults old new = record {
  before = record { taken = taken old; faults = faults old };
  after = record { taken = taken new; faults = faults new };
}
