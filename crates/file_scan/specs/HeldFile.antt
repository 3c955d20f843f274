-- What stays where a shelf is read, and what is known of the file of a name.
use Rattle.std.specs.Prelude.{◌≡◌, ◌≤◌, List, ℕ, Option, Some, IsSomeAnd}
use Rattle.nk_host.specs.FaultCounts.{NeverFalls}
use Rattle.nk_host.specs.Told.{IfTold}
use Rattle.file_scan.specs.ShelfChanges.{Change, Files, ShelfState}

-- the files stay, and no count falls
pub record AreFilesKept (shelf : Change ShelfState) : Type 0 where
  pub same_files : shelf.after.files ≡ shelf.before.files
  pub never_falls : NeverFalls shelf.before.faults shelf.after.faults
  pub wants_stand : shelf.before.wants ≤ shelf.after.wants

-- the shelf tells that this is the file of the name
abbrev pub HoldsFile : Option Files → List ℕ → List ℕ → Type 0
HoldsFile told name b = IsSomeAnd told (λ files. files name ≡ Some b)

-- the shelf holds a file under the name, and this holds of it; nothing is said where the shelf doesn't tell its files
abbrev pub OfFile : Option Files → List ℕ → (List ℕ → Type 0) → Type 0
OfFile told name P = IfTold told (λ files. IsSomeAnd (files name) P)

-- this holds of the file of the name, where the shelf tells that it holds one
abbrev pub WhereHeld : Option Files → List ℕ → (List ℕ → Type 0) → Type 0
WhereHeld told name P = (b : List ℕ) → HoldsFile told name b → P b
