-- How counts of faults and of wants of memory are read. A count is a `u64` that stays at its type's end.
use Rattle.std.specs.Prelude.{◌≡◌, ◌≢◌, ℕ, ◌+◌, ◌-◌, ◌^◌, ◌≤◌, min, List, Option, IsSome}

-- a count, raised by one
abbrev pub raised : ℕ → ℕ
raised n = min (n + 1) (2 ^ 64 - 1)

-- a single count rose, or stands at its type's end
abbrev pub RoseTo : ℕ → ℕ → Type 0
RoseTo before now = raised before ≤ now

-- the count of a name rose, or stands at its type's end
abbrev pub Rose : (List ℕ → ℕ) → (List ℕ → ℕ) → List ℕ → Type 0
Rose before now name = RoseTo (before name) (now name)

-- no name's count fell
abbrev pub NeverFalls : (List ℕ → ℕ) → (List ℕ → ℕ) → Type 0
NeverFalls before now = (name : List ℕ) → before name ≤ now name

-- each other name that a file is held under has the count that it had
abbrev pub OnlyAt : (List ℕ → Option (List ℕ)) → (List ℕ → ℕ) → (List ℕ → ℕ) → List ℕ → Type 0
OnlyAt files before now name =
    (other : List ℕ) → IsSome (files other) → other ≢ name → now other ≡ before other

-- the counts of all faults and of all wants of memory
pub record Counts : Type 0 where
  pub faults : ℕ
  pub wants : ℕ
