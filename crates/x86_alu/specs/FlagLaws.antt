-- A flag that is written.
use Rattle.std.specs.Prelude.{◌≡◌, ◌≢◌, ℕ, Bool}
use Rattle.x86_alu.specs.Flags.{with_flag}
use Rattle.x86_alu.specs.SignedNumbers.{bit}

pub record FlagLaws : Type 0 where
  pub same : (place flags : ℕ) (set : Bool) → bit (with_flag place set flags) place ≡ set
  pub others : (other place flags : ℕ) (set : Bool) → other ≢ place
      → bit (with_flag place set flags) other ≡ bit flags other
