-- What is proved of the pending vector that a processor delivers: it is the greatest one that waits.
use Rattle.std.specs.Prelude.{◌≡◌, ℕ, ◌-◌, ◌^◌, ◌<◌, ◌≤◌, false, true, MatchOption}
use Rattle.x86_alu.specs.SignedNumbers.{bit}
use Rattle.cpu_step.specs.Processor.{highest_pending}

-- the vector is one of 32 to 47 that waits, and none above it does
pub record IsGreatestWaiting (pending vector : ℕ) : Type 0 where
  pub least : 32 ≤ vector
  pub most : vector ≤ 47
  pub waits : bit pending (vector - 32) ≡ true
  pub none_above : (other : ℕ) → vector < other → bit pending (other - 32) ≡ false

-- the highest of sixteen pending vectors is that one, and there is none where none waits
pub record HighestPendingLaws : Type 0 where
  pub highest : (pending : ℕ) → pending < 2 ^ 16 → MatchOption (highest_pending pending)
      ((vector : ℕ) → bit pending (vector - 32) ≡ false) (IsGreatestWaiting pending)
