-- Vectors that aren't the greatest that waits, where 32 and 47 wait, and where any do.
use Rattle.std.proofs.Common.{ℕ, arith, lit<, sym}
use Rattle.std.proofs.lemmas.Bool.{false≢true}
use Rattle.gate_state.specs.HighestPendingLaws.{IsGreatestWaiting}

-- one above it waits
waits_below_another : IsGreatestWaiting 0x8001 32 → ⊥
waits_below_another it = false≢true (sym (it.none_above 47 (lit< tt)))

-- it doesn't wait
waits_not : IsGreatestWaiting 0x8001 46 → ⊥
waits_not it = false≢true it.waits

-- it is none of the sixteen
below_32 : (pending : ℕ) → IsGreatestWaiting pending 31 → ⊥
below_32 pending it = absurd (omega (arith, it.least))

above_47 : (pending : ℕ) → IsGreatestWaiting pending 48 → ⊥
above_47 pending it = absurd (omega (arith, it.most))
