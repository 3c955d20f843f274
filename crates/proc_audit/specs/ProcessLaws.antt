-- The chain of a process list, without a bound on its links.
use Rattle.std.specs.Prelude.{◌≡◌, ◌<◌, ℕ, true, false, List, Some}
use Rattle.proc_audit.specs.ProcessList.{is_chain_good, is_met, met_after}

pub record ProcessLaws : Type 0 where
  -- what is met after any number of links is in the chain
  pub met : (b : List ℕ) (n slot : ℕ) → met_after b n ≡ Some slot → is_met b slot ≡ true
  -- a chain that meets a slot again is broken
  pub again : (b : List ℕ) (n later slot : ℕ) → n < later → met_after b n ≡ Some slot → met_after b later ≡ Some slot
      → is_chain_good b ≡ false
