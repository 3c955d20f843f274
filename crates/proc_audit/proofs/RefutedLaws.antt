-- What the laws on chains leave no room for.
use Rattle.std.proofs.Common.{◌≡◌, ◌<◌, ℕ, true, false, List, Some, arith, refl, sym, ◌∙◌}
use Rattle.std.proofs.lemmas.Bool.{false≢true}
use Rattle.proc_audit.specs.ProcessLaws.{ProcessLaws}
use Rattle.proc_audit.specs.ProcessList.{is_chain_good, is_met, met_after}
use Rattle.proc_audit.proofs.WorkedProcesses.{looped, whole}

module _ (it : ProcessLaws) where
  -- a slot that is met after any number of links, and isn't in the chain
  met_outside : (b : List ℕ) (n slot : ℕ) → met_after b n ≡ Some slot → is_met b slot ≡ false → ⊥
  met_outside b n slot met none = false≢true (sym none ∙ it.met b n slot met)

  -- a chain that is good, and meets a slot again
  good_though_met_again : (b : List ℕ) (n later slot : ℕ) → n < later → met_after b n ≡ Some slot
      → met_after b later ≡ Some slot → is_chain_good b ≡ true → ⊥
  good_though_met_again b n later slot before first again good =
      false≢true (sym (it.again b n later slot before first again) ∙ good)

  -- of the worked regions one has a slot behind two links, and one a slot that is met again after one: for these the
  -- laws say so
  last_slot_is_met : is_met whole 2 ≡ true
  unfolding met_after
  last_slot_is_met = it.met whole 2 2 refl

  loop_is_broken : is_chain_good looped ≡ false
  unfolding met_after
  loop_is_broken = it.again looped 0 1 0 (omega arith) refl refl
