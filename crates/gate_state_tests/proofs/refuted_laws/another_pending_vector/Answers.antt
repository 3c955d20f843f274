use Rattle.std.proofs.Common.{◌≡◌, ◌-◌, ℕ, false, Option, subst, sym, ◌∙◌, arith}
use Rattle.std.specs.Prelude.{MatchOption}
use Rattle.std.proofs.lemmas.Bool.{false≢true}
use Rattle.x86_alu.specs.SignedNumbers.{bit}
use Rattle.gate_state.specs.HighestPendingLaws.{IsGreatestWaiting}
use Rattle.gate_state_tests.proofs.refuted_laws.another_pending_vector.Goals as goal

abbrev Highest : ℕ → Option ℕ → Type 0
Highest pending found =
    MatchOption found ((vector : ℕ) → bit pending (vector - 32) ≡ false) (IsGreatestWaiting pending)

pub returns : goal.returns
returns c = record {
  passed_over = λ pending vector small is waits.
      let none : (vector : ℕ) → bit pending (vector - 32) ≡ false =
      subst (Highest pending) is (c.highest_pending_law.ensures.highest pending small) in
      false≢true (sym (none vector) ∙ waits);
  least = λ pending small is.
      let it : IsGreatestWaiting pending 31 = subst (Highest pending) is (c.highest_pending_law.ensures.highest pending small) in
      let from = it.least in omega (arith, from);
  most = λ pending small is.
      let it : IsGreatestWaiting pending 48 = subst (Highest pending) is (c.highest_pending_law.ensures.highest pending small) in
      let below = it.most in omega (arith, below);
  waits = λ pending vector small is none.
      let it : IsGreatestWaiting pending vector = subst (Highest pending) is (c.highest_pending_law.ensures.highest pending small) in
      false≢true (sym none ∙ it.waits);
  above = λ pending vector other small is behind waits.
      let it : IsGreatestWaiting pending vector = subst (Highest pending) is (c.highest_pending_law.ensures.highest pending small) in
      false≢true (sym (it.none_above other behind) ∙ waits);
}
