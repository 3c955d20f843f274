-- The answer to a call, from what its making says.
use Rattle.std.proofs.Common.{◌≡◌, None, Some, false, ap, ◌∙◌}
use Rattle.nk_bits.specs.declared.call.Answer.{Answer}
use Rattle.nk_bits.specs.declared.rule.Rule.{Rule}
use Rattle.nk_bits.specs.Rules.{rule_number}
use Rattle.nk_body.specs.declared.call.Call.{Call}
use Rattle.nk_body.specs.CallRules.{Sourced, accepted_answer, answer_by, answer_to, verdict}
use Rattle.nk_body.specs.NestedRecord.{Nested}

module _ (nk : Nested) (call : Call) (source : Sourced) where
  pub answer_accepted : (result : Answer) → None ≡ verdict nk call source → result ≡ accepted_answer nk call → result ≡ answer_to nk call source
  unfolding answer_to
  answer_accepted result judged is = is ∙ ap (λ v. answer_by v nk call) judged

  pub answer_refused : (result : Answer) (rule : Rule) → Some rule ≡ verdict nk call source
      → result ≡ record { value = rule_number rule; place = None; flush = false } → result ≡ answer_to nk call source
  unfolding answer_to
  answer_refused result rule judged is = is ∙ ap (λ v. answer_by v nk call) judged
