use Rattle.std.proofs.Common.{sym, ap, ◌∙◌}
use Rattle.nk_body.specs.CallRules.{answer_to, verdict}
use Rattle.nk_body.specs.NestedRecord.{nested_held}
use Rattle.nk_body.specs.SourceWords.{sourced_of}
use Rattle.nk_body.proofs.ServedCalls.{answer_accepted, answer_refused}
use Rattle.nk_body.proofs.BooksLeft.{call_leaves, none_on, some_on}
use Rattle.nk_body.proofs.kernel.Kernel.serve.Goals as goal

pub returns-in-Ok-clause-answer : goal.returns-in-Ok-clause-answer
returns-in-Ok-clause-answer c =
    answer_accepted (nested_held c.args.self.now c.args.mem.now) c.call_of-call.result (sourced_of c.args.source) c.in-Ok.answer
    c.in-Ok.ensures.made.judged c.in-Ok.ensures.shows
    ∙ ap (λ it. answer_to (nested_held c.args.self.now c.args.mem.now) it (sourced_of c.args.source)) c.call_of-call.ensures.call

pub returns-in-Err-clause-answer : goal.returns-in-Err-clause-answer
returns-in-Err-clause-answer c =
    answer_refused (nested_held c.args.self.now c.args.mem.now) c.call_of-call.result (sourced_of c.args.source) c.refused.result
    c.in-Err.rule c.in-Err.ensures.made.judged c.refused.ensures
    ∙ ap (λ it. answer_to (nested_held c.args.self.now c.args.mem.now) it (sourced_of c.args.source)) c.call_of-call.ensures.call

pub returns-in-Ok-clause-refused : goal.returns-in-Ok-clause-refused
returns-in-Ok-clause-refused c =
    none_on _ _ (c.in-Ok.ensures.made.judged
    ∙ ap (λ it. verdict (nested_held c.args.self.now c.args.mem.now) it (sourced_of c.args.source)) c.call_of-call.ensures.call)

pub returns-in-Err-clause-refused : goal.returns-in-Err-clause-refused
returns-in-Err-clause-refused c =
    some_on c.in-Err.rule _ (c.in-Err.ensures.made.judged
    ∙ ap (λ it. verdict (nested_held c.args.self.now c.args.mem.now) it (sourced_of c.args.source)) c.call_of-call.ensures.call)
    c.in-Err.ensures.refused

pub returns-in-Ok-clause-leaves : goal.returns-in-Ok-clause-leaves
returns-in-Ok-clause-leaves c = call_leaves (sym c.call_of-call.ensures.call) c.make.ensures.leaves

pub returns-in-Err-clause-leaves : goal.returns-in-Err-clause-leaves
returns-in-Err-clause-leaves c = call_leaves (sym c.call_of-call.ensures.call) c.make.ensures.leaves
