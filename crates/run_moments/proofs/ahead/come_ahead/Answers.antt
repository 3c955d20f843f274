use Rattle.std.proofs.Common.{◌+◌, ◌≤◌, length, ap, subst, ◌∙◌}
use Rattle.run_moments.specs.Moments.{IsInRun, RunParts, is_over}
use Rattle.run_moments.specs.Stops.{breaks_at}
use Rattle.run_moments.proofs.StopsFound as found
use Rattle.run_moments.proofs.ahead.come_ahead.Goals as goal

pub returns-clause-come : goal.returns-clause-come
returns-clause-come c =
    let to = c.pass_on-next.result.0.steps in
    let same = c.pass_on-next.ensures.run in
    found.come_ahead c.args.stops.now c.args.moment.run c.args.moment.steps to c.pass_on-next.result.1 c.reason-why.result
    c.breaks.result c.is_over.result c.pass_on-next.ensures.passed
    (subst (λ (run : RunParts). IsInRun run to) same c.reached_law.ensures.reached)
    (subst (λ (run : RunParts). to ≤ run.turns + length run.plan) same c.reached_law.ensures.most)
    (c.breaks.ensures ∙ ap (λ (run : RunParts). breaks_at c.args.stops.now run to) same)
    (c.is_over.ensures ∙ ap (λ (run : RunParts). is_over run to) same) c.reason-why.ensures
