use Rattle.std.proofs.Common.{◌≡◌, ℕ, ◌-◌, ◌==◌, sym, ap, subst, ◌∙◌}
use Rattle.run_moments.specs.StopsMet.{IsFound, found_by}
use Rattle.run_moments.proofs.StopsFound.{found_at}
use Rattle.run_moments.proofs.behind.come_back.Goals as goal

pub returns-clause-found : goal.returns-clause-found
returns-clause-found c =
    let from = c.args.moment.steps in
    let to = c.pass_on-next.result.0.steps in
    let begun = c.steps-steps.result == 0 in
    let is : c.last_of-found.result ≡ found_by (to - 1) c.breaks-breaks.result c.pass_on-next.result.1 begun =
    c.last_of-found.ensures
    ∙ ap (λ (n : ℕ). found_by (n - 1) c.breaks-breaks.result c.pass_on-next.result.1 begun) c.steps.ensures in
    subst (IsFound c.args.stops.now c.args.moment.run from to) (sym is)
    (found_at c.args.stops.now c.args.moment.run from to c.pass_on-next.result.1 c.breaks-breaks.result begun
    c.pass_on-next.ensures.passed c.breaks-breaks.ensures (ap (λ (n : ℕ). n == 0) c.steps-steps.ensures))
