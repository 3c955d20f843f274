use Rattle.std.proofs.Common.{◌≡◌, ap, ◌∙◌, arith}
use Rattle.gate_state.specs.MachineSteps.{move_of, step_by}
use Rattle.run_moments.specs.Moments.{MomentOf, RunParts, state_at}
use Rattle.run_moments.proofs.moment.Moment.advance.Goals as goal

pub returns-clause-advanced : goal.returns-clause-advanced
returns-clause-advanced c =
    let same : c.hurry-hurried.result.steps ≡ c.args.self.steps =
    omega (
      arith,
      c.hurry-hurried.ensures.on,
      c.if-hurried-steps.false,
      ap (λ (it : MomentOf). it.steps) c.self.view_is,
      ap (λ (it : MomentOf). it.steps) c.hurried.view_is,
    ) in
    record {
      one = omega (arith, same, ap (λ (it : MomentOf). it.steps) c.step-moment.ensures.moment);
      step = c.step-moment.ensures.step
          ∙ ap (λ (run : RunParts). step_by (move_of run.plan (state_at run c.hurry-hurried.result.steps))
          (state_at run c.hurry-hurried.result.steps)) c.hurry-hurried.ensures.run
          ∙ ap (λ n. step_by (move_of c.args.self.run.plan (state_at c.args.self.run n)) (state_at c.args.self.run n)) same;
    }
