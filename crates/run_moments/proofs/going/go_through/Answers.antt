use Rattle.std.proofs.Common.{ap, ◌∙◌}
use Rattle.run_moments.specs.Moments.{RunParts, state_at}
use Rattle.run_moments.proofs.GoingOn.{fewer_on}
use Rattle.run_moments.proofs.going.go_through.Goals as goal

pub loop-moment-preserved : goal.loop-moment-preserved
loop-moment-preserved c = record {
  run = c.come_on-moment.ensures.run ∙ c.loop-moment.invariant.run;
  first = λ k below. fewer_on c.moves_law.ensures c.args.moment.run c.args.turns c.loop-moment.moment.steps c.come_on-moment.result.steps
      c.turns-taken.result
      (c.turns-taken.ensures.turns ∙ ap (λ (run : RunParts). (state_at run c.loop-moment.moment.steps).turns) c.loop-moment.invariant.run)
      c.if-taken-turns.false c.come_on-moment.ensures.within k below;
}
