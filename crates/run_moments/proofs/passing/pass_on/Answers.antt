use Rattle.std.proofs.Common.{◌≡◌, length, ap, ◌∙◌}
use Rattle.gate_state.specs.MachineStates.{MachineState}
use Rattle.run_moments.specs.declared.stops.Stop.TheVariants as stop
use Rattle.run_moments.specs.Moments.{RunParts, state_at}
use Rattle.run_moments.specs.Stops.{or_else, stop_if}
use Rattle.run_moments.specs.StopsMet.{differs_by, shows_step}
use Rattle.run_moments.proofs.StopsPassed.{kept_by, passed_by, seen_length}
use Rattle.run_moments.proofs.passing.pass_on.Goals.{After-stop_on-why}
use Rattle.run_moments.proofs.passing.pass_on.Goals as goal

pub stop_on-why-requires-clause-same : goal.stop_on-why-requires-clause-same
stop_on-why-requires-clause-same c =
    ap (λ l. length l) c.requires.kept ∙ seen_length c.args.stops.now.watches.items (state_at c.args.moment.run c.args.moment.steps)

-- the reason speaks of the moment behind the steps
reason : (c : After-stop_on-why) → c.stop_on-why.result
    ≡ or_else (differs_by c.args.stops.now.watches.items c.args.kept.now (state_at c.args.moment.run c.advance-next.result.0.steps))
    (stop_if (shows_step c.args.stops.now.catches c.advance-next.result.1) stop.Caught)
reason c =
    c.stop_on-why.ensures
    ∙ ap (λ (s : MachineState). or_else (differs_by c.args.stops.now.watches.items c.args.kept.now s)
    (stop_if (shows_step c.args.stops.now.catches c.advance-next.result.1) stop.Caught))
    (c.machine.ensures.state ∙ ap (λ (run : RunParts). state_at run c.advance-next.result.0.steps) c.advance-next.ensures.run)

pub returns-clause-passed : goal.returns-clause-passed
returns-clause-passed c =
    passed_by c.args.stops.now c.args.moment.run c.before_look-steps.result c.limit_for-limit.result c.args.moment.steps
    c.advance-next.result.0.steps c.advance-next.result.1 c.advance-next.ensures.advanced c.before_look-steps.ensures.some
    c.limit_for-limit.ensures.left c.before_look-steps.ensures.breakpoints c.before_look-steps.ensures.watches c.args.kept.now
    c.requires.kept c.stop_on-why.result (reason c)

pub returns-clause-kept : goal.returns-clause-kept
returns-clause-kept c =
    kept_by c.args.stops.now c.args.moment.run c.before_look-steps.result c.limit_for-limit.result c.args.moment.steps
    c.advance-next.result.0.steps c.advance-next.result.1 c.advance-next.ensures.advanced c.before_look-steps.ensures.some
    c.limit_for-limit.ensures.left c.before_look-steps.ensures.breakpoints c.before_look-steps.ensures.watches c.args.kept.now
    c.requires.kept c.stop_on-why.result (reason c)
