use Rattle.std.proofs.Common.{Option, sym, ap, ◌∙◌, arith}
use Rattle.std.proofs.lemmas.Option.{slice_get_past}
use Rattle.irq_plan.specs.declared.event.Event.{Event}
use Rattle.gate_state.specs.MachineSteps.{move_by}
use Rattle.run_moments.specs.Stops.{begins_by}
use Rattle.run_moments.proofs.begins.begins_outside.Goals as goal

pub returns-else-taken-len : goal.returns-else-taken-len
returns-else-taken-len c =
    c.begins_without.ensures c.args.turns
    ∙ ap (λ (it : Option Event). begins_by (move_by it c.args.turns c.args.cpu.now) c.args.cpu.now)
    (sym (slice_get_past c.args.plan.now c.args.taken (omega (arith, c.if-taken-len.false, c.len.ensures.length))))
