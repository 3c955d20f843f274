use Rattle.std.proofs.Common.{◌∙◌}
use Rattle.gate_state.specs.MachineOf.{whole_of}
use Rattle.step_trace.proofs.TraceRests.{at_one}
use Rattle.step_trace.proofs.steps.is_at.Goals as goal

pub returns : goal.returns
returns c =
    c.contains.ensures.value ∙ at_one c.deref.result.now c.args.shown.now.until.items c.regs.result.now c.processor.result.now
    (whole_of c.args.machine.now).state.processor c.deref.ensures.value c.regs.ensures c.processor.ensures.processor
