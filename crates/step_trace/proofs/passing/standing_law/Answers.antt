use Rattle.std.proofs.Common.{ap, sym, ◌∙◌}
use Rattle.phys_mem.specs.MaskedMemory.{seen}
use Rattle.gate_state.specs.MachineOf.{real_of, whole_of}
use Rattle.step_trace.proofs.PassedTurns.{seen_of}
use Rattle.step_trace.proofs.passing.standing_law.Goals as goal

pub returns-clause-seen : goal.returns-clause-seen
returns-clause-seen c =
    seen_of c.mask_law.ensures (real_of c.args.machine.now) (whole_of c.args.machine.now).state.memory
    (ap seen (sym c.memory-memory.ensures.real) ∙ c.memory-memory.ensures.seen)
