use Rattle.step_trace.proofs.SameFrames.{byte_same}
use Rattle.step_trace.proofs.memory.settle_changed.Goals as goal

pub returns-else-not-is_same-clause-copied : goal.returns-else-not-is_same-clause-copied
returns-else-not-is_same-clause-copied c = λ p here.
    byte_same c.args.copy.now c.args.mem.now c.args.frame p (c.is_same.ensures c.if-not-is_same.false) here
