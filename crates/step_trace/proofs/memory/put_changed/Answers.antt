use Rattle.step_trace.proofs.SameFrames.{byte_same}
use Rattle.step_trace.proofs.ToldMemory.{frame_untold}
use Rattle.step_trace.proofs.memory.put_changed.Goals as goal

pub returns-then-is_same-clause-text : goal.returns-then-is_same-clause-text
returns-then-is_same-clause-text c =
    frame_untold c.args.line.now.items c.args.copy.now c.args.mem.now c.args.frame (c.is_same.ensures c.if-is_same.true)

pub returns-then-is_same-clause-copied : goal.returns-then-is_same-clause-copied
returns-then-is_same-clause-copied c = λ p here.
    byte_same c.args.copy.now c.args.mem.now c.args.frame p (c.is_same.ensures c.if-is_same.true) here
