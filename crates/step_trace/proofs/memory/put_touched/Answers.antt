use Rattle.std.proofs.Common.{arith}
use Rattle.step_trace.proofs.ToldMemory.{frame_past, frame_untold}
use Rattle.step_trace.proofs.memory.put_touched.Goals as goal

pub returns-else-frame-from-clause-text : goal.returns-else-frame-from-clause-text
returns-else-frame-from-clause-text c =
    frame_untold c.args.line.now.items c.args.copy.now c.args.mem.now c.args.frame
    (frame_past c.args.copy.now c.args.mem.now c.args.frame c.requires.size (omega arith))
