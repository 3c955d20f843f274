use Rattle.std.proofs.Common.{arith}
use Rattle.step_trace.proofs.ToldMemory.{frame_copied, frame_left, frame_told}
use Rattle.step_trace.proofs.memory.put_below.Goals as goal

pub loop-frame-preserved : goal.loop-frame-preserved
loop-frame-preserved c = record {
  size = c.put_changed.ensures.size;
  text = frame_told c.args.end c.loop-frame.frame _ c.loop-frame.line.items _ c.args.copy.now c.loop-frame.copy c.args.mem.now
      (omega arith) c.requires.size c.loop-frame.invariant.size c.loop-frame.invariant.left c.loop-frame.invariant.text c.in_ok-put_changed.ensures.text;
  copied = frame_copied c.loop-frame.frame c.loop-frame.copy c.put_changed.new.copy c.args.mem.now c.loop-frame.invariant.copied
      c.in_ok-put_changed.ensures.copied c.put_changed.ensures.others;
  left = frame_left c.loop-frame.frame c.args.copy.now c.loop-frame.copy c.put_changed.new.copy c.loop-frame.invariant.left c.put_changed.ensures.others;
}
