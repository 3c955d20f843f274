use Rattle.std.proofs.Common.{◌*◌, arith}
use Rattle.std.proofs.lemmas.Bool.{and_parts}
use Rattle.step_trace.proofs.SameFrames.{frame_is_same, same_more}
use Rattle.step_trace.proofs.memory.is_same.Goals as goal

pub loop-i-preserved : goal.loop-i-preserved
loop-i-preserved c =
    let both = and_parts c.is_same_32.result c.is_same_32-in-loop-i.result c.if-not-is_same_32.false in
    same_more c.loop-i.i (4096 * c.args.frame) (4096 * c.from-start.result) c.args.copy.now c.args.mem.now (omega arith) c.loop-i.invariant
    (c.is_same_32.ensures both.0) (c.is_same_32-in-loop-i.ensures both.1)

pub returns : goal.returns
returns c = λ _. frame_is_same c.args.copy.now c.args.mem.now c.args.frame c.requires.size (λ k small. c.loop-i.invariant k (omega arith))
