use Rattle.std.proofs.Common.{arith}
use Rattle.step_trace.proofs.TwoFrames.{none_from, one_from, two_from}
use Rattle.step_trace.proofs.memory.put_two.Goals as goal

pub returns-then-last-from-clause-text : goal.returns-then-last-from-clause-text
returns-then-last-from-clause-text c before size keeps has =
    none_from c.args.line.now.items before c.args.mem.now c.args.from c.args.one c.args.two c.max-last.result c.max-last.ensures
    c.if-last-from.true size keeps

pub returns-then-first-from-clause-text : goal.returns-then-first-from-clause-text
returns-then-first-from-clause-text c before size keeps has =
    one_from c.args.line.now.items _ c.args.copy.now before c.args.mem.now c.frames-frames.result c.args.from c.args.one c.args.two
    c.min-first.result c.max-last.result c.min-first.ensures c.max-last.ensures c.then-first-from.either (omega (arith, c.if-last-from.false))
    c.requires.size size c.frames-frames.ensures.length keeps has c.in_ok-put_touched.ensures.text

pub returns-clause-text : goal.returns-clause-text
returns-clause-text c before size keeps has =
    two_from c.args.line.now.items _ _ c.args.copy.now c.put_touched-2.new.copy before c.args.mem.now c.frames-frames.result c.args.from
    c.args.one c.args.two c.min-first.result c.max-last.result c.min-first.ensures c.max-last.ensures
    (omega (arith, c.if-first-from.false)) c.if-first-last.false c.requires.size c.put_touched-2.ensures.size size
    c.frames-frames.ensures.length keeps has c.put_touched-2.ensures.others c.in_ok-put_touched-2.ensures.text
    c.in_ok-put_touched-3.ensures.text
