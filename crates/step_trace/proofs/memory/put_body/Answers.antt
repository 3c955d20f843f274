use Rattle.step_trace.proofs.TwoFrames.{body_copied, body_told}
use Rattle.step_trace.proofs.memory.put_body.Goals as goal

pub returns-clause-text : goal.returns-clause-text
returns-clause-text c before it =
    body_told c.args.line.now.items _ _ c.args.copy.now c.put_below.new.copy before c.args.mem.now c.frames_below-end.result
    c.args.below c.args.one c.args.two c.frames_below-end.ensures.least c.requires.size it c.in_ok-put_below.ensures.left
    c.in_ok-put_below.ensures.text (c.in_ok-put_two.ensures.text before it.size it.outside)

pub returns-clause-copy : goal.returns-clause-copy
returns-clause-copy c keeps =
    body_copied c.args.copy.now c.put_below.new.copy c.put_two.new.copy c.args.mem.now c.frames-frames.result
    c.frames_below-end.result c.args.below c.args.one c.args.two c.frames-frames.ensures.length c.frames_below-end.ensures.least c.put_below.ensures.size c.put_two.ensures.size keeps
    c.in_ok-put_below.ensures.copied c.in_ok-put_below.ensures.left c.in_ok-put_two.ensures.copied c.in_ok-put_two.ensures.below
