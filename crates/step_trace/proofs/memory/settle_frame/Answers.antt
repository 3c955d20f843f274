use Rattle.std.proofs.Common.{◌≡◌, ◌+◌, ◌*◌, ◌≤◌, length, ◌∙◌, arith}
use Rattle.step_trace.proofs.SameFrames.{frame_put, frame_put_elsewhere}
use Rattle.step_trace.proofs.memory.settle_frame.Goals as goal

pub returns-clause-copied : goal.returns-clause-copied
returns-clause-copied c = λ p here.
    let fits : 4096 * c.args.frame + 4096 ≤ length c.args.mem.now = omega arith in
    let long : length c.copy_from_slice.new.self ≡ 4096 = omega arith in
    frame_put c.args.copy.now c.args.mem.now c.copy_from_slice.new.self c.args.frame p c.requires.size fits
    (c.copy_from_slice.ensures.after ∙ c.frame.ensures.bytes) long here

pub returns-clause-others : goal.returns-clause-others
returns-clause-others c = λ p there.
    let fits : 4096 * c.args.frame + 4096 ≤ length c.args.copy.now = omega arith in
    let long : length c.copy_from_slice.new.self ≡ 4096 = omega arith in
    frame_put_elsewhere c.args.copy.now c.copy_from_slice.new.self c.args.frame p fits long there
