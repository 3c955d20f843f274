use Rattle.std.proofs.Common.{◌<◌, ◌≤◌, subst, ap, arith}
use Rattle.boot_map.specs.Division.{free_start}
use Rattle.boot_map.specs.Parts.{part_at}
use Rattle.boot_map.specs.Opening.{IsFilled, byte_of_part}
use Rattle.boot_map.proofs.FillLaws.{all_filled, frame_more}
use Rattle.boot_map.proofs.opening.prepare.Goals as goal

pub loop-frame-preserved : goal.loop-frame-preserved
loop-frame-preserved c =
    let d = c.args.layout.now in
    let small : c.loop-frame.frame < d.frames = omega (arith, ap free_start c.requires.division) in
    let filled : IsFilled (byte_of_part c.args.image.now d (part_at d c.loop-frame.frame)) c.fill.new.bytes =
    subst (λ part. IsFilled (byte_of_part c.args.image.now d part) c.fill.new.bytes) c.part.ensures.part c.fill.ensures in
    frame_more c.args.image.now c.loop-frame.memory c.fill.new.bytes d d.frames c.loop-frame.frame c.requires.division small c.loop-frame.invariant filled

pub returns : goal.returns
returns c =
    let d = c.args.layout.now in
    let all : free_start d ≤ c.loop-frame.frame = omega arith in
    all_filled c.args.image.now c.loop-frame.memory d d.frames c.loop-frame.frame c.requires.division all c.loop-frame.invariant
