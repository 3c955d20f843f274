use Rattle.std.proofs.Common.{arith, sym, ◌∙◌}
use Rattle.page_desc.proofs.DescriptorValues.{loose_past, loose_within}
use Rattle.page_desc.proofs.frames.Frames.loose.Goals as goal

pub returns-then-frame-self : goal.returns-then-frame-self
returns-then-frame-self c =
    c.field.ensures
    ∙ sym (loose_within c.args.mem.now c.args.frame (omega (arith, c.requires.held.size, c.self.view_is, c.if-frame-self.true)))

pub returns-else-frame-self : goal.returns-else-frame-self
returns-else-frame-self c =
    sym (loose_past c.args.mem.now c.args.frame (omega (arith, c.requires.held.size, c.self.view_is, c.if-frame-self.false)))
