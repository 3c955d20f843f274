use Rattle.std.proofs.Common.{arith, sym, ◌∙◌}
use Rattle.page_desc.proofs.DescriptorValues.{links_past, links_within}
use Rattle.page_desc.proofs.frames.Frames.links.Goals as goal

pub returns-then-frame-self : goal.returns-then-frame-self
returns-then-frame-self c =
    c.field.ensures
    ∙ sym (links_within c.args.mem.now c.args.frame (omega (arith, c.requires.held.size, c.self.view_is, c.if-frame-self.true)))

pub returns-else-frame-self : goal.returns-else-frame-self
returns-else-frame-self c =
    sym (links_past c.args.mem.now c.args.frame (omega (arith, c.requires.held.size, c.self.view_is, c.if-frame-self.false)))
