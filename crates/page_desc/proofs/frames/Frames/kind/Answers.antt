use Rattle.std.proofs.Common.{ap, arith, sym, ◌∙◌}
use Rattle.page_desc.specs.DescriptorBytes.{kind_by}
use Rattle.page_desc.proofs.DescriptorValues.{kind_past, kind_within}
use Rattle.page_desc.proofs.frames.Frames.kind.Goals as goal

pub returns-then-frame-self : goal.returns-then-frame-self
returns-then-frame-self c =
    c.kind_by.ensures ∙ ap kind_by c.field.ensures
    ∙ sym (kind_within c.args.mem.now c.args.frame (omega (arith, c.requires.held.size, c.self.view_is, c.if-frame-self.true)))

pub returns-else-frame-self : goal.returns-else-frame-self
returns-else-frame-self c =
    sym (kind_past c.args.mem.now c.args.frame (omega (arith, c.requires.held.size, c.self.view_is, c.if-frame-self.false)))
