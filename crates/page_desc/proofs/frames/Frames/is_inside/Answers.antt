use Rattle.std.proofs.Common.{nat_lt, sym, ap, ◌∙◌}
use Rattle.page_desc.proofs.DescriptorValues.{descriptor_count}
use Rattle.page_desc.proofs.frames.Frames.is_inside.Goals as goal

pub returns-clause-inside : goal.returns-clause-inside
returns-clause-inside c =
    ap (nat_lt c.args.frame)
    (c.from.ensures ∙ c.frames.ensures.frames ∙ sym (descriptor_count _ c.args.mem.now c.requires.held).0)
