use Rattle.std.proofs.Common.{ap, arith, ◌∙◌}
use Rattle.page_desc.specs.DescriptorBytes.{kind_by}
use Rattle.page_desc.proofs.DescriptorValues.{kind_set_alone}
use Rattle.page_desc.proofs.frames.Frames.set_kind.Goals as goal

pub returns-clause-set : goal.returns-clause-set
returns-clause-set c =
    kind_set_alone c.self.inside.count c.args.mem.now c.put.new.mem c.args.frame c.args.kind
    (omega (arith, c.requires.held.size, c.self.view_is)) (omega (arith, c.requires.frame, c.self.view_is))
    (ap kind_by c.put.ensures.here ∙ c.word_of.ensures.back) c.put.ensures.apart c.put.ensures.differs
