use Rattle.std.proofs.Common.{◌*◌, ◌<◌, IfSome, length, subst, sym, ◌∙◌}
use Rattle.nk_bits.specs.Translations.{NamesFramesIn}
use Rattle.mem_access.proofs.pages.translate.Goals as goal

pub returns-in-Some-clause-frame : goal.returns-in-Some-clause-frame
returns-in-Some-clause-frame c =
    subst (λ found. IfSome found (λ leaf. 4096 * leaf.frame < length c.args.mem.now)) (sym c.look.ensures.found ∙ c.in-Some.is)
    (c.translation_law.ensures.look_within c.args.tlb.now c.page.result (length c.args.mem.now) c.requires.context.frames)

pub returns-in-Ok-clause-frames : goal.returns-in-Ok-clause-frames
returns-in-Ok-clause-frames c =
    subst (NamesFramesIn (length c.args.mem.now)) (sym c.fill.ensures.filled)
    (c.named_law.ensures.filled (length c.args.mem.now) c.args.tlb.now _ _ c.requires.context.frames c.in-Ok.ensures.frame)
