use Rattle.std.proofs.Common.{length, subst, sym, ap, refl, ◌∙◌}
use Rattle.nk_bits.specs.Translations.{NamesFramesIn}
use Rattle.page_walk.specs.MemoryAccess.{view_of}
use Rattle.mem_access.proofs.Judgements.{page_faulted, page_kept}
use Rattle.mem_access.proofs.pages.resolve.Goals as goal

pub returns-then-is_err-clause-outcome : goal.returns-then-is_err-clause-outcome
returns-then-is_err-clause-outcome c =
    page_faulted (view_of c.args.mem.now c.args.control.now c.args.cpl) c.args.access c.args.tlb.now c.translate-leaf.new.tlb c.args.va c.translate-leaf.result c.judge-answer.result
    c.translate-leaf.ensures.found c.translate-leaf.ensures.tlb c.judge-answer.ensures.result c.page.result c.drop_fault.new.self
    (sym c.is_err.ensures.value ∙ c.if-is_err.true) c.page.ensures c.drop_fault.ensures.faulted

pub returns-else-is_err-clause-outcome : goal.returns-else-is_err-clause-outcome
returns-else-is_err-clause-outcome c =
    page_kept (view_of c.args.mem.now c.args.control.now c.args.cpl) c.args.access c.args.tlb.now c.translate-leaf.new.tlb c.args.va c.translate-leaf.result c.judge-answer.result
    c.translate-leaf.ensures.found c.translate-leaf.ensures.tlb c.judge-answer.ensures.result (sym c.is_err.ensures.value ∙ c.if-is_err.false)

pub returns-then-is_err-clause-frames : goal.returns-then-is_err-clause-frames
returns-then-is_err-clause-frames c =
    subst (λ tlb. NamesFramesIn (length c.args.mem.now) tlb) (sym (ap (λ o. o.tlb) (returns-then-is_err-clause-outcome c)))
    (c.access_law.ensures.within (view_of c.args.mem.now c.args.control.now c.args.cpl) c.args.access (length c.args.mem.now) c.args.tlb.now c.args.va refl c.requires.canonical c.requires.context.frames)

pub returns-else-is_err-clause-frames : goal.returns-else-is_err-clause-frames
returns-else-is_err-clause-frames c =
    subst (λ tlb. NamesFramesIn (length c.args.mem.now) tlb) (sym (ap (λ o. o.tlb) (returns-else-is_err-clause-outcome c)))
    (c.access_law.ensures.within (view_of c.args.mem.now c.args.control.now c.args.cpl) c.args.access (length c.args.mem.now) c.args.tlb.now c.args.va refl c.requires.canonical c.requires.context.frames)
