use Rattle.std.proofs.Common.{◌≡◌, ◌*◌, ◌<◌, IfSome, length, subst, sym, ap, ◌∙◌}
use Rattle.std.specs.Prelude.{Some}
use Rattle.nk_bits.specs.declared.access.Access.TheVariants.{Read}
use Rattle.nk_bits.specs.Paging.{page_of}
use Rattle.nk_bits.specs.Translations.{look}
use Rattle.nk_bits.specs.Outcomes.{answered}
use Rattle.page_walk.specs.MemoryAccess.{view_of}
use Rattle.mem_access.proofs.Judgements.{read_of_write}
use Rattle.mem_access.proofs.kept.kept_page.Goals as goal

pub place_of-requires : goal.place_of-requires
place_of-requires c = record {
  frame =
      subst (λ found. IfSome found (λ leaf. 4096 * leaf.frame < length c.args.mem.now)) (sym c.look.ensures.found ∙ c.in-Some.is)
      (c.translation_law.ensures.look_within c.args.tlb.now c.page.result (length c.args.mem.now) c.requires.frames);
}

pub returns-in-Some-clause-place : goal.returns-in-Some-clause-place
returns-in-Some-clause-place c =
    let kept : look c.args.tlb.now.pairs (page_of c.args.va) ≡ Some c.in-Some.kept = ap (look c.args.tlb.now.pairs) (sym c.page.ensures) ∙ sym c.look.ensures.found ∙ c.in-Some.is in
    ap (λ place. answered place c.args.tlb.now) c.place_of.ensures.place
    ∙ sym (c.access_law.ensures.held (view_of c.args.mem.now c.args.control.now c.args.cpl) c.args.access c.args.tlb.now c.args.va c.in-Some.kept kept (sym c.may.ensures ∙ c.if-may.true))

pub returns-in-Some-clause-read : goal.returns-in-Some-clause-read
returns-in-Some-clause-read c = λ write.
    let kept : look c.args.tlb.now.pairs (page_of c.args.va) ≡ Some c.in-Some.kept = ap (look c.args.tlb.now.pairs) (sym c.page.ensures) ∙ sym c.look.ensures.found ∙ c.in-Some.is in
    ap (λ place. answered place c.args.tlb.now) c.place_of.ensures.place
    ∙ sym (c.access_law.ensures.held (view_of c.args.mem.now c.args.control.now c.args.cpl) Read c.args.tlb.now c.args.va c.in-Some.kept kept
    (read_of_write c.args.access c.in-Some.kept.rights c.args.cpl _ _ write (sym c.may.ensures ∙ c.if-may.true)))
