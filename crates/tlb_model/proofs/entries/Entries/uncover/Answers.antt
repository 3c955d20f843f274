use Rattle.std.proofs.Common.{not, sym, subst, arith}
use Rattle.std.proofs.lemmas.Grind.{common_steps}
use Rattle.nk_bits.specs.UpperEntries.{serves_page, HasDistinctEntries}
use Rattle.tlb_model.proofs.EntryLaws.{distinct_left}
use Rattle.tlb_model.proofs.entries.Entries.uncover.Goals as goal

distinct : (c : goal.After-remove_spans) → HasDistinctEntries c.remove_spans.new.list.items
distinct c =
    subst HasDistinctEntries (sym (c.remove_spans.ensures.uncovered c.args.page c.span-second.ensures c.span-third.ensures c.span-fourth.ensures))
    (distinct_left (λ entry. not (serves_page c.args.page entry)) c.self.inside.list.items c.self.invariant.2)

pub invariant_of-self : goal.invariant_of-self
invariant_of-self c = (grind (arith, common_steps), grind (arith, common_steps), distinct c)

pub returns-then-not-is_empty-clause-distinct : goal.returns-then-not-is_empty-clause-distinct
returns-then-not-is_empty-clause-distinct c = distinct c
