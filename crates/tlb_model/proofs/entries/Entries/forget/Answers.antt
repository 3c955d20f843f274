use Rattle.std.proofs.Common.{not, sym, subst, arith}
use Rattle.std.proofs.lemmas.Grind.{common_steps}
use Rattle.nk_bits.specs.UpperEntries.{HasDistinctEntries}
use Rattle.tlb_model.proofs.EntryLaws.{has, distinct_left}
use Rattle.tlb_model.proofs.entries.Entries.forget.Goals as goal

distinct : (c : goal.After-remove_entry) → HasDistinctEntries c.remove_entry.new.list.items
distinct c =
    subst HasDistinctEntries (sym c.remove_entry.ensures.without)
    (distinct_left (λ entry. not (has c.args.level c.span.result entry)) c.self.inside.list.items c.self.invariant.2)

pub invariant_of-self : goal.invariant_of-self
invariant_of-self c = (grind (arith, common_steps), grind (arith, common_steps), distinct c)

pub returns-clause-distinct : goal.returns-clause-distinct
returns-clause-distinct c = distinct c
