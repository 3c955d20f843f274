use Rattle.std.proofs.Common.{◌≡◌, ◌≤◌, not, ◌∷◌, ◌++◌, [], ap, ◌∙◌, sym, subst, length, arith}
use Rattle.std.specs.Prelude.{filter}
use Rattle.std.proofs.lemmas.Grind.{common_steps}
use Rattle.nk_bits.specs.UpperEntries.{upper_capacity, with_entry, HasDistinctEntries}
use Rattle.tlb_model.proofs.EntryLaws.{has, entry_made, length-with_entry, distinct_with_entry}
use Rattle.tlb_model.proofs.entries.Entries.keep.Goals as goal

pub unwrap-requires : goal.unwrap-requires
unwrap-requires c = c.push.ensures.succeeds (grind (arith, common_steps))

kept : (c : goal.After-unwrap) → c.push.new.self.items ≡ with_entry c.self.inside.list.items c.args.level c.args.page c.args.upper
kept c =
    let pushed : c.push.new.self.items ≡ c.make_room.new.list.items ++ (c.args.level, c.span-bits.result, c.args.upper) ∷ [] = rw c.unwrap.ensures at c.push.ensures.items in
    pushed ∙ ap (λ list. list ++ (c.args.level, c.span-bits.result, c.args.upper) ∷ []) c.make_room.ensures.youngest
    ∙ entry_made c.self.inside.list.items c.remove_entry.new.list.items c.args.level c.args.page c.span-bits.result c.args.upper
    (c.remove_entry.ensures.without ∙ ap (λ bits. filter (λ entry. not (has c.args.level bits entry)) c.self.inside.list.items) c.span-bits.ensures) c.span-bits.ensures (omega (arith, c.remove_entry.ensures.length, c.self.invariant.0))

distinct : (c : goal.After-unwrap) → HasDistinctEntries c.push.new.self.items
distinct c = subst HasDistinctEntries (sym (kept c)) (distinct_with_entry c.self.inside.list.items c.args.level c.args.page c.args.upper c.self.invariant.2)

bound : (c : goal.After-unwrap) → length c.push.new.self.items ≤ upper_capacity
bound c = rw (kept c) (length-with_entry c.self.inside.list.items c.args.level c.args.page c.args.upper)

pub invariant_of-self : goal.invariant_of-self
invariant_of-self c = (bound c, grind (arith, common_steps), distinct c)

pub returns-clause-kept : goal.returns-clause-kept
returns-clause-kept c = kept c ∙ ap (λ list. with_entry list c.args.level c.args.page c.args.upper) c.self.view_is

pub returns-clause-bound : goal.returns-clause-bound
returns-clause-bound c = bound c

pub returns-clause-distinct : goal.returns-clause-distinct
returns-clause-distinct c = distinct c
