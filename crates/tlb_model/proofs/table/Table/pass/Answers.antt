use Rattle.std.proofs.Common.{◌≡◌, ◌+◌, false, Some, arith, sym, ap, subst, slice_get, slice_index, length, ◌∙◌}
use Rattle.std.proofs.lemmas.List.{length-drop}
use Rattle.std.proofs.lemmas.Option.{slice_get-get_or}
use Rattle.tlb_model.specs.SlotBuckets.{slot_at}
use Rattle.tlb_model.specs.TranslationTable.{IsCleanedBy, IsTable, pairs_of, stands}
use Rattle.tlb_model.proofs.Passed.{passed, passed_pairs, cleaned_passed}
use Rattle.tlb_model.proofs.table.Table.pass.Goals as goal

first : (c : goal.After-pop) → slice_get c.args.self.now.ages.items 0 ≡ Some (slice_index c.args.self.now.ages.items 0)
first c = slice_get-get_or c.args.self.now.ages.items 0 0 c.requires.some

gone : (c : goal.After-pop) → stands c.args.self.now.generation c.args.self.now.front (slot_at c.args.self.now.slots (slice_index c.args.self.now.ages.items 0)) ≡ false
gone c = c.requires.stale _ (first c)

pub returns-clause-table : goal.returns-clause-table
returns-clause-table c = subst IsTable (sym c.pop.ensures.ring) (passed c.args.self.now _ c.requires.table (first c) (gone c))

pub returns-clause-same : goal.returns-clause-same
returns-clause-same c = ap pairs_of c.pop.ensures.ring ∙ passed_pairs c.args.self.now _ (first c) (gone c)

pub returns-clause-places : goal.returns-clause-places
returns-clause-places c =
    ap (λ t. length t.ages.items + 1) c.pop.ensures.ring ∙ omega (arith, length-drop 1 c.args.self.now.ages.items, c.requires.some)

pub returns-clause-cleaned : goal.returns-clause-cleaned
returns-clause-cleaned c =
    λ left pairs it. subst (λ t. IsCleanedBy t.slots t.generation t.front t.ages.items left pairs) (sym c.pop.ensures.ring)
    (cleaned_passed c.args.self.now _ left pairs (first c) (gone c) it)
