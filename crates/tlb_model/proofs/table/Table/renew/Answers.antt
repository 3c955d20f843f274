use Rattle.std.proofs.Common.{◌≡◌, ◌+◌, ◌-◌, ◌%◌, ℕ, [], ◌∷◌, ◌++◌, true, arith, sym, ap, ap₂, subst, slice_set, drop, length, ◌∙◌}
use Rattle.std.proofs.lemmas.List.{length-append, length-drop}
use Rattle.circular_buffer.specs.Buffer.{Buffer, buffer, keep_last}
use Rattle.tlb_model.specs.declared.table.Table.{Table}
use Rattle.tlb_model.specs.SlotBuckets.{slot_at}
use Rattle.tlb_model.specs.TranslationTable.{IsCleanedBy, IsTable, stands}
use Rattle.tlb_model.proofs.Passed.{popped}
use Rattle.tlb_model.proofs.Renewed.{placed}
use Rattle.tlb_model.proofs.RenewedTable.{cleaned_renewed, renewed, renewed_table}
use Rattle.tlb_model.proofs.table.Table.renew.Goals as goal

here : (c : goal.After-push_back) → stands c.args.self.now.generation c.args.self.now.front (slot_at c.args.self.now.slots c.first-at.result) ≡ true
here c = c.requires.stands c.first-at.result c.first-at.ensures.first

place_is : (c : goal.After-push_back) → c.next_place-place.result ≡ (c.args.self.now.front + 1 + length (drop 1 c.args.self.now.ages.items)) % 2048
place_is c =
    let round : ((c.args.self.now.front + 1) % 2048 + length (drop 1 c.args.self.now.ages.items)) % 2048
    ≡ (c.args.self.now.front + 1 + length (drop 1 c.args.self.now.ages.items)) % 2048 = omega arith in
    c.next_place-place.ensures ∙ ap (λ t. (t.front + length t.ages.items) % 2048) c.pop.ensures.ring ∙ round

after_place : (c : goal.After-push_back) → c.place_at.new.self ≡
    record (popped c.args.self.now) { slots = slice_set c.args.self.now.slots c.first-at.result (placed (slot_at c.args.self.now.slots c.first-at.result) c.next_place-place.result) }
after_place c =
    c.place_at.ensures
    ∙ ap (λ (t : Table). record t { slots = slice_set t.slots c.first-at.result (placed (slot_at t.slots c.first-at.result) c.next_place-place.result) }) c.pop.ensures.ring

after_push : (c : goal.After-push_back) → c.push_back.new.self ≡ buffer (drop 1 c.args.self.now.ages.items ++ c.first-at.result ∷ []) 2048
after_push c =
    let fits : length (drop 1 c.args.self.now.ages.items ++ c.first-at.result ∷ []) - 2048 ≡ 0 =
    omega (arith, length-append (drop 1 c.args.self.now.ages.items) (c.first-at.result ∷ []), length-drop 1 c.args.self.now.ages.items, c.requires.table.fits, c.requires.some) in
    c.push_back.ensures.items
    ∙ ap (λ (t : Table). buffer (keep_last t.ages.capacity (t.ages.items ++ c.first-at.result ∷ [])) t.ages.capacity) (after_place c)
    ∙ ap (λ n. buffer (drop n (drop 1 c.args.self.now.ages.items ++ c.first-at.result ∷ [])) 2048) fits

after : (c : goal.After-push_back) → record c.place_at.new.self { ages = c.push_back.new.self } ≡ renewed c.args.self.now c.first-at.result c.next_place-place.result
after c = ap₂ (λ (t : Table) (ages : Buffer ℕ). record t { ages = ages }) (after_place c) (after_push c)

pub pop-requires : goal.pop-requires
pop-requires c = record { room = c.requires.table.room; front = c.requires.table.front }

pub returns-clause-table : goal.returns-clause-table
returns-clause-table c =
    subst IsTable (sym (after c)) (renewed_table c.args.self.now c.first-at.result c.next_place-place.result c.requires.table c.first-at.ensures.first (here c) (place_is c))

pub returns-clause-cleaned : goal.returns-clause-cleaned
returns-clause-cleaned c =
    λ left pairs it. subst (λ t. IsCleanedBy t.slots t.generation t.front t.ages.items left pairs) (sym (after c))
    (cleaned_renewed c.args.self.now c.first-at.result c.next_place-place.result c.requires.table c.first-at.ensures.first (here c) (place_is c) left pairs it)
