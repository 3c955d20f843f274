-- What a look-up and a drop by slots are by the pairs that the table stands for.
use Rattle.std.proofs.Common.{◌≡◌, ◌≢◌, ℕ, true, [], ◌∷◌, slice_index_or, Some, None, refl, sym, ap, ◌∙◌, inl, inr}
use Rattle.std.proofs.lemmas.Bool.{cases_eq}
use Rattle.std.proofs.lemmas.List.{get_or_default}
use Rattle.std.proofs.lemmas.Option.{none-some}
use Rattle.nk_bits.specs.Translations.{Pairs, dropped, look}
use Rattle.tlb_model.specs.declared.slot.Slot.{Slot}
use Rattle.tlb_model.specs.declared.table.Table.{Table}
use Rattle.tlb_model.specs.SlotBuckets.{empty_slot, is_kept, slot_at}
use Rattle.tlb_model.specs.TranslationTable.{IsTable, pairs_of}
use Rattle.tlb_model.proofs.Ages.{dropped_later, kept_within, look_anchored, look_first, look_later, look_none}

-- a slot that keeps the page has what is found of it, whatever stands for a slot past the end
pub look_kept : (t : Table) (at page : ℕ) (past : Slot) → IsTable t → is_kept t.generation (slot_at t.slots at) ≡ true → (slot_at t.slots at).page ≡ page
    → Some (slice_index_or t.slots at past).leaf ≡ look (pairs_of t) page
look_kept t at page past it kept own =
    let alone : (other : ℕ) → is_kept t.generation (slot_at t.slots other) ≡ true → (slot_at t.slots other).page ≡ (slot_at t.slots at).page → other ≡ at =
    λ other held same. it.apart other at held kept same in
    ap (λ (slot : Slot). Some slot.leaf) (get_or_default t.slots at past empty_slot (kept_within t.slots t.generation at kept))
    ∙ sym (look_anchored t.slots t.generation t.front t.ages.items at kept it.front (it.anchored at kept) alone)
    ∙ ap (look (pairs_of t)) own

-- a page of which nothing is found has no pair to drop
pub dropped_none : (pairs : Pairs) (page : ℕ) → look pairs page ≡ None → dropped pairs page ≡ pairs
dropped_none [] page none = refl
dropped_none (pair ∷ pairs) page none = elim (cases_eq pair.0 page) [
  | inl same ↦ absurd (none-some pair.1 (sym none ∙ look_first page pair.0 pair.1 pairs same))
  | inr differ ↦ dropped_later page pair pairs differ ∙ ap (λ rest. pair ∷ rest) (dropped_none pairs page (sym (look_later page pair.0 pair.1 pairs differ) ∙ none))
]

-- of a page that no slot keeps nothing is found, and nothing dropped
pub look_missing : (t : Table) (page : ℕ) → ((at : ℕ) → is_kept t.generation (slot_at t.slots at) ≡ true → (slot_at t.slots at).page ≢ page) → look (pairs_of t) page ≡ None
look_missing t page none = look_none t.slots t.generation t.front t.ages.items page none

pub dropped_missing : (t : Table) (page : ℕ) → ((at : ℕ) → is_kept t.generation (slot_at t.slots at) ≡ true → (slot_at t.slots at).page ≢ page) → dropped (pairs_of t) page ≡ pairs_of t
dropped_missing t page none = dropped_none (pairs_of t) page (look_missing t page none)
