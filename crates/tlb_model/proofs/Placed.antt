-- A page's leaf is put into a free slot of a table, and the slot behind the ring's last place.
use Rattle.std.proofs.Common.{◌≡◌, ◌≢◌, ℕ, zero, suc, ◌+◌, ◌-◌, ◌%◌, ◌<◌, ◌≤◌, true, false, ◌==◌, List, [], ◌∷◌, ◌++◌, length, slice_get, slice_index_or, slice_set, nat_lt, Some, None, arith, refl, sym, ap, subst, inl, inr, ◌∙◌, lit<, mod-lt}
use Rattle.std.proofs.lemmas.Bool.{eq-eqb, lt-ltb, and_from, cases_eq}
use Rattle.std.proofs.lemmas.List.{length-append}
use Rattle.std.proofs.lemmas.List.Elements.{All-push}
use Rattle.std.proofs.lemmas.List.Quantifiers.{all_pairs_push}
use Rattle.std.proofs.lemmas.Option.{none-some, slice_get_within}
use Rattle.circular_buffer.proofs.Places.{slice_get-push, slice_get-append_right}
use Rattle.nk_bits.specs.declared.leaf.Leaf.{Leaf}
use Rattle.nk_bits.specs.Translations.{Pairs, HasDistinctPages, look}
use Rattle.tlb_model.specs.declared.chains.Chains.{Chains}
use Rattle.tlb_model.specs.declared.order.Order.{Order}
use Rattle.tlb_model.specs.declared.slot.Slot.{Slot}
use Rattle.tlb_model.specs.declared.table.Table.{Table}
use Rattle.tlb_model.specs.SlotBuckets.{IsChained, is_kept, slot_at}
use Rattle.tlb_model.specs.SlotOrder.{IsOrder, is_slot_used}
use Rattle.tlb_model.specs.TranslationTable.{IsTable, pairs_from, pairs_of, stands}
use Rattle.tlb_model.proofs.Ages.{kept_stands, look_anchored, look_first, look_later, pairs_append, pairs_here, pairs_same, slot_changed, slot_left, stale}
use Rattle.tlb_model.proofs.Empty.{stands_none}

-- where nothing is found of a page, no pair is the page's
pub differ_from_absent : (pairs : Pairs) (page : ℕ) → look pairs page ≡ None → (k : ℕ) (d : ℕ × Leaf) → k < length pairs → (slice_index_or pairs k d).0 ≢ page
differ_from_absent [] page absent k d below same = absurd (omega (arith, below))
differ_from_absent (pair ∷ pairs) page absent zero d below same = none-some pair.1 (sym absent ∙ look_first page pair.0 pair.1 pairs same)
differ_from_absent (pair ∷ pairs) page absent (suc k) d below same = elim (cases_eq pair.0 page) [
  | inl first ↦ none-some pair.1 (sym absent ∙ look_first page pair.0 pair.1 pairs first)
  | inr later ↦ differ_from_absent pairs page (sym (look_later page pair.0 pair.1 pairs later) ∙ absent) k d (omega (arith, below)) same
]

module _ (t : Table) (it : IsTable t) (page : ℕ) (leaf : Leaf) (at : ℕ) (bound : at < 1024) (within : at < length t.slots)
    (free : is_kept t.generation (slot_at t.slots at) ≡ false) (absent : look (pairs_of t) page ≡ None) (room : length t.ages.items < 2048) where
  abbrev pub placed : Slot
  placed = record { page = page; generation = t.generation; leaf = leaf; place = (t.front + length t.ages.items) % 2048 }

  abbrev pub slots_placed : List Slot
  slots_placed = slice_set t.slots at placed

  abbrev pub ring_placed : List ℕ
  ring_placed = t.ages.items ++ at ∷ []

  pub kept_placed : is_kept t.generation placed ≡ true
  kept_placed = and_from (t.generation == t.generation) (nat_lt ((t.front + length t.ages.items) % 2048) 2048) (eq-eqb t.generation t.generation refl) (lt-ltb ((t.front + length t.ages.items) % 2048) 2048 (mod-lt (t.front + length t.ages.items) (lit< tt)))

  -- what holds of the new slot, and of each other one as it was, holds of each
  each : (P : ℕ → Slot → Type 0) → P at placed → ((k : ℕ) → k ≢ at → P k (slot_at t.slots k)) → (k : ℕ) → P k (slot_at slots_placed k)
  each P here there k = elim (cases_eq k at) [
    | inl same ↦ subst (λ i. P i (slot_at slots_placed i)) (sym same) (subst (P at) (sym (slot_changed t.slots at placed within)) here)
    | inr differ ↦ subst (P k) (sym (slot_left t.slots at placed k differ)) (there k differ)
  ]

  unkept : (k : ℕ) → is_kept t.generation (slot_at t.slots k) ≡ true → (slot_at t.slots k).page ≢ page
  unkept k kept same =
      none-some (slot_at t.slots k).leaf
      (sym absent ∙ ap (look (pairs_of t)) (sym same) ∙ look_anchored t.slots t.generation t.front t.ages.items k kept it.front (it.anchored k kept) (λ other kept_too alike. it.apart other k kept_too kept alike))

  anchored : (k : ℕ) → is_kept t.generation (slot_at slots_placed k) ≡ true → slice_get ring_placed (((slot_at slots_placed k).place + 2048 - t.front) % 2048) ≡ Some k
  anchored = each (λ k slot. is_kept t.generation slot ≡ true → slice_get ring_placed ((slot.place + 2048 - t.front) % 2048) ≡ Some k) here there
    where
      here : is_kept t.generation placed ≡ true → slice_get ring_placed (((t.front + length t.ages.items) % 2048 + 2048 - t.front) % 2048) ≡ Some at
      here kept =
          let last : ((t.front + length t.ages.items) % 2048 + 2048 - t.front) % 2048 ≡ length t.ages.items + 0 = omega (arith, it.front, room) in
          slice_get-append_right t.ages.items (at ∷ []) (((t.front + length t.ages.items) % 2048 + 2048 - t.front) % 2048) 0 last

      there : (k : ℕ) → k ≢ at → is_kept t.generation (slot_at t.slots k) ≡ true → slice_get ring_placed (((slot_at t.slots k).place + 2048 - t.front) % 2048) ≡ Some k
      there k differ kept =
          let below : ((slot_at t.slots k).place + 2048 - t.front) % 2048 < length t.ages.items = slice_get_within t.ages.items (((slot_at t.slots k).place + 2048 - t.front) % 2048) k (it.anchored k kept) in
          slice_get-push t.ages.items at (((slot_at t.slots k).place + 2048 - t.front) % 2048) (λ e. omega (arith, e, below)) ∙ it.anchored k kept

  apart : (one other : ℕ) → is_kept t.generation (slot_at slots_placed one) ≡ true → is_kept t.generation (slot_at slots_placed other) ≡ true →
      (slot_at slots_placed one).page ≡ (slot_at slots_placed other).page → one ≡ other
  apart one other = each (λ k slot. is_kept t.generation slot ≡ true → is_kept t.generation (slot_at slots_placed other) ≡ true → slot.page ≡ (slot_at slots_placed other).page → k ≡ other)
      (each (λ k slot. is_kept t.generation placed ≡ true → is_kept t.generation slot ≡ true → page ≡ slot.page → at ≡ k) (λ _ _ _. refl) (λ k differ _ kept same. absurd (unkept k kept (sym same))) other)
      (λ i away. each (λ k slot. is_kept t.generation (slot_at t.slots i) ≡ true → is_kept t.generation slot ≡ true → (slot_at t.slots i).page ≡ slot.page → i ≡ k)
      (λ kept _ same. absurd (unkept i kept same)) (λ k differ kept kept_too same. it.apart i k kept kept_too same) other) one

  pub pairs_placed : pairs_from slots_placed t.generation t.front ring_placed ≡ pairs_of t ++ (page, leaf) ∷ []
  pairs_placed =
      pairs_append slots_placed t.generation t.front t.ages.items (at ∷ [])
      ∙ ap (λ (front : Pairs). front ++ pairs_from slots_placed t.generation (t.front + length t.ages.items) (at ∷ [])) before
      ∙ ap (λ (last : Pairs). pairs_of t ++ last) last
    where
      before : pairs_from slots_placed t.generation t.front t.ages.items ≡ pairs_of t
      before = pairs_same t.slots at placed t.generation t.front t.ages.items within
          (λ k found. stands_none t.generation (t.front + k) (slot_at t.slots at) free)
          (λ k found. stale t.generation (t.front + k) placed (λ e. omega (arith, e, room, slice_get_within t.ages.items k at found)))

      last : pairs_from slots_placed t.generation (t.front + length t.ages.items) (at ∷ []) ≡ (page, leaf) ∷ []
      last =
          pairs_here slots_placed t.generation (t.front + length t.ages.items) at []
          (subst (λ slot. stands t.generation (t.front + length t.ages.items) slot ≡ true) (sym (slot_changed t.slots at placed within))
          (kept_stands t.generation (t.front + length t.ages.items) placed kept_placed refl))
          ∙ ap (λ (slot : Slot). (slot.page, slot.leaf) ∷ []) (slot_changed t.slots at placed within)

  pub table_placed : (chains : Chains) (order : Order) → IsChained t.generation slots_placed chains.firsts chains.nexts → IsOrder order → order.count ≡ t.order.count + 1 →
      is_slot_used order at ≡ true → ((other : ℕ) → other < 1024 → other ≢ at → is_slot_used order other ≡ is_slot_used t.order other) →
      IsTable record { slots = slots_placed; chains = chains; order = order; ages = record { items = ring_placed; capacity = t.ages.capacity }; front = t.front; generation = t.generation }
  table_placed chains order chained ordered count taken others = record {
    anchored = anchored;
    apart = apart;
    chained = chained;
    older = each (λ k slot. slot.generation ≤ t.generation) (omega arith) (λ k differ. it.older k);
    room = it.room;
    fits = omega (arith, room, length-append t.ages.items (at ∷ []));
    named = All-push (λ k. k < 1024) t.ages.items at it.named bound;
    front = it.front;
    ordered = ordered;
    taken = each (λ k slot. k < 1024 → is_kept t.generation slot ≡ is_slot_used order k) (λ _. kept_placed ∙ sym taken) (λ k differ below. it.taken k below ∙ sym (others k below differ));
    listed = counted;
    distinct = subst HasDistinctPages (sym pairs_placed) (all_pairs_push (λ one other. one.0 ≢ other.0) (pairs_of t) (page, leaf) it.distinct (differ_from_absent (pairs_of t) page absent));
  }
    where
      counted : order.count ≡ length (pairs_from slots_placed t.generation t.front ring_placed)
      counted =
          let more : order.count ≡ length (pairs_of t ++ (page, leaf) ∷ []) = omega (arith, count, it.listed, length-append (pairs_of t) ((page, leaf) ∷ [])) in
          more ∙ sym (ap length pairs_placed)
