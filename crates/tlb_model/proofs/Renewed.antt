-- The translation of the ring's first place gets the place behind the last one: the pairs of the ring.
use Rattle.std.proofs.Common.{◌≡◌, ℕ, suc, ◌+◌, ◌-◌, ◌%◌, ◌<◌, ◌≤◌, true, ◌==◌, List, [], ◌∷◌, ◌++◌, length, drop, take, slice_set, arith, sym, ap, ap₂, append_assoc, ◌∙◌}
use Rattle.std.proofs.lemmas.Bool.{and_from, and_parts, eq-eqb}
use Rattle.std.proofs.lemmas.List.{drop-append-le, length-append, length-drop, length-take-le, take-append-le}
use Rattle.std.proofs.lemmas.Option.{slice_get_within}
use Rattle.nk_bits.specs.declared.leaf.Leaf.{Leaf}
use Rattle.nk_bits.specs.Translations.{Pairs}
use Rattle.tlb_model.specs.declared.slot.Slot.{Slot}
use Rattle.tlb_model.specs.SlotBuckets.{slot_at}
use Rattle.tlb_model.specs.TranslationTable.{IsCleanedBy, stands, pairs_from}
use Rattle.tlb_model.proofs.Ages.{kept_within, pairs_append, pairs_here, pairs_round, pairs_same, slot_changed, stale, stands_kept, stands_place}
use Rattle.tlb_model.proofs.Passed.{drop_next, take_next}

-- a slot with another place
abbrev pub placed : Slot → ℕ → Slot
placed slot place = record slot { place = place }

module _ (slots : List Slot) (g front at : ℕ) (rest : List ℕ) (place : ℕ) (below : front < 2048) (fits : length rest < 2048)
    (here : stands g front (slot_at slots at) ≡ true) (place_is : place ≡ (front + 1 + length rest) % 2048) where
  abbrev pub changed : List Slot
  changed = slice_set slots at (placed (slot_at slots at) place)

  abbrev pub own_pair : ℕ × Leaf
  own_pair = ((slot_at slots at).page, (slot_at slots at).leaf)

  within : at < length slots
  within = kept_within slots g at (stands_kept g front (slot_at slots at) here)

  first_place : (slot_at slots at).place ≡ front
  first_place = omega (arith, stands_place g front (slot_at slots at) here, below)

  -- a part of the rest stands for the same pairs as before
  pub renewed_part : (offset : ℕ) (part : List ℕ) → offset + length part ≤ length rest → pairs_from changed g (front + 1 + offset) part ≡ pairs_from slots g (front + 1 + offset) part
  renewed_part offset part inside =
      pairs_same slots at (placed (slot_at slots at) place) g (front + 1 + offset) part within
      (λ k found. stale g (front + 1 + offset + k) (slot_at slots at) (λ same. absurd (omega (arith, same, first_place, slice_get_within part k at found, inside, fits, below))))
      (λ k found. stale g (front + 1 + offset + k) (placed (slot_at slots at) place) (λ same. absurd (omega (arith, same, place_is, slice_get_within part k at found, inside, fits, below))))

  -- the new place stands for the translation
  renewed_last : (n : ℕ) → n % 2048 ≡ (front + 1 + length rest) % 2048 → pairs_from changed g n (at ∷ []) ≡ own_pair ∷ []
  renewed_last n same =
      let there : slot_at changed at ≡ placed (slot_at slots at) place = slot_changed slots at (placed (slot_at slots at) place) within in
      pairs_here changed g n at []
      (ap (stands g n) there ∙ and_from ((slot_at slots at).generation == g) (place == n % 2048)
      (and_parts ((slot_at slots at).generation == g) ((slot_at slots at).place == front % 2048) here).0 (eq-eqb place (n % 2048) (place_is ∙ sym same)))
      ∙ ap (λ (slot : Slot). (slot.page, slot.leaf) ∷ []) there

  -- the places behind those that are left
  pub renewed_behind : (left : ℕ) → left ≤ length rest →
      pairs_from changed g ((front + 1) % 2048 + left) (drop left (rest ++ at ∷ [])) ≡ pairs_from slots g (front + 1 + left) (drop left rest) ++ own_pair ∷ []
  renewed_behind left most =
      let round : ((front + 1) % 2048 + left) % 2048 ≡ (front + 1 + left) % 2048 = omega arith in
      let size : length (drop left rest) ≡ length rest - left = length-drop left rest in
      let end : (front + 1 + left + length (drop left rest)) % 2048 ≡ (front + 1 + length rest) % 2048 = omega (arith, size, most) in
      pairs_round changed g ((front + 1) % 2048 + left) (front + 1 + left) (drop left (rest ++ at ∷ [])) round
      ∙ ap (pairs_from changed g (front + 1 + left)) (drop-append-le left rest (at ∷ []) most)
      ∙ pairs_append changed g (front + 1 + left) (drop left rest) (at ∷ [])
      ∙ ap₂ (λ (one : Pairs) (other : Pairs). one ++ other) (renewed_part left (drop left rest) (omega (arith, size, most))) (renewed_last (front + 1 + left + length (drop left rest)) end)

  -- the places that are left, and the first one before them
  pub renewed_left : (left : ℕ) → left ≤ length rest →
      own_pair ∷ pairs_from changed g ((front + 1) % 2048) (take left (rest ++ at ∷ [])) ≡ pairs_from slots g front (take (left + 1) (at ∷ rest))
  renewed_left left most =
      let round : (front + 1) % 2048 % 2048 ≡ (front + 1 + 0) % 2048 = omega arith in
      let base : front + 1 + 0 ≡ front + 1 = omega arith in
      ap (λ pairs. own_pair ∷ pairs)
      (pairs_round changed g ((front + 1) % 2048) (front + 1 + 0) (take left (rest ++ at ∷ [])) round
      ∙ ap (pairs_from changed g (front + 1 + 0)) (take-append-le left rest (at ∷ []) most)
      ∙ renewed_part 0 (take left rest) (omega (arith, length-take-le left rest most))
      ∙ ap (λ n. pairs_from slots g n (take left rest)) base)
      ∙ sym (pairs_here slots g front at (take left rest) here) ∙ ap (pairs_from slots g front) (sym (take_next at rest left))

  pub renewed_cleaned : (left : ℕ) (pairs : Pairs) → IsCleanedBy slots g front (at ∷ rest) (left + 1) pairs →
      IsCleanedBy changed g ((front + 1) % 2048) (rest ++ at ∷ []) left pairs
  renewed_cleaned left pairs it =
      let most : left + 1 ≤ suc (length rest) = it.within in
      let less : left ≤ length rest = omega (arith, most) in
      let same : front + (left + 1) ≡ front + 1 + left = omega arith in
      let behind : pairs_from slots g (front + (left + 1)) (drop (left + 1) (at ∷ rest)) ≡ pairs_from slots g (front + 1 + left) (drop left rest) =
      ap₂ (λ n ring. pairs_from slots g n ring) same (drop_next at rest left) in
      let size : length (pairs_from slots g (front + 1 + left) (drop left rest)) ≡ suc (length rest) - (left + 1) = ap length (sym behind) ∙ it.clean in
      let count : length (pairs_from slots g (front + 1 + left) (drop left rest) ++ own_pair ∷ []) ≡ length (rest ++ at ∷ []) - left =
      omega (arith, size, less, length-append (pairs_from slots g (front + 1 + left) (drop left rest)) (own_pair ∷ []), length-append rest (at ∷ [])) in
      record {
        within = omega (arith, less, length-append rest (at ∷ []));
        clean = ap length (renewed_behind left less) ∙ count;
        told =
            ap (λ (pairs : Pairs). pairs ++ pairs_from changed g ((front + 1) % 2048) (take left (rest ++ at ∷ []))) (renewed_behind left less)
            ∙ append_assoc (pairs_from slots g (front + 1 + left) (drop left rest)) (own_pair ∷ []) (pairs_from changed g ((front + 1) % 2048) (take left (rest ++ at ∷ [])))
            ∙ ap₂ (λ (one : Pairs) (other : Pairs). one ++ other) (sym behind) (renewed_left left less) ∙ it.told;
      }
