-- Bytes of a source that stand in one page: once its translation is kept they are read by it, one behind another.
use Rattle.std.proofs.Common.{◌≡◌, ℕ, zero, suc, ◌+◌, ◌-◌, ◌*◌, ◌/◌, ◌%◌, ◌^◌, ◌<◌, ◌≤◌, ◌&&◌, ◌||◌, ◌==◌, true, List, [], ◌∷◌, ◌++◌, drop, length, take, refl, sym, ap, ◌∙◌, arith}
use Rattle.std.specs.Prelude.{Option, None, Some, if◌then◌else◌}
use Rattle.std.proofs.lemmas.Bool.{lt-ltb}
use Rattle.std.proofs.lemmas.List.{append_assoc, drop-drop, drop-take, take-take}
use Rattle.std.proofs.Math.Seq.{drop-cons}
use Rattle.nk_bits.specs.declared.leaf.Leaf.{Leaf}
use Rattle.nk_bits.specs.Accesses.{place_in}
use Rattle.nk_bits.specs.Paging.{is_canonical, page_of}
use Rattle.nk_bits.specs.Translations.{Translations, fill_walked, look, or_walked}
use Rattle.nk_bits.specs.UpperEntries.{walk_by}
use Rattle.phys_mem.specs.Memory.{byte_at, entry_in, frame_bytes}
use Rattle.gate_state.specs.SourceBytes.{SourceRead, byte_through, in_front, is_readable, kept_by, read_on, source_byte, source_read, source_tlb}
use Rattle.gate_state.proofs.SourceReads.{behind, front_none, with_front}

-- a byte in front of a run that was read, and a run behind others
front_cons : (byte : ℕ) (bytes : List ℕ) (tlb : Translations) (later : SourceRead)
    → read_on (Some byte) tlb (with_front bytes later) ≡ with_front (byte ∷ bytes) later
front_cons byte bytes tlb later = by_bytes later.bytes
  where
    by_bytes : (rest : Option (List ℕ))
        → ◌≡◌ {A = SourceRead} (record { bytes = in_front byte (behind bytes rest); tlb = later.tlb })
        (record { bytes = behind (byte ∷ bytes) rest; tlb = later.tlb })
    by_bytes None = refl
    by_bytes (Some more) = refl

front_front : (front bytes : List ℕ) (later : SourceRead) → with_front front (with_front bytes later) ≡ with_front (front ++ bytes) later
front_front front bytes later = by_bytes later.bytes
  where
    by_bytes : (rest : Option (List ℕ))
        → ◌≡◌ {A = SourceRead} (record { bytes = behind front (behind bytes rest); tlb = later.tlb })
        (record { bytes = behind (front ++ bytes) rest; tlb = later.tlb })
    by_bytes None = refl
    by_bytes (Some more) = ap (λ (bytes : List ℕ). record { bytes = Some bytes; tlb = later.tlb }) (sym (append_assoc front bytes more))

-- bytes of a frame
pub frame_run : (m : List ℕ) (f first n : ℕ) → first + n ≤ 4096 → take n (drop first (frame_bytes m f)) ≡ take n (drop (4096 * f + first) m)
unfolding frame_bytes
frame_run m f first n fits =
    let split : 4096 ≡ first + (4096 - first) = omega (arith, fits) in
    ap (λ k. take n (drop first (take k (drop (4096 * f) m)))) split
    ∙ ap (take n) (drop-take first (4096 - first) (drop (4096 * f) m))
    ∙ take-take n (4096 - first) (drop first (drop (4096 * f) m)) (omega (arith, fits))
    ∙ ap (take n) (drop-drop first (4096 * f) m)

-- an address of 64 bits in the page of a canonical one is readable
readable_in : (at other : ℕ) → at < 2 ^ 64 → is_canonical at ≡ true → other / 4096 ≡ at / 4096 → is_readable other ≡ true
readable_in at other small canonical same =
    let upper : other / 2 ^ 47 ≡ at / 2 ^ 47 = omega (arith, same) in
    let below : other < 2 ^ 64 = omega (arith, same, small) in
    ap (λ b. b && is_canonical other) (lt-ltb other (2 ^ 64) below)
    ∙ ap (λ h. (h == 0) || (h == 2 ^ 17 - 1)) upper ∙ canonical

module _ (m : List ℕ) (root : ℕ) (tlb : Translations) (leaf : Leaf) where
  -- a byte of the page, and what it leaves
  kept_byte : (at : ℕ) → is_readable at ≡ true → look tlb.pairs (page_of at) ≡ Some leaf
      → source_byte m root tlb at ≡ Some (byte_at m (place_in leaf at))
  kept_byte at readable kept =
      ap (λ b. if b then byte_through m at (or_walked (look tlb.pairs (page_of at))
      (walk_by (entry_in m) (length m / 4096) root tlb.upper (page_of at))) else None) readable
      ∙ ap (λ o. byte_through m at (or_walked o (walk_by (entry_in m) (length m / 4096) root tlb.upper (page_of at)))) kept

  kept_tlb : (at : ℕ) → is_readable at ≡ true → look tlb.pairs (page_of at) ≡ Some leaf → source_tlb m root tlb at ≡ tlb
  kept_tlb at readable kept =
      ap (λ b. if b then kept_by (or_walked (look tlb.pairs (page_of at))
      (walk_by (entry_in m) (length m / 4096) root tlb.upper (page_of at)))
      (fill_walked tlb (page_of at) (look tlb.pairs (page_of at)) (walk_by (entry_in m) (length m / 4096) root tlb.upper (page_of at)))
      (page_of at) else tlb) readable
      ∙ ap (λ o. kept_by (or_walked o (walk_by (entry_in m) (length m / 4096) root tlb.upper (page_of at)))
      (fill_walked tlb (page_of at) o (walk_by (entry_in m) (length m / 4096) root tlb.upper (page_of at))) (page_of at)) kept

  -- so many bytes of the page
  run_read : (n at rest : ℕ) → at < 2 ^ 64 → is_canonical at ≡ true → look tlb.pairs (page_of at) ≡ Some leaf
      → at % 4096 + n ≤ 4096 → place_in leaf at + n ≤ length m
      → source_read m root tlb at (n + rest)
      ≡ with_front (take n (drop (place_in leaf at) m)) (source_read m root tlb (at + n) rest)
  unfolding source_read
  run_read zero at rest small canonical kept page inside =
      let here : at ≡ at + 0 = omega arith in
      let none : 0 + rest ≡ rest = omega arith in
      ap (source_read m root tlb at) none
      ∙ ap (λ at. source_read m root tlb at rest) here ∙ sym (front_none (source_read m root tlb (at + 0) rest))
  run_read (suc zero) at rest small canonical kept page inside =
      let readable : is_readable at ≡ true = readable_in at at small canonical refl in
      let cons : take 1 (drop (place_in leaf at) m) ≡ byte_at m (place_in leaf at) ∷ [] =
      ap (take 1) (drop-cons m (place_in leaf at) 0 (omega (arith, inside))) in
      let one : 1 + rest ≡ suc rest = omega arith in
      ap (source_read m root tlb at) one
      ∙ ap (λ (it : Option ℕ). read_on it (source_tlb m root tlb at) (source_read m root (source_tlb m root tlb at) (at + 1) rest))
      (kept_byte at readable kept)
      ∙ ap (λ tlb. read_on (Some (byte_at m (place_in leaf at))) tlb (source_read m root tlb (at + 1) rest)) (kept_tlb at readable kept)
      ∙ ap (read_on (Some (byte_at m (place_in leaf at))) tlb) (sym (front_none (source_read m root tlb (at + 1) rest)))
      ∙ front_cons (byte_at m (place_in leaf at)) [] tlb (source_read m root tlb (at + 1) rest)
      ∙ ap (λ bytes. with_front bytes (source_read m root tlb (at + 1) rest)) (sym cons)
  run_read (suc (suc n)) at rest small canonical kept page inside =
      let readable : is_readable at ≡ true = readable_in at at small canonical refl in
      let same : (at + 1) / 4096 ≡ at / 4096 = omega (arith, page) in
      let next : place_in leaf (at + 1) ≡ suc (place_in leaf at) = omega (arith, page) in
      let upper : (at + 1) / 2 ^ 47 ≡ at / 2 ^ 47 = omega (arith, same) in
      let behind_is : at + 1 + suc n ≡ at + suc (suc n) = omega arith in
      let later : source_read m root tlb (at + 1) (suc n + rest)
      ≡ with_front (take (suc n) (drop (place_in leaf (at + 1)) m)) (source_read m root tlb (at + 1 + suc n) rest) =
      run_read (suc n) (at + 1) rest (omega (arith, small, same)) (ap (λ h. (h == 0) || (h == 2 ^ 17 - 1)) upper ∙ canonical)
      (ap (look tlb.pairs) same ∙ kept) (omega (arith, page)) (omega (arith, inside, next)) in
      let one : suc (suc n) + rest ≡ suc (suc n + rest) = omega arith in
      ap (source_read m root tlb at) one
      ∙ ap (λ (it : Option ℕ). read_on it (source_tlb m root tlb at) (source_read m root (source_tlb m root tlb at) (at + 1) (suc n + rest)))
      (kept_byte at readable kept)
      ∙ ap (λ tlb. read_on (Some (byte_at m (place_in leaf at))) tlb (source_read m root tlb (at + 1) (suc n + rest)))
      (kept_tlb at readable kept)
      ∙ ap (read_on (Some (byte_at m (place_in leaf at))) tlb) later
      ∙ front_cons (byte_at m (place_in leaf at)) (take (suc n) (drop (place_in leaf (at + 1)) m)) tlb
      (source_read m root tlb (at + 1 + suc n) rest)
      ∙ ap (λ p. with_front (byte_at m (place_in leaf at) ∷ take (suc n) (drop p m)) (source_read m root tlb (at + 1 + suc n) rest)) next
      ∙ ap (λ bytes. with_front bytes (source_read m root tlb (at + 1 + suc n) rest))
      (sym (ap (take (suc (suc n))) (drop-cons m (place_in leaf at) 0 (omega (arith, inside)))))
      ∙ ap (λ b. with_front (take (suc (suc n)) (drop (place_in leaf at) m)) (source_read m root tlb b rest)) behind_is

-- once a byte's translation was found, it and those behind it in its page are read by that
module _ (m : List ℕ) (root : ℕ) (before tlb : Translations) (leaf : Leaf) (at : ℕ) (small : at < 2 ^ 64) (canonical : is_canonical at ≡ true)
    (kept : look tlb.pairs (page_of at) ≡ Some leaf)
    (byte : byte_through m at (Some leaf) ≡ source_byte m root before at) (left_is : tlb ≡ source_tlb m root before at) where
  found_kept : (n : ℕ) → source_read m root before at (suc n) ≡ source_read m root tlb at (suc n)
  unfolding source_read
  found_kept n =
      let readable : is_readable at ≡ true = readable_in at at small canonical refl in
      ap (λ (it : Option ℕ). read_on it (source_tlb m root before at) (source_read m root (source_tlb m root before at) (at + 1) n)) (sym byte)
      ∙ ap (λ tlb. read_on (Some (byte_at m (place_in leaf at))) tlb (source_read m root tlb (at + 1) n)) (sym left_is)
      ∙ sym (ap (λ (it : Option ℕ). read_on it (source_tlb m root tlb at) (source_read m root (source_tlb m root tlb at) (at + 1) n))
      (kept_byte m root tlb leaf at readable kept)
      ∙ ap (λ t. read_on (Some (byte_at m (place_in leaf at))) t (source_read m root t (at + 1) n)) (kept_tlb m root tlb leaf at readable kept))

  pub run_behind : (front : List ℕ) (n rest left : ℕ) → left ≡ n + rest → 1 ≤ n → at % 4096 + n ≤ 4096 → place_in leaf at + n ≤ length m
      → with_front front (source_read m root before at left)
      ≡ with_front (front ++ take n (drop (place_in leaf at) m)) (source_read m root tlb (at + n) rest)
  run_behind front n rest left left_is least page inside =
      let more : left ≡ suc (left - 1) = omega (arith, left_is, least) in
      ap (λ k. with_front front (source_read m root before at k)) more
      ∙ ap (with_front front) (found_kept (left - 1))
      ∙ ap (λ k. with_front front (source_read m root tlb at k)) (sym more ∙ left_is)
      ∙ ap (with_front front) (run_read m root tlb leaf n at rest small canonical kept page inside)
      ∙ front_front front (take n (drop (place_in leaf at) m)) (source_read m root tlb (at + n) rest)
