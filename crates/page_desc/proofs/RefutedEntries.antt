-- What is no lawful entry of any table, whatever the kinds of the frames. Each lemma is named by what it refuses; a leaf is an
-- entry of a table of level 1, and a link one of a table of another level.
use Rattle.std.proofs.Common.{◌≡◌, ◌≢◌, ℕ, ◌/◌, ◌%◌, ◌^◌, true, false, not, ◌&&◌, ◌||◌, ◌==◌, List, arith, sym, ◌∙◌, inl, inr}
use Rattle.std.proofs.lemmas.Bool.{and_parts, both_ways, cond-false, eqb-true, false_from_ne_true, ne_eqb, or_cases}
use Rattle.nk_bits.specs.declared.kind.Kind.{Kind}
use Rattle.nk_bits.specs.EntryForms.{has_leaf_form, has_table_form}
use Rattle.nk_bits.specs.Paging.{is_large, is_present, grants_writes}
use Rattle.page_desc.specs.SoundTables.{is_lawful}
use Rattle.page_desc.proofs.LawfulForms.{lawful_has_form}

-- the bits of a value in a leaf's form
record LeafBits (e : ℕ) : Type 0 where
  accessed : e / 8 % 8 ≡ 4
  dirty : grants_writes e ≡ true → e / 64 % 2 ≡ 1
  low : e / 128 % 4 ≡ 0
  high : e / 2 ^ 52 % 2 ^ 11 ≡ 0

leaf_bits : (e : ℕ) → has_leaf_form e ≡ true → LeafBits e
unfolding has_leaf_form
leaf_bits e form =
    let all = and_parts (is_present e && e / 8 % 8 == 4 && (not (grants_writes e) || e / 64 % 2 == 1) && e / 128 % 4 == 0) (e / 2 ^ 52 % 2 ^ 11 == 0) form in
    let lower = and_parts (is_present e && e / 8 % 8 == 4 && (not (grants_writes e) || e / 64 % 2 == 1)) (e / 128 % 4 == 0) all.0 in
    let written = and_parts (is_present e && e / 8 % 8 == 4) (not (grants_writes e) || e / 64 % 2 == 1) lower.0 in
    let first = and_parts (is_present e) (e / 8 % 8 == 4) written.0 in
    record {
      accessed = eqb-true _ _ first.1;
      dirty = λ writes. elim (or_cases (not (grants_writes e)) (e / 64 % 2 == 1) written.1) [
        | inl reads ↦ absurd (both_ways (not (grants_writes e)) (λ j. not (writes j)) reads)
        | inr dirty ↦ eqb-true _ _ dirty
      ];
      low = eqb-true _ _ lower.1;
      high = eqb-true _ _ all.1;
    }

-- the bits of a value in the form of a table's of level 2 to 4
record LinkBits (e : ℕ) : Type 0 where
  first : e % 64 ≡ 39
  low : e / 128 % 4 ≡ 0
  high : e / 2 ^ 52 % 2 ^ 12 ≡ 0

link_bits : (e : ℕ) → has_table_form e ≡ true → LinkBits e
unfolding has_table_form
link_bits e form =
    let all = and_parts (e % 64 == 39 && e / 128 % 4 == 0) (e / 2 ^ 52 % 2 ^ 12 == 0) form in
    let lower = and_parts (e % 64 == 39) (e / 128 % 4 == 0) all.0 in
    record { first = eqb-true _ _ lower.0; low = eqb-true _ _ lower.1; high = eqb-true _ _ all.1 }

module _ (kinds : List Kind) (i e : ℕ) (present : is_present e ≡ true) where
  no_leaf : (LeafBits e → ⊥) → is_lawful kinds 1 i e ≡ false
  no_leaf wrong =
      false_from_ne_true _ (λ lawful. wrong (leaf_bits e (lawful_has_form kinds 1 i e lawful present)))

  no_link : (level : ℕ) → level ≢ 1 → (LinkBits e → ⊥) → is_lawful kinds level i e ≡ false
  no_link level upper wrong =
      false_from_ne_true _ (λ lawful. wrong (link_bits e (sym (cond-false (level == 1) (has_leaf_form e) (has_table_form e) (ne_eqb level 1 upper)) ∙ lawful_has_form kinds level i e lawful present)))

  -- bit 8, G: its translation would outlive a load of CR3
  a_global_leaf_is_unlawful : e / 2 ^ 8 % 2 ≡ 1 → is_lawful kinds 1 i e ≡ false
  a_global_leaf_is_unlawful global = no_leaf (λ bits. absurd (omega (arith, global, bits.low)))

  -- bit 5, A: the processor would set it
  a_leaf_that_is_not_accessed_is_unlawful : e / 2 ^ 5 % 2 ≡ 0 → is_lawful kinds 1 i e ≡ false
  a_leaf_that_is_not_accessed_is_unlawful clear = no_leaf (λ bits. absurd (omega (arith, clear, bits.accessed)))

  -- bit 6, D: a write would set it
  a_writable_leaf_that_is_not_dirty_is_unlawful : grants_writes e ≡ true → e / 2 ^ 6 % 2 ≡ 0
      → is_lawful kinds 1 i e ≡ false
  a_writable_leaf_that_is_not_dirty_is_unlawful writes clear =
      no_leaf (λ bits. absurd (omega (arith, clear, bits.dirty writes)))

  -- the lowest and the highest of the bits that may be reserved
  a_leaf_with_bit_52_is_unlawful : e / 2 ^ 52 % 2 ≡ 1 → is_lawful kinds 1 i e ≡ false
  a_leaf_with_bit_52_is_unlawful set = no_leaf (λ bits. absurd (omega (arith, set, bits.high)))

  a_leaf_with_bit_62_is_unlawful : e / 2 ^ 62 % 2 ≡ 1 → is_lawful kinds 1 i e ≡ false
  a_leaf_with_bit_62_is_unlawful set = no_leaf (λ bits. absurd (omega (arith, set, bits.high)))

  a_link_that_is_not_accessed_is_unlawful : (level : ℕ) → level ≢ 1 → e / 2 ^ 5 % 2 ≡ 0
      → is_lawful kinds level i e ≡ false
  a_link_that_is_not_accessed_is_unlawful level upper clear =
      no_link level upper (λ bits. absurd (omega (arith, clear, bits.first)))

  -- bit 7, PS
  a_large_page_is_unlawful : (level : ℕ) → level ≢ 1 → is_large e ≡ true → is_lawful kinds level i e ≡ false
  unfolding is_large
  a_large_page_is_unlawful level upper large =
      no_link level upper (λ bits. absurd (omega (arith, eqb-true (e / 128 % 2) 1 large, bits.low)))
