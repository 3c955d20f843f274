-- Rows of regions that no memory holds, and changes that no call makes of them.
use Rattle.std.proofs.Common.{◌≡◌, ℕ, ◌*◌, true, false, List, [], ◌∷◌, map, replicate, arith, refl, subst}
use Rattle.nk_bits.specs.KernelLayout.{pool_start}
use Rattle.region_book.specs.declared.row.Row.{Row}
use Rattle.region_book.specs.RegionBytes.{HoldsRegions, KeepsSlots, RegionIndex, row_in}
use Rattle.region_book.specs.RegionRows.{AreNumbered}

-- a page that was declared, and 16 bytes of the pool, with a number
abbrev page_row : ℕ → ℕ → Row
page_row id number = record {
  id = id;
  first = 4096 * id;
  size = 4096;
  tail = 0;
  policy = 1;
  pooled = false;
  slot = number;
  frames = id ∷ replicate 15 0;
}

abbrev pool_row : ℕ → ℕ → Row
pool_row id number = record {
  id = id;
  first = pool_start;
  size = 16;
  tail = 0;
  policy = 1;
  pooled = true;
  slot = number;
  frames = replicate 16 0;
}

module _ (index : RegionIndex) (m : List ℕ) (held : HoldsRegions index m) where
  numbers_of : (rows : List Row) → map (row_in m) index.slots ≡ rows → AreNumbered rows index.declared
  numbers_of rows are = subst (λ rows. AreNumbered rows index.declared) are held.kept.numbers

  pub pages_have_no_exchanged_numbers : map (row_in m) index.slots ≡ page_row 256 1 ∷ page_row 257 0 ∷ [] → ⊥
  pages_have_no_exchanged_numbers are =
      let no : 1 ≡ 0 = (numbers_of (page_row 256 1 ∷ page_row 257 0 ∷ []) are).each 0 (page_row 256 1) refl in
      omega (arith, no)

  pub second_page_has_not_the_number_of_the_first : map (row_in m) index.slots ≡ page_row 256 0 ∷ page_row 257 0 ∷ [] → ⊥
  second_page_has_not_the_number_of_the_first are =
      let no : 0 ≡ 1 = (numbers_of (page_row 256 0 ∷ page_row 257 0 ∷ []) are).each 1 (page_row 257 0) refl in
      omega (arith, no)

  pub region_of_the_pool_takes_no_number : map (row_in m) index.slots ≡ pool_row 256 0 ∷ page_row 257 1 ∷ [] → ⊥
  region_of_the_pool_takes_no_number are =
      let no : 1 ≡ 0 = (numbers_of (pool_row 256 0 ∷ page_row 257 1 ∷ []) are).each 1 (page_row 257 1) refl in
      omega (arith, no)

  pub region_of_the_pool_has_no_number : map (row_in m) index.slots ≡ pool_row 256 1 ∷ [] → ⊥
  region_of_the_pool_has_no_number are =
      let no : 1 ≡ 0 = (numbers_of (pool_row 256 1 ∷ []) are).each 0 (pool_row 256 1) refl in
      omega (arith, no)

  pub no_more_pages_were_declared_than_stand : map (row_in m) index.slots ≡ page_row 256 0 ∷ [] → index.declared ≡ 2 → ⊥
  no_more_pages_were_declared_than_stand are two =
      let one : 1 ≡ index.declared = (numbers_of (page_row 256 0 ∷ []) are).pages in
      omega (arith, one, two)

module _ (m n : List ℕ) (same : (row_in n 0).id ≡ (row_in m 0).id) where
  pub region_moves_to_no_other_slot : (row_in n 1).id ≡ (row_in m 0).id
      → KeepsSlots (record { slots = 0 ∷ []; next = 257; declared = 1 }) m (record { slots = 1 ∷ []; next = 257; declared = 1 }) n → ⊥
  region_moves_to_no_other_slot named keeps =
      let no : 1 ≡ 0 = (keeps 0 0 (omega arith) 0 0 (omega arith) named).0 in
      omega (arith, no)

  pub page_gets_no_other_number : (row_in m 0).slot ≡ 0 → (row_in n 0).slot ≡ 1
      → KeepsSlots (record { slots = 0 ∷ []; next = 257; declared = 1 }) m (record { slots = 0 ∷ []; next = 257; declared = 1 }) n → ⊥
  page_gets_no_other_number before after keeps =
      let no : (row_in n 0).slot ≡ (row_in m 0).slot = (keeps 0 0 (omega arith) 0 0 (omega arith) same).1 in
      omega (arith, no, before, after)
