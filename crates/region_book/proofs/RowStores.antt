-- The stores of a row's bytes, one after the other.
use Rattle.std.proofs.Common.{◌≡◌, ℕ, zero, suc, ◌+◌, ◌-◌, ◌%◌, ◌<◌, ◌≤◌, List, [], ◌∷◌, length, drop, replicate, slice_index, set, arith, refl, sym, ap, ◌∙◌}
use Rattle.std.proofs.lemmas.List.{drop_more, drop_all}
use Rattle.phys_mem.specs.Memory.{stored, stores}
use Rattle.region_book.specs.declared.row.Row.{Row}
use Rattle.region_book.specs.RegionRows.{row_place, row_stores}

-- the next byte is stored
store_more : (m : List ℕ) (row : Row) (offset b : ℕ) (bs : List ℕ) → b < 256 →
    stored (stored m (stores 1 (row_place row offset) b)) (row_stores row (offset + 1) bs) ≡ stored m
    (row_stores row offset (b ∷ bs))
unfolding stored stores row_stores
store_more m row offset b bs small =
    let byte : b % 256 ≡ b = omega arith in
    ap (λ v. stored (set m (row_place row offset) v) (row_stores row (offset + 1) bs)) byte

none_left : (m : List ℕ) (row : Row) (offset : ℕ) → stored m (row_stores row offset []) ≡ m
unfolding stored row_stores
none_left m row offset = refl

module _ (whole now after : List ℕ) (row : Row) (place offset : ℕ) (place_is : place ≡ row_place row offset) where
  pub byte_more : (first i : ℕ) (bytes : List ℕ) (b : ℕ) → offset ≡ first + i → i < length bytes →
      b ≡ slice_index bytes i → b < 256 →
      after ≡ stored now (stores 1 place b) → stored now (row_stores row (first + i) (drop i bytes)) ≡ whole →
      stored after (row_stores row (first + (i + 1)) (drop (i + 1) bytes)) ≡ whole
  byte_more first i bytes b at within is small stored_is before =
      let next : first + (i + 1) ≡ offset + 1 = omega (arith, at) in
      ap (λ m. stored m (row_stores row (first + (i + 1)) (drop (i + 1) bytes)))
      (stored_is ∙ ap (λ p. stored now (stores 1 p b)) place_is)
      ∙ ap (λ o. stored (stored now (stores 1 (row_place row offset) b)) (row_stores row o (drop (i + 1) bytes))) next
      ∙ store_more now row offset b (drop (i + 1) bytes) small
      ∙ ap (λ bs. stored now (row_stores row offset bs))
      (ap (λ v. v ∷ drop (i + 1) bytes) is ∙ sym (drop_more bytes i 0 within))
      ∙ ap (λ o. stored now (row_stores row o (drop i bytes))) at ∙ before

  pub zero_more : (size : ℕ) → offset < size → after ≡ stored now (stores 1 place 0) →
      stored now (row_stores row offset (replicate (size - offset) 0)) ≡ whole →
      stored after (row_stores row (offset + 1) (replicate (size - (offset + 1)) 0)) ≡ whole
  zero_more size within stored_is before =
      let count : suc (size - (offset + 1)) ≡ size - offset = omega arith in
      ap (λ m. stored m (row_stores row (offset + 1) (replicate (size - (offset + 1)) 0)))
      (stored_is ∙ ap (λ p. stored now (stores 1 p 0)) place_is)
      ∙ store_more now row offset 0 (replicate (size - (offset + 1)) 0) (omega arith)
      ∙ ap (λ n. stored now (row_stores row offset (replicate n 0))) count ∙ before

pub bytes_done : (whole now : List ℕ) (row : Row) (offset i : ℕ) (bytes : List ℕ) → length bytes ≤ i →
    stored now (row_stores row (offset + i) (drop i bytes)) ≡ whole → now ≡ whole
bytes_done whole now row offset i bytes end all = sym (none_left now row (offset + i))
    ∙ ap (λ bs. stored now (row_stores row (offset + i) bs)) (sym (drop_all i bytes end)) ∙ all

pub zeros_done : (whole now : List ℕ) (row : Row) (size offset : ℕ) → size ≤ offset →
    stored now (row_stores row offset (replicate (size - offset) 0)) ≡ whole → now ≡ whole
zeros_done whole now row size offset end all =
    let none : zero ≡ size - offset = omega arith in
    sym (none_left now row offset) ∙ ap (λ n. stored now (row_stores row offset (replicate n 0))) none ∙ all
