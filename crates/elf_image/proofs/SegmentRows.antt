-- The rows on segments, each by itself and each two, both ways.
use Rattle.std.proofs.Common.{◌≡◌, ℕ, ◌+◌, ◌&&◌, ◌<◌, ◌≤◌, Bool, false, List, [], ◌∷◌, length, get_or, None, refl, ap, arith, inl, inr}
use Rattle.std.proofs.lemmas.Bool.{and_left, and_right, cases_lt, le-ltb}
use Rattle.std.proofs.lemmas.List.Elements.{All-from_get_or, All-head, All-tail}
use Rattle.std.proofs.lemmas.List.Folds.{list_any_none}
use Rattle.std.specs.Prelude.{nat_lt}
use Rattle.std.specs.List.{All, AllPairs}
use Rattle.elf_image.specs.declared.program_header.ProgramHeader.{ProgramHeader}
use Rattle.elf_image.specs.Elf.{e_entry, segments}
use Rattle.elf_image.specs.Rows.{file_fault, first_fault, first_index, segment_fault, whole_fault}
use Rattle.elf_image.specs.Segments.{is_misaligned, is_writable_code, leaves_home, passes_end, shares_page, shares_with_earlier, total_pages}
use Rattle.elf_image.specs.SegmentForm.{AreInForm, IsPlaced}
use Rattle.elf_image.proofs.FormLaws.{all_placed, file_ordered, judged_file, lawful, segments_apart}

pub rows_pass : (b : List ℕ) → first_fault b ≡ None → AreInForm (length b) (e_entry b) (segments b)
rows_pass b none =
    let judged = judged_file b none in
    let law = lawful (length b) (e_entry b) (segments b) judged.form in
    record {
      placed = all_placed (length b) (e_entry b) (segments b) judged;
      aligned = law.aligned;
      rights = law.rights;
      apart = λ i j d low high. segments_apart (length b) (e_entry b) (segments b) judged i j d (omega arith) high (λ e. omega arith);
      code = law.code;
      few = law.few;
    }

-- where each fails a test, none is found
all_fail : (p : ProgramHeader → Bool) (xs : List ProgramHeader) → All (λ s. p s ≡ false) xs → first_index p xs ≡ None
all_fail p [] none = refl
all_fail p (x ∷ xs) none =
    rw (All-head (λ s. p s ≡ false) x xs none) (all_fail p xs (All-tail (λ s. p s ≡ false) x xs none))

ends_inside : (size : ℕ) (s : ProgramHeader) → IsPlaced size s → passes_end size s ≡ false
ends_inside size s it = rw (le-ltb s.memory_size s.file_size it.backed, le-ltb size (s.offset + s.file_size) it.inside) refl

stays_home : (size : ℕ) (s : ProgramHeader) → IsPlaced size s → leaves_home s ≡ false
stays_home size s it = rw (le-ltb s.address 0xFFFFFFFF80000000 it.above, le-ltb 0xFFFFFFFFC0000000 (s.address + s.memory_size) it.below) refl

module _ (size entry : ℕ) (segs : List ProgramHeader) (ordered : AllPairs (λ s t. s.index < t.index) segs) (it : AreInForm size entry segs) where
  -- an earlier segment shares no page, and another has no lower index
  apart_from : (i j : ℕ) (d : ProgramHeader) → i < length segs → j < length segs
      → (nat_lt (get_or segs j d).index (get_or segs i d).index && shares_page (get_or segs j d) (get_or segs i d)) ≡ false
  apart_from i j d hi hj = elim (cases_lt j i) [
    | inl before ↦ and_right (nat_lt (get_or segs j d).index (get_or segs i d).index) _ (it.apart j i d before hi)
    | inr after ↦
        let later : (get_or segs i d).index ≤ (get_or segs j d).index = elim (cases_lt i j) [
          | inl low ↦ let up : (get_or segs i d).index < (get_or segs j d).index = ordered i j d low hj in omega arith
          | inr high ↦
              let same : i ≡ j = omega arith in
              let equal : (get_or segs i d).index ≡ (get_or segs j d).index = ap (λ (k : ℕ). (get_or segs k d).index) same in
              omega arith
        ] in
        and_left _ (shares_page (get_or segs j d) (get_or segs i d)) (le-ltb (get_or segs j d).index (get_or segs i d).index later)
  ]

  none_shared : All (λ s. shares_with_earlier segs s ≡ false) segs
  none_shared i d inside =
      list_any_none (λ t. nat_lt t.index (get_or segs i d).index && shares_page t (get_or segs i d)) segs
      (All-from_get_or (λ t. (nat_lt t.index (get_or segs i d).index && shares_page t (get_or segs i d)) ≡ false) segs d
      (λ j hj. apart_from i j d inside hj))

  none_fails : segment_fault size segs ≡ None
  unfolding segment_fault
  none_fails =
      rw (
        all_fail (passes_end size) segs (λ i d h. ends_inside size (get_or segs i d) (it.placed i d h)),
        all_fail is_misaligned segs it.aligned,
        all_fail leaves_home segs (λ i d h. stays_home size (get_or segs i d) (it.placed i d h)),
        all_fail (shares_with_earlier segs) segs none_shared,
        all_fail is_writable_code segs it.rights,
      ) refl

  whole_good : whole_fault entry segs ≡ None
  unfolding whole_fault
  whole_good =
      let few : nat_lt 8192 (total_pages segs) ≡ false = le-ltb _ _ it.few in
      rw (it.code, few) refl

pub form_holds : (b : List ℕ) → file_fault b ≡ None → AreInForm (length b) (e_entry b) (segments b) → first_fault b ≡ None
unfolding first_fault
form_holds b good it =
    rw (good, none_fails (length b) (e_entry b) (segments b) (file_ordered b) it, whole_good (length b) (e_entry b) (segments b) (file_ordered b) it) refl
