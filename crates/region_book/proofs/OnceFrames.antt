-- Frames that stand once, and the test for two places that hold the same one.
use Rattle.std.proofs.Common.{◌≡◌, ◌≢◌, ℕ, ◌<◌, Bool, true, false, ◌==◌, List, length, length-take-le, take, arith, sym, ◌∙◌, inl, inr, slice_index}
use Rattle.std.specs.List.{list_any, range_with_len}
use Rattle.std.proofs.lemmas.Bool.{cases_Bool, eq-eqb, eqb-true, false≢true}
use Rattle.std.proofs.lemmas.Bool.Decides.{eqb_tells}
use Rattle.std.proofs.lemmas.List.{get_or_default, get_or-take}
use Rattle.std.proofs.lemmas.List.Folds.{Any-from_list_any, list_any_at}
use Rattle.region_book.specs.RegionCalls.{has_twice}
use Rattle.region_book.specs.RegionRecords.{IsEachOnce}
use Rattle.region_book.proofs.BitTests.{each_in_run, none_in_run}

-- the frame at a place stands at none before it
abbrev pub IsNewAt : List ℕ → ℕ → Type 0
IsNewAt frames i = (j : ℕ) → j < i → slice_index frames i ≢ slice_index frames j

differ : (a b : ℕ) → (a == b) ≡ false → a ≢ b
differ a b is same = elim (eqb_tells a b) [ inl equal ↦ false≢true (sym is ∙ equal.0) | inr other ↦ other.1 same ]

differ_test : (a b : ℕ) → a ≢ b → (a == b) ≡ false
differ_test a b apart = elim (eqb_tells a b) [ inl equal ↦ absurd (apart equal.1) | inr other ↦ other.0 ]

some_in_run : (f : ℕ → Bool) (count k : ℕ) → k < count → f k ≡ true → list_any f (range_with_len 0 count) ≡ true
some_in_run f count k below is = elim (cases_Bool (list_any f (range_with_len 0 count))) [
  | inl some ↦ some
  | inr none ↦ absurd (false≢true (sym (each_in_run f 0 count k none (omega arith) (omega (arith, below))) ∙ is))
]

pub once_by_places : (frames : List ℕ) → ((i : ℕ) → i < length frames → IsNewAt frames i) → IsEachOnce frames
once_by_places frames each i j d low below same =
    each j below i low
    (sym (get_or_default frames j d 0 below) ∙ sym same ∙ get_or_default frames i d 0 (omega (arith, low, below)))

pub none_twice : (frames : List ℕ) → ((i : ℕ) → i < length frames → IsNewAt frames i) → has_twice frames ≡ false
unfolding has_twice
none_twice frames each =
    none_in_run (λ i. list_any (λ j. slice_index frames i == slice_index frames j) (range_with_len 0 i)) 0
    (length frames)
    (λ i low high. none_in_run (λ j. slice_index frames i == slice_index frames j) 0 i
    (λ j least most. differ_test (slice_index frames i) (slice_index frames j)
    (each i (omega (arith, high)) j (omega (arith, most)))))

pub once_by_test : (frames : List ℕ) → has_twice frames ≡ false → IsEachOnce frames
unfolding has_twice
once_by_test frames none =
    once_by_places frames
    (λ i below j low.
    differ (slice_index frames i) (slice_index frames j)
    (each_in_run (λ j. slice_index frames i == slice_index frames j) 0 i j
    (each_in_run (λ i. list_any (λ j. slice_index frames i == slice_index frames j) (range_with_len 0 i)) 0
    (length frames) i none (omega arith) (omega (arith, below))) (omega arith) (omega (arith, low))))

-- the frames before a place don't hold its frame, or do
pub new_by_test : (frames : List ℕ) (i frame : ℕ) → i < length frames → frame ≡ slice_index frames i →
    list_any (λ other. other == frame) (take i frames) ≡ false → IsNewAt frames i
new_by_test frames i frame below is none j low same =
    false≢true (sym none ∙ list_any_at (λ other. other == frame) (take i frames) j 0
    (omega (arith, low, below, length-take-le i frames (omega (arith, below))))
    (eq-eqb _ frame (get_or-take i frames j 0 low ∙ sym same ∙ sym is)))

pub twice_by_test : (frames : List ℕ) (i frame : ℕ) → i < length frames → frame ≡ slice_index frames i →
    list_any (λ other. other == frame) (take i frames) ≡ true → has_twice frames ≡ true
unfolding has_twice
twice_by_test frames i frame below is some =
    let at = Any-from_list_any (λ other. other == frame) (take i frames) some in
    let j : ℕ = at.0 in
    let low : j < i = omega (arith, at.2, length-take-le i frames (omega (arith, below))) in
    let found : slice_index frames j ≡ at.1 = sym (get_or-take i frames j 0 low)
    ∙ get_or_default (take i frames) j 0 at.1 at.2 ∙ at.3 in
    some_in_run (λ i. list_any (λ j. slice_index frames i == slice_index frames j) (range_with_len 0 i))
    (length frames) i below
    (some_in_run (λ j. slice_index frames i == slice_index frames j) i j low
    (eq-eqb (slice_index frames i) (slice_index frames j) (sym is ∙ sym (eqb-true at.1 frame at.4) ∙ sym found)))
