-- Segments in any order are in table order again by their places in the table.
use Rattle.std.proofs.Common.{◌≡◌, ◌≢◌, ℕ, ◌+◌, ◌<◌, ◌≤◌, ◌∙◌, zero, suc, Bool, true, List, [], ◌∷◌, ◌++◌, Option, Some, None, get_or, refl, sym, ap, append-nil, arith, inl, inr}
use Rattle.std.proofs.lemmas.Bool.{cases_eq, cases_lt, cond-true, cond-false, eq-eqb, eqb-true, false_from_ne_true}
use Rattle.std.proofs.lemmas.List.Elements.{All-nil, All-cons, All-head, All-tail, All-weaker}
use Rattle.std.proofs.lemmas.List.Folds.{list_any_at}
use Rattle.std.proofs.lemmas.List.Sorted.{Contains-permutation, IsPermutation-sym}
use Rattle.std.specs.Prelude.{◌==◌, filter_map, find}
use Rattle.std.specs.List.{All, AllPairs, cons_option, range_with_len}
use Rattle.std.specs.List.Sorted.{IsPermutation}
use Rattle.elf_image.specs.declared.program_header.ProgramHeader.{ProgramHeader}
use Rattle.elf_image.specs.Loaded.{in_table_order}
use Rattle.elf_image.proofs.Pairs.{AtMostOne, EachPair, EachPair-permutation, found_alone, found_at, found_is}

-- no element stands at a place below all of theirs
missing : (i : ℕ) (segs : List ProgramHeader) → All (λ s. i < s.index) segs → find (λ s. s.index == i) segs ≡ None
missing i [] above = refl
missing i (s ∷ segs) above =
    let here : i < s.index = All-head (λ s. i < s.index) s segs above in
    cond-false (s.index == i) (Some s) _ (false_from_ne_true (s.index == i) (λ h. let same = eqb-true s.index i h in omega arith))
    ∙ missing i segs (All-tail (λ s. i < s.index) s segs above)

-- what a list gives at the numbers from one on
same_from : (f g : ℕ → Option ProgramHeader) (n a : ℕ) → ((i : ℕ) → a ≤ i → f i ≡ g i) → filter_map f (range_with_len a n) ≡ filter_map g (range_with_len a n)
same_from f g zero a same = refl
same_from f g (suc n) a same =
    ap (λ o. cons_option o (filter_map f (range_with_len (a + 1) n))) (same a (omega arith))
    ∙ ap (λ xs. cons_option (g a) xs) (same_from f g n (a + 1) (λ i low. same i (omega arith)))

tail_pairs : (s : ProgramHeader) (segs : List ProgramHeader) → AllPairs (λ t u. t.index < u.index) (s ∷ segs) → AllPairs (λ t u. t.index < u.index) segs
tail_pairs s segs rising i j d low high = rising (suc i) (suc j) d (omega arith) (omega arith)

behind : (s : ProgramHeader) (segs : List ProgramHeader) → AllPairs (λ t u. t.index < u.index) (s ∷ segs) → All (λ t. s.index < t.index) segs
behind s segs rising k d inside = rising 0 (suc k) d (omega arith) (omega arith)

-- ascending segments whose places begin at one number and end before another, by these numbers
by_numbers : (n a : ℕ) (segs : List ProgramHeader) → AllPairs (λ s t. s.index < t.index) segs
    → All (λ s. a ≤ s.index) segs → All (λ s. s.index < a + n) segs
    → filter_map (λ i. find (λ s. s.index == i) segs) (range_with_len a n) ≡ segs
by_numbers zero a [] rising above below = refl
by_numbers zero a (s ∷ segs) rising above below =
    let low : a ≤ s.index = All-head (λ t. a ≤ t.index) s segs above in
    let high : s.index < a + 0 = All-head (λ t. t.index < a + 0) s segs below in
    absurd (omega arith)
by_numbers (suc n) a [] rising above below =
    by_numbers n (a + 1) [] rising (All-nil (λ s. a + 1 ≤ s.index)) (All-nil (λ s. s.index < a + 1 + n))
by_numbers (suc n) a (s ∷ segs) rising above below =
    let low : a ≤ s.index = All-head (λ t. a ≤ t.index) s segs above in
    let high : s.index < a + suc n = All-head (λ t. t.index < a + suc n) s segs below in
    let later = behind s segs rising in
    let all_high : All (λ t. t.index < a + 1 + n) segs = All-weaker (λ t. t.index < a + suc n) (λ t. t.index < a + 1 + n) (λ t h. omega arith) segs (All-tail (λ t. t.index < a + suc n) s segs below) in
    let found : ℕ → Option ProgramHeader = λ i. find (λ t. t.index == i) (s ∷ segs) in
    let rest : ℕ → Option ProgramHeader = λ i. find (λ t. t.index == i) segs in
    elim (cases_eq s.index a) [
      | inl same ↦
          ap (λ o. cons_option o (filter_map found (range_with_len (a + 1) n))) (cond-true (s.index == a) (Some s) (rest a) (eq-eqb s.index a same))
          ∙ ap (λ xs. s ∷ xs) (
          same_from found rest n (a + 1) (λ i more. cond-false (s.index == i) (Some s) (rest i) (false_from_ne_true (s.index == i) (λ h. let is = eqb-true s.index i h in omega arith)))
          ∙ by_numbers n (a + 1) segs (tail_pairs s segs rising) (All-weaker (λ t. s.index < t.index) (λ t. a + 1 ≤ t.index) (λ t h. omega arith) segs later) all_high
          )
      | inr other ↦
          let above_all : All (λ t. a < t.index) (s ∷ segs) = All-cons (λ t. a < t.index) s segs (omega arith) (All-weaker (λ t. s.index < t.index) (λ t. a < t.index) (λ t h. omega arith) segs later) in
          ap (λ o. cons_option o (filter_map found (range_with_len (a + 1) n))) (missing a (s ∷ segs) above_all)
          ∙ by_numbers n (a + 1) (s ∷ segs) rising (All-weaker (λ t. a < t.index) (λ t. a + 1 ≤ t.index) (λ t h. omega arith) (s ∷ segs) above_all) (All-cons (λ t. t.index < a + 1 + n) s segs (omega arith) all_high)
    ]

-- no two stand at one place
distinct : (segs : List ProgramHeader) → AllPairs (λ s t. s.index < t.index) segs → EachPair (λ s t. s.index ≢ t.index) segs
distinct segs rising i j d hi hj apart =
    elim (cases_lt i j) [
      | inl low ↦ let less = rising i j d low hj in λ same. omega arith
      | inr high ↦ let less = rising j i d (omega arith) hi in λ same. omega arith
    ]

at_most_one : (i : ℕ) (segs : List ProgramHeader) → EachPair (λ s t. s.index ≢ t.index) segs → AtMostOne (λ s. s.index == i) segs
at_most_one i segs apart j k d hj hk unequal here =
    let first = eqb-true (get_or segs j d).index i here in
    false_from_ne_true ((get_or segs k d).index == i) (λ h. apart j k d hj hk unequal (first ∙ sym (eqb-true (get_or segs k d).index i h)))

-- a place where no segment stands, in any order
none_there : (i : ℕ) (xs ys : List ProgramHeader) (o : Option ProgramHeader) → IsPermutation xs ys
    → None ≡ find (λ s. s.index == i) xs → find (λ s. s.index == i) ys ≡ o → find (λ s. s.index == i) ys ≡ None
none_there i xs ys None moved none is = is
none_there i xs ys (Some s) moved none is =
    let held = found_is (λ s. s.index == i) ys s is in
    let there = Contains-permutation ys xs s (IsPermutation-sym xs ys moved) held.0 in
    let stands : ProgramHeader → Bool = λ t. t.index == i in
    let passes : stands (get_or xs there.0 s) ≡ true = ap stands there.2 ∙ held.1 in
    let first = found_at stands xs s (list_any_at stands xs there.0 s there.1 passes) in
    absurd (cc (none, first.3))

-- what stands at a place, in any order
same_found : (i : ℕ) (xs ys : List ProgramHeader) → EachPair (λ s t. s.index ≢ t.index) ys → IsPermutation xs ys
    → (o : Option ProgramHeader) → o ≡ find (λ s. s.index == i) xs → find (λ s. s.index == i) ys ≡ o
same_found i xs ys apart moved (Some s) is =
    let held = found_is (λ s. s.index == i) xs s (sym is) in
    found_alone (λ s. s.index == i) ys (at_most_one i ys apart) s (Contains-permutation xs ys s moved held.0) held.1
same_found i xs ys apart moved None is = none_there i xs ys (find (λ s. s.index == i) ys) moved is refl

-- segments in table order, put in another order
pub back_in_order : (table sorted : List ProgramHeader) → AllPairs (λ s t. s.index < t.index) table → All (λ s. s.index < 64) table
    → IsPermutation table sorted → in_table_order sorted ≡ table
unfolding in_table_order
back_in_order table sorted rising low moved =
    let apart = EachPair-permutation (λ s t. s.index ≢ t.index) table sorted moved (distinct table rising) in
    same_from (λ i. find (λ s. s.index == i) sorted) (λ i. find (λ s. s.index == i) table) 64 0
    (λ i from. same_found i table sorted apart moved (find (λ s. s.index == i) table) refl)
    ∙ by_numbers 64 0 table rising (λ k d h. omega arith) (All-weaker (λ s. s.index < 64) (λ s. s.index < 0 + 64) (λ s h. omega arith) table low)

cons_append : {X : Type 0} (o : Option X) (xs ys : List X) → cons_option o (xs ++ ys) ≡ cons_option o xs ++ ys
cons_append None xs ys = refl
cons_append (Some x) xs ys = refl

next_number : {X : Type 0} (h : ℕ → Option X) (n a j : ℕ) → a + n ≡ j
    → filter_map h (range_with_len a (suc n)) ≡ filter_map h (range_with_len a n) ++ cons_option (h j) []
next_number h zero a j is = ap (λ i. cons_option (h i) []) (omega (arith, is))
next_number h (suc n) a j is =
    ap (λ xs. cons_option (h a) xs) (next_number h n (a + 1) j (omega (arith, is)))
    ∙ cons_append (h a) (filter_map h (range_with_len (a + 1) n)) (cons_option (h j) [])

-- one number more
one_more : {X : Type 0} (h : ℕ → Option X) (n : ℕ)
    → filter_map h (range_with_len 0 (n + 1)) ≡ filter_map h (range_with_len 0 n) ++ cons_option (h n) []
one_more h n =
    let e : n + 1 ≡ suc n = omega arith in
    ap (λ m. filter_map h (range_with_len 0 m)) e ∙ next_number h n 0 n (omega arith)

-- the list so far, with what stands at one number more
pub one_found : {X : Type 0} (h : ℕ → Option X) (n : ℕ) (found more : List X) (x : X)
    → found ≡ filter_map h (range_with_len 0 n) → h n ≡ Some x → more ≡ found ++ x ∷ []
    → more ≡ filter_map h (range_with_len 0 (n + 1))
one_found h n found more x so_far here pushed =
    pushed ∙ ap (λ xs. xs ++ x ∷ []) so_far ∙ ap (λ o. filter_map h (range_with_len 0 n) ++ cons_option o []) (sym here) ∙ sym (one_more h n)

-- and with a number at which nothing stands
pub none_found : {X : Type 0} (h : ℕ → Option X) (n : ℕ) (found more : List X)
    → found ≡ filter_map h (range_with_len 0 n) → h n ≡ None → more ≡ found
    → more ≡ filter_map h (range_with_len 0 (n + 1))
none_found h n found more so_far here same =
    same ∙ so_far ∙ sym (append-nil (filter_map h (range_with_len 0 n)))
    ∙ ap (λ o. filter_map h (range_with_len 0 n) ++ cons_option o []) (sym here) ∙ sym (one_more h n)
