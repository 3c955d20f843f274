-- The places of pages in the ascending list of an image's pages, and the ranges that they touch.
use Rattle.std.proofs.Common.{◌≡◌, ◌==◌, ℕ, ◌+◌, ◌-◌, ◌<◌, ◌≤◌, ◌≢◌, Bool, true, false, cond, List, [], ◌∷◌, ◌++◌, length, get_or, Some, None, sym, ap, ◌∙◌, subst, arith, inl, inr, append-nil, nat_lt, zero, suc, add-one, zero-add}
use Rattle.std.proofs.lemmas.Bool.{cases_lt, cases_order, lt-ltb, le-ltb, eq-eqb, ne_eqb, cond-true, cond-false, false_from_ne_true}
use Rattle.std.proofs.lemmas.List.Sums.{position_or_len_is}
use Rattle.std.proofs.lemmas.List.Folds.{Any-from_list_any, list_any_at}
use Rattle.std.proofs.lemmas.List.FromFn.{length-range_with_len, get_or-range_with_len}
use Rattle.std.proofs.lemmas.List.Elements.{filter-append}
use Rattle.std.specs.Prelude.{filter}
use Rattle.std.specs.List.{position, position_or_len, list_any, range_with_len}
use Rattle.elf_image.specs.Pages.{is_page, pages_of, IsPageList}
use Rattle.boot_map.specs.Division.{page_in}

-- in an ascending list a number stands at the place before which all are less, if it stands there at all
pub placed_at : (xs : List ℕ) (n k : ℕ) → k < length xs → ((i : ℕ) → i < k → get_or xs i 0 < n) → get_or xs k 0 ≡ n → Some k ≡ position (λ m. m == n) xs
placed_at xs n k small before here =
    let place : position_or_len (λ m. m == n) xs ≡ k =
    position_or_len_is (λ m. m == n) xs k 0 (omega arith) (λ i h. ne_eqb (get_or xs i 0) n (λ e. absurd (omega (arith, before i h, e)))) (λ _. eq-eqb (get_or xs k 0) n here) in
    sym (ap (λ p. cond (nat_lt p (length xs)) (Some p) None) place ∙ cond-true _ _ _ (lt-ltb k (length xs) small))

pub placed_nowhere : (xs : List ℕ) (n k : ℕ) → ((i j : ℕ) → i < j → j < length xs → get_or xs i 0 < get_or xs j 0) → ((i : ℕ) → i < k → get_or xs i 0 < n) → ((i : ℕ) → k ≤ i → i < length xs → n ≤ get_or xs i 0) → (k < length xs → get_or xs k 0 ≢ n) → None ≡ position (λ m. m == n) xs
placed_nowhere xs n k ascending before rest other =
    let differs : (i : ℕ) → i < length xs → get_or xs i 0 ≢ n = λ i h e. elim (cases_order i k) [
      | inl same ↦ other (omega (arith, same, h)) (subst (λ j. get_or xs j 0 ≡ n) same e)
      | inr (inl below) ↦ absurd (omega (arith, before i below, e))
      | inr (inr above) ↦ absurd (omega (arith, rest k (omega arith) (omega arith), ascending k i above h, e))
    ] in
    let place : position_or_len (λ m. m == n) xs ≡ length xs =
    position_or_len_is (λ m. m == n) xs (length xs) 0 (omega arith) (λ i h. ne_eqb (get_or xs i 0) n (differs i h)) (λ h. absurd (omega (arith, h))) in
    sym (ap (λ p. cond (nat_lt p (length xs)) (Some p) None) place ∙ cond-false _ _ _ (le-ltb (length xs) (length xs) (omega arith)))

-- a page of n pages from one on is the image's exactly where fewer pages lie below the first than below the end
pub touched_by_counts : (b : List ℕ) (range n low high : ℕ) → IsPageList b (pages_of b)
    → ((i : ℕ) → i < low → get_or (pages_of b) i 0 < page_in range 0) → ((i : ℕ) → low ≤ i → i < length (pages_of b) → page_in range 0 ≤ get_or (pages_of b) i 0)
    → ((i : ℕ) → i < high → get_or (pages_of b) i 0 < page_in range 0 + n) → ((i : ℕ) → high ≤ i → i < length (pages_of b) → page_in range 0 + n ≤ get_or (pages_of b) i 0)
    → high ≤ length (pages_of b) → nat_lt low high ≡ list_any (λ index. is_page b (page_in range index)) (range_with_len 0 n)
touched_by_counts b range n low high list before_low from_low before_high from_high within =
    let p : ℕ → Bool = λ index. is_page b (page_in range index) in
    elim (cases_lt low high) [
      | inl some ↦
          let page : ℕ = get_or (pages_of b) low 0 in
          let index : ℕ = page - page_in range 0 in
          let at_least : page_in range 0 ≤ page = from_low low (omega arith) (omega arith) in
          let small : index < n = omega (arith, before_high low some) in
          let there : get_or (range_with_len 0 n) index 0 ≡ index = get_or-range_with_len 0 n index 0 small ∙ omega arith in
          let same : page_in range (get_or (range_with_len 0 n) index 0) ≡ page = ap (page_in range) there ∙ omega arith in
          lt-ltb low high some ∙ sym (list_any_at p (range_with_len 0 n) index 0 (omega (arith, length-range_with_len 0 n)) (ap (is_page b) same ∙ list.touched low (omega arith)))
      | inr none ↦
          le-ltb low high none ∙ sym (false_from_ne_true (list_any p (range_with_len 0 n)) (λ any.
          let found = Any-from_list_any p (range_with_len 0 n) any in
          let small : found.0 < n = omega (arith, found.2, length-range_with_len 0 n) in
          let index : found.1 ≡ found.0 = sym found.3 ∙ get_or-range_with_len 0 n found.0 found.1 small ∙ omega arith in
          let place = list.complete (page_in range found.1) found.4 in
          elim (cases_lt place.0 low) [
            | inl below ↦ absurd (omega (arith, before_low place.0 below, place.2))
            | inr above ↦ absurd (omega (arith, from_high place.0 (omega arith) place.1, place.2, small, index))
          ]))
    ]

-- the numbers up to one more
range_more : (a n : ℕ) → range_with_len a (suc n) ≡ range_with_len a n ++ (a + n) ∷ []
range_more a zero = ap (λ x. x ∷ []) (omega arith)
range_more a (suc n) =
    let next : a + 1 + n ≡ a + suc n = omega arith in
    ap (λ xs. a ∷ xs) (range_more (a + 1) n ∙ ap (λ x. range_with_len (a + 1) n ++ x ∷ []) next)

filter_more : (p : ℕ → Bool) (i : ℕ) → filter p (range_with_len 0 (i + 1)) ≡ filter p (range_with_len 0 i) ++ filter p (i ∷ [])
filter_more p i =
    ap (λ n. filter p (range_with_len 0 n)) (add-one i) ∙ ap (filter p) (range_more 0 i ∙ ap (λ x. range_with_len 0 i ++ x ∷ []) (zero-add i))
    ∙ filter-append p (range_with_len 0 i) (i ∷ [])

-- the numbers so far that pass, with one more that passes, and with one that does not
pub one_more : (p : ℕ → Bool) (i : ℕ) (found more : List ℕ) → found ≡ filter p (range_with_len 0 i) → p i ≡ true → more ≡ found ++ i ∷ [] → more ≡ filter p (range_with_len 0 (i + 1))
one_more p i found more so_far passes pushed =
    let last : filter p (i ∷ []) ≡ i ∷ [] = cond-true _ _ _ passes in
    pushed ∙ ap (λ xs. xs ++ i ∷ []) so_far ∙ ap (λ xs. filter p (range_with_len 0 i) ++ xs) (sym last) ∙ sym (filter_more p i)

pub none_more : (p : ℕ → Bool) (i : ℕ) (found more : List ℕ) → found ≡ filter p (range_with_len 0 i) → p i ≡ false → more ≡ found → more ≡ filter p (range_with_len 0 (i + 1))
none_more p i found more so_far fails same =
    let last : filter p (i ∷ []) ≡ [] = cond-false _ _ _ fails in
    same ∙ so_far ∙ sym (append-nil (filter p (range_with_len 0 i))) ∙ ap (λ xs. filter p (range_with_len 0 i) ++ xs) (sym last) ∙ sym (filter_more p i)
