-- Runs of bytes that change, one place further on.
use Rattle.std.proofs.Common.{◌≡◌, ◌≢◌, ℕ, zero, suc, ◌+◌, ◌-◌, ◌<◌, ◌≤◌, true, false, ◌&&◌, if◌then◌else◌, ◌⊎◌, inl, inr, List, [], ◌∷◌, ◌++◌, length, take, drop, get_or, arith, refl, sym, ap, ◌∙◌, append_assoc, eq-eqb}
use Rattle.std.proofs.lemmas.List.{drop_more, drop_all, drop-drop}
use Rattle.std.proofs.lemmas.Bool.{ne_eqb}
use Rattle.step_trace.specs.StepChanges.{Change, Stored, run_rest, runs, stay}
use Rattle.step_trace.specs.StepTexts.{change_text, changes_text}

-- a function of what is left of two lists, one step on
at_both : {Y : Type 0} (F : List ℕ → List ℕ → Y) (i : ℕ) (xs ys : List ℕ) → i < length xs → i < length ys
    → F (drop i xs) (drop i ys) ≡ F (get_or xs i 0 ∷ drop (i + 1) xs) (get_or ys i 0 ∷ drop (i + 1) ys)
at_both F i xs ys inx iny = ap (λ l. F l (drop i ys)) (drop_more xs i 0 inx) ∙ ap (F (get_or xs i 0 ∷ drop (i + 1) xs)) (drop_more ys i 0 iny)

-- bytes that go on staying behind one that did
pub stay_more : (n i : ℕ) (xs ys : List ℕ) → i < length xs → i < length ys → get_or xs i 0 ≡ get_or ys i 0
    → stay (suc n) (drop i xs) (drop i ys) ≡ stay n (drop (i + 1) xs) (drop (i + 1) ys)
stay_more n i xs ys inx iny same =
    at_both (stay (suc n)) i xs ys inx iny
    ∙ ap (λ t. t && stay n (drop (i + 1) xs) (drop (i + 1) ys)) (eq-eqb (get_or xs i 0) (get_or ys i 0) same)

-- and that end behind one that didn't
pub stay_ends : (n i : ℕ) (xs ys : List ℕ) → i < length xs → i < length ys → get_or xs i 0 ≢ get_or ys i 0
    → stay (suc n) (drop i xs) (drop i ys) ≡ false
stay_ends n i xs ys inx iny other =
    at_both (stay (suc n)) i xs ys inx iny
    ∙ ap (λ t. t && stay n (drop (i + 1) xs) (drop (i + 1) ys)) (ne_eqb (get_or xs i 0) (get_or ys i 0) other)

-- past the end of one of them all stay
stay_none : (n : ℕ) (ys : List ℕ) → stay n [] ys ≡ true
stay_none zero ys = refl
stay_none (suc n) ys = refl

pub stay_past : (n i : ℕ) (xs ys : List ℕ) → length xs ≤ i → stay n (drop i xs) (drop i ys) ≡ true
stay_past n i xs ys past = ap (λ l. stay n l (drop i ys)) (drop_all i xs past) ∙ stay_none n (drop i ys)

-- all of so many stay where there are none, or none are left
pub stay_done : (n i : ℕ) (xs ys : List ℕ) → (n ≡ 0) ⊎ (length xs ≤ i) → stay n (drop i xs) (drop i ys) ≡ true
stay_done n i xs ys (inl none) = ap (λ k. stay k (drop i xs) (drop i ys)) none
stay_done n i xs ys (inr past) = stay_past n i xs ys past

-- a run that goes on
run_step : (x y : ℕ) (xs ys : List ℕ) → stay 8 (x ∷ xs) (y ∷ ys) ≡ false → run_rest (x ∷ xs) (y ∷ ys) ≡ suc (run_rest xs ys)
run_step x y xs ys goes = ap (λ t. if t then 0 else suc (run_rest xs ys)) goes

pub run_more : (i : ℕ) (xs ys : List ℕ) → i < length xs → i < length ys → stay 8 (drop i xs) (drop i ys) ≡ false
    → run_rest (drop i xs) (drop i ys) ≡ suc (run_rest (drop (i + 1) xs) (drop (i + 1) ys))
run_more i xs ys inx iny goes =
    at_both run_rest i xs ys inx iny
    ∙ run_step (get_or xs i 0) (get_or ys i 0) (drop (i + 1) xs) (drop (i + 1) ys) (sym (at_both (stay 8) i xs ys inx iny) ∙ goes)

-- and one that ends
run_stops : (xs ys : List ℕ) → stay 8 xs ys ≡ true → run_rest xs ys ≡ 0
run_stops [] ys ends = refl
run_stops (x ∷ xs) [] ends = refl
run_stops (x ∷ xs) (y ∷ ys) ends = ap (λ t. if t then 0 else suc (run_rest xs ys)) ends

pub run_ends : (i : ℕ) (xs ys : List ℕ) → stay 8 (drop i xs) (drop i ys) ≡ true → run_rest (drop i xs) (drop i ys) ≡ 0
run_ends i xs ys ends = run_stops (drop i xs) (drop i ys) ends

-- no run begins where a byte stays
runs_step : (place x y : ℕ) (xs ys : List ℕ) → x ≡ y → runs place 0 (x ∷ xs) (y ∷ ys) ≡ runs (suc place) 0 xs ys
runs_step place x y xs ys same =
    ap (λ t. if t then runs (suc place) zero xs ys else Stored place (y ∷ take (run_rest xs ys) ys) ∷ runs (suc place) (run_rest xs ys) xs ys)
    (eq-eqb x y same)

pub runs_more : (place i : ℕ) (xs ys : List ℕ) → i < length xs → i < length ys → get_or xs i 0 ≡ get_or ys i 0
    → runs (place + i) 0 (drop i xs) (drop i ys) ≡ runs (place + (i + 1)) 0 (drop (i + 1) xs) (drop (i + 1) ys)
runs_more place i xs ys inx iny same =
    at_both (runs (place + i) 0) i xs ys inx iny
    ∙ runs_step (place + i) (get_or xs i 0) (get_or ys i 0) (drop (i + 1) xs) (drop (i + 1) ys) same
    ∙ ap (λ p. runs p 0 (drop (i + 1) xs) (drop (i + 1) ys)) (omega arith)

-- behind the bytes of a run
runs_none : (place : ℕ) (xs : List ℕ) → runs place 0 xs [] ≡ []
runs_none place [] = refl
runs_none place (x ∷ xs) = refl

runs_behind : (place k : ℕ) (xs ys : List ℕ) → runs place k xs ys ≡ runs (place + k) 0 (drop k xs) (drop k ys)
runs_behind place zero xs ys = ap (λ p. runs p 0 xs ys) (omega arith)
runs_behind place (suc k) [] ys = refl
runs_behind place (suc k) (x ∷ xs) [] = sym (runs_none (place + suc k) (drop k xs))
runs_behind place (suc k) (x ∷ xs) (y ∷ ys) = runs_behind (suc place) k xs ys ∙ ap (λ p. runs p 0 (drop k xs) (drop k ys)) (omega arith)

-- a run, and those behind it
runs_begin : (place x y : ℕ) (xs ys : List ℕ) → x ≢ y
    → runs place 0 (x ∷ xs) (y ∷ ys) ≡ Stored place (y ∷ take (run_rest xs ys) ys) ∷ runs (suc place) (run_rest xs ys) xs ys
runs_begin place x y xs ys other =
    ap (λ t. if t then runs (suc place) zero xs ys else Stored place (y ∷ take (run_rest xs ys) ys) ∷ runs (suc place) (run_rest xs ys) xs ys)
    (ne_eqb x y other)

pub runs_next : (place at end : ℕ) (xs ys : List ℕ) → at < length xs → at < length ys → get_or xs at 0 ≢ get_or ys at 0
    → end ≡ at + 1 + run_rest (drop (at + 1) xs) (drop (at + 1) ys)
    → runs (place + at) 0 (drop at xs) (drop at ys) ≡ Stored (place + at) (take (end - at) (drop at ys)) ∷ runs (place + end) 0 (drop end xs) (drop end ys)
runs_next place at end xs ys inx iny other is =
    let n : ℕ = run_rest (drop (at + 1) xs) (drop (at + 1) ys) in
    let more : end - at ≡ suc n = omega arith in
    let bytes : get_or ys at 0 ∷ take n (drop (at + 1) ys) ≡ take (end - at) (drop at ys) =
    sym (ap (λ l. take (suc n) l) (drop_more ys at 0 iny)) ∙ ap (λ k. take k (drop at ys)) (sym more) in
    let place_is : suc (place + at) + n ≡ place + end = omega arith in
    let behind : runs (suc (place + at)) n (drop (at + 1) xs) (drop (at + 1) ys) ≡ runs (place + end) 0 (drop end xs) (drop end ys) =
    runs_behind (suc (place + at)) n (drop (at + 1) xs) (drop (at + 1) ys)
    ∙ ap (λ l. runs (suc (place + at) + n) 0 l (drop n (drop (at + 1) ys))) (drop-drop n (at + 1) xs ∙ ap (λ k. drop k xs) (sym is))
    ∙ ap (runs (suc (place + at) + n) 0 (drop end xs)) (drop-drop n (at + 1) ys ∙ ap (λ k. drop k ys) (sym is))
    ∙ ap (λ p. runs p 0 (drop end xs) (drop end ys)) place_is in
    at_both (runs (place + at) 0) at xs ys inx iny
    ∙ runs_begin (place + at) (get_or xs at 0) (get_or ys at 0) (drop (at + 1) xs) (drop (at + 1) ys) other
    ∙ ap (λ l. Stored (place + at) l ∷ runs (suc (place + at)) n (drop (at + 1) xs) (drop (at + 1) ys)) bytes
    ∙ ap (λ r. Stored (place + at) (take (end - at) (drop at ys)) ∷ r) behind

-- the line with a run put, from a place on behind which it's the first
pub run_told : (place start from at end : ℕ) (was now xs ys : List ℕ)
    → runs (place + from) 0 (drop from xs) (drop from ys) ≡ runs (place + at) 0 (drop at xs) (drop at ys)
    → at < length xs → at < length ys → get_or xs at 0 ≢ get_or ys at 0
    → end ≡ at + 1 + run_rest (drop (at + 1) xs) (drop (at + 1) ys)
    → start ≡ place → now ≡ was ++ change_text (Stored (start + at) (take (end - at) (drop at ys)))
    → now ++ changes_text (runs (place + end) 0 (drop end xs) (drop end ys)) ≡ was ++ changes_text (runs (place + from) 0 (drop from xs) (drop from ys))
run_told place start from at end was now xs ys skipped inx iny other is begins told =
    let rest : List Change = runs (place + end) 0 (drop end xs) (drop end ys) in
    let word : List ℕ = change_text (Stored (place + at) (take (end - at) (drop at ys))) in
    ap (λ l. l ++ changes_text rest) (told ∙ ap (λ p. was ++ change_text (Stored (p + at) (take (end - at) (drop at ys)))) begins)
    ∙ append_assoc was word (changes_text rest)
    ∙ ap (λ r. was ++ changes_text r) (sym (skipped ∙ runs_next place at end xs ys inx iny other is))

-- bytes that all stay have no run
pub runs_same : (place : ℕ) (xs : List ℕ) → runs place 0 xs xs ≡ []
runs_same place [] = refl
runs_same place (x ∷ xs) = runs_step place x x xs xs refl ∙ runs_same (suc place) xs
