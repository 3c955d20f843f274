-- What is tried of numbers in a row: in blocks of eight, and without those of which nothing is tried.
use Rattle.std.proofs.Common.{◌≡◌, ◌≢◌, ℕ, zero, suc, ◌+◌, ◌-◌, ◌*◌, ◌<◌, ◌≤◌, List, [], ◌∷◌, ◌++◌, refl, ap, sym, ◌∙◌, arith, append-nil, append_assoc}
use Rattle.std.specs.List.{flat_map, range_with_len}
use Rattle.std.proofs.lemmas.List.Concat.{flat_map-append}
use Rattle.asm_text.proofs.Bests.{range_next}

abbrev pub Tries : Type 0
Tries = ℕ → List (List ℕ)

pub flat_next : (each : Tries) (count : ℕ) → flat_map each (range_with_len 0 (count + 1)) ≡ flat_map each (range_with_len 0 count) ++ each count
flat_next each count =
    ap (flat_map each) (range_next count)
    ∙ (flat_map-append each (range_with_len 0 count) (count ∷ [])
    ∙ ap (λ l. flat_map each (range_with_len 0 count) ++ l) (append-nil (each count)))

-- more numbers
flat_more : (each : Tries) (count more : ℕ) → flat_map each (range_with_len 0 (count + more)) ≡ flat_map each (range_with_len 0 count) ++ flat_map (λ k. each (count + k)) (range_with_len 0 more)
flat_more each count zero =
    let same : count + 0 ≡ count = omega arith in
    ap (λ (n : ℕ). flat_map each (range_with_len 0 n)) same ∙ sym (append-nil (flat_map each (range_with_len 0 count)))
flat_more each count (suc more) =
    let same : count + suc more ≡ count + more + 1 = omega arith in
    let one : suc more ≡ more + 1 = omega arith in
    let so_far : List (List ℕ) = flat_map each (range_with_len 0 count) in
    let later : Tries = λ k. each (count + k) in
    ap (λ (n : ℕ). flat_map each (range_with_len 0 n)) same
    ∙ (flat_next each (count + more)
    ∙ (ap (λ l. l ++ each (count + more)) (flat_more each count more)
    ∙ (append_assoc so_far (flat_map later (range_with_len 0 more)) (each (count + more))
    ∙ ap (λ l. so_far ++ l) (sym (flat_next later more) ∙ ap (λ (n : ℕ). flat_map later (range_with_len 0 n)) (sym one)))))

-- eight at a time
pub flat_blocks : (each : Tries) (count : ℕ) → flat_map (λ block. flat_map (λ k. each (8 * block + k)) (range_with_len 0 8)) (range_with_len 0 count) ≡ flat_map each (range_with_len 0 (8 * count))
flat_blocks each zero = refl
flat_blocks each (suc count) =
    let blocks : Tries = λ block. flat_map (λ k. each (8 * block + k)) (range_with_len 0 8) in
    let one : suc count ≡ count + 1 = omega arith in
    let same : 8 * suc count ≡ 8 * count + 8 = omega arith in
    ap (λ (n : ℕ). flat_map blocks (range_with_len 0 n)) one
    ∙ (flat_next blocks count
    ∙ (ap (λ l. l ++ blocks count) (flat_blocks each count)
    ∙ (sym (flat_more each (8 * count) 8) ∙ ap (λ (n : ℕ). flat_map each (range_with_len 0 n)) (sym same))))

-- two that try the same
pub flat_same : (each other : Tries) (count : ℕ) → ((k : ℕ) → k < count → each k ≡ other k) → flat_map each (range_with_len 0 count) ≡ flat_map other (range_with_len 0 count)
flat_same each other zero same = refl
flat_same each other (suc count) same =
    let one : suc count ≡ count + 1 = omega arith in
    ap (λ (n : ℕ). flat_map each (range_with_len 0 n)) one
    ∙ (flat_next each count
    ∙ (ap (λ l. l ++ each count) (flat_same each other count (λ k below. same k (omega arith)))
    ∙ (ap (λ l. flat_map other (range_with_len 0 count) ++ l) (same count (omega arith))
    ∙ (sym (flat_next other count) ∙ ap (λ (n : ℕ). flat_map other (range_with_len 0 n)) (sym one)))))

-- none is tried from a number on
pub flat_cut : (each : Tries) (count more : ℕ) → ((k : ℕ) → count ≤ k → k < count + more → each k ≡ []) → flat_map each (range_with_len 0 (count + more)) ≡ flat_map each (range_with_len 0 count)
flat_cut each count zero none =
    let same : count + 0 ≡ count = omega arith in
    ap (λ (n : ℕ). flat_map each (range_with_len 0 n)) same
flat_cut each count (suc more) none =
    let same : count + suc more ≡ count + more + 1 = omega arith in
    ap (λ (n : ℕ). flat_map each (range_with_len 0 n)) same
    ∙ (flat_next each (count + more)
    ∙ (ap (λ l. flat_map each (range_with_len 0 (count + more)) ++ l) (none (count + more) (omega arith) (omega arith))
    ∙ (append-nil (flat_map each (range_with_len 0 (count + more)))
    ∙ flat_cut each count more (λ k from below. none k from (omega arith)))))

pub flat_up_to : (each : Tries) (count all : ℕ) → count ≤ all → ((k : ℕ) → count ≤ k → k < all → each k ≡ []) → flat_map each (range_with_len 0 all) ≡ flat_map each (range_with_len 0 count)
flat_up_to each count all within none =
    let same : all ≡ count + (all - count) = omega arith in
    ap (λ (n : ℕ). flat_map each (range_with_len 0 n)) same
    ∙ flat_cut each count (all - count) (λ k from below. none k from (omega arith))

pub flat_none : (each : Tries) (all : ℕ) → ((k : ℕ) → k < all → each k ≡ []) → flat_map each (range_with_len 0 all) ≡ []
flat_none each all none = flat_up_to each 0 all (omega arith) (λ k from below. none k below)

-- one alone is tried
pub flat_one : (each : Tries) (all one : ℕ) → one < all → ((k : ℕ) → k < all → k ≢ one → each k ≡ []) → flat_map each (range_with_len 0 all) ≡ each one
flat_one each all one within none =
    flat_up_to each (one + 1) all (omega arith) (λ k from below. none k below (λ same. absurd (omega arith)))
    ∙ (flat_next each one
    ∙ ap (λ l. l ++ each one) (flat_none each one (λ k below. none k (omega arith) (λ same. absurd (omega arith)))))

-- two rows of numbers behind one another
pub flat_both : (each : Tries) (count more : ℕ) → flat_map each (range_with_len 0 count) ++ flat_map (λ k. each (count + k)) (range_with_len 0 more) ≡ flat_map each (range_with_len 0 (count + more))
flat_both each count more = sym (flat_more each count more)
