-- The last two bytes of lists.
use Rattle.std.proofs.Common.{◌≡◌, ℕ, ◌+◌, ◌-◌, ◌≤◌, List, [], ◌∷◌, ◌++◌, length, get_or, drop, refl, ap, sym, ◌∙◌, arith, length-append}
use Rattle.std.proofs.lemmas.List.{drop-drop, drop_at, drop_all, drop_more}
use Rattle.byte_scanner.specs.PieceRuns.{last_two}

-- those of a whole are those of its tail, where the tail has two
pub last_two-behind : (front tail : List ℕ) → 2 ≤ length tail → last_two (front ++ tail) ≡ last_two tail
last_two-behind front tail enough =
    let e : length (front ++ tail) - 2 ≡ length front + (length tail - 2) = omega (arith, length-append front tail) in
    ap (λ (n : ℕ). drop n (front ++ tail)) e
    ∙ sym (drop-drop (length tail - 2) (length front) (front ++ tail))
    ∙ ap (drop (length tail - 2)) (drop_at front tail (length front) refl)

-- those of a list, by its last places
pub last_two-at : (bytes : List ℕ) → 2 ≤ length bytes → last_two bytes ≡ get_or bytes (length bytes - 2) 0 ∷ get_or bytes (length bytes - 1) 0 ∷ []
last_two-at bytes enough =
    let n = length bytes - 2 in
    let last : n + 1 ≡ length bytes - 1 = omega arith in
    let rest : drop (n + 1) bytes ≡ get_or bytes (length bytes - 1) 0 ∷ [] =
    drop_more bytes (n + 1) 0 (omega arith)
    ∙ ap (λ (xs : List ℕ). get_or bytes (n + 1) 0 ∷ xs) (drop_all (n + 1 + 1) bytes (omega arith))
    ∙ ap (λ (k : ℕ). get_or bytes k 0 ∷ []) last in
    drop_more bytes n 0 (omega arith) ∙ ap (λ (xs : List ℕ). get_or bytes n 0 ∷ xs) rest

-- what is kept behind a piece of two bytes or more is its last two
pub last_two-is : (front piece : List ℕ) (next last : ℕ) → 2 ≤ length piece → next ≡ get_or piece (length piece - 2) 0 → last ≡ get_or piece (length piece - 1) 0 → next ∷ last ∷ [] ≡ last_two (front ++ piece)
last_two-is front piece next last enough e f =
    ap (λ (x : ℕ). x ∷ last ∷ []) e
    ∙ ap (λ (x : ℕ). get_or piece (length piece - 2) 0 ∷ x ∷ []) f
    ∙ sym (last_two-at piece enough)
    ∙ sym (last_two-behind front piece enough)
