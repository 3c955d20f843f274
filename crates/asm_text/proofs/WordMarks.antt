-- Words that lack a byte, and a text that is cut behind one.
use Rattle.std.proofs.Common.{◌≡◌, ℕ, suc, ◌+◌, ◌<◌, ◌≤◌, Bool, true, List, [], ◌∷◌, ◌++◌, length, take, drop, refl, ap, subst, ◌∙◌, arith}
use Rattle.std.specs.Prelude.{◌==◌, ◌&&◌, cond, not}
use Rattle.std.specs.Char.{digit_value}
use Rattle.std.specs.List.{position_or_len, prefix_len}
use Rattle.std.specs.Str.Parse.{AllDigits}
use Rattle.std.proofs.Math.Seq.{drop-append_seam, take-append_seam}
use Rattle.std.proofs.lemmas.Bool.{and_parts, eq-eqb, ne_eqb}
use Rattle.asm_text.specs.ParsedTexts.{bytes_past, bytes_to}

-- no byte of the word has this value
abbrev pub lacks : ℕ → List ℕ → Bool
lacks mark [] = true
lacks mark (c ∷ later) = not (c == mark) && lacks mark later

both_hold : (a b : Bool) → a ≡ true → b ≡ true → (a && b) ≡ true
both_hold a b first second = λ i. first i && second i

pub lacks_append : (mark : ℕ) (word other : List ℕ) → lacks mark word ≡ true → lacks mark other ≡ true
    → lacks mark (word ++ other) ≡ true
lacks_append mark [] other first second = second
lacks_append mark (c ∷ later) other first second =
    let parts = and_parts (not (c == mark)) (lacks mark later) first in
    both_hold (not (c == mark)) (lacks mark (later ++ other)) parts.0 (lacks_append mark later other parts.1 second)

-- digits lack what is no digit
pub lacks_digits : (radix mark : ℕ) (word : List ℕ) → radix ≤ 36 → digit_value mark ≡ 36 → AllDigits radix word
    → lacks mark word ≡ true
lacks_digits radix mark [] few none are = refl
lacks_digits radix mark (c ∷ later) few none are =
    let other : c ≡ mark → ⊥ = λ same. omega (arith, subst (λ k. digit_value k < radix) same are.0, none, few) in
    both_hold (not (c == mark)) (lacks mark later) (ap not (ne_eqb c mark other))
    (lacks_digits radix mark later few none are.1)

mark_place : (mark : ℕ) (word rest : List ℕ) → lacks mark word ≡ true
    → position_or_len (λ c. c == mark) (word ++ (mark ∷ rest)) ≡ length word
mark_place mark [] rest free = λ i. cond (not (eq-eqb mark mark refl i)) (1 + prefix_len (λ c. not (c == mark)) rest) 0
mark_place mark (c ∷ later) rest free =
    let parts = and_parts (not (c == mark)) (lacks mark later) free in
    let behind = prefix_len (λ c. not (c == mark)) (later ++ (mark ∷ rest)) in
    let step : 1 + behind ≡ suc (length later) = omega (arith, mark_place mark later rest parts.1) in
    (λ i. cond (parts.0 i) (1 + behind) 0) ∙ step

-- a text is cut at its first mark
pub cut_to : (mark : ℕ) (word rest : List ℕ) → lacks mark word ≡ true
    → bytes_to mark (word ++ (mark ∷ rest)) ≡ word
unfolding bytes_to
cut_to mark word rest free =
    ap (λ n. take n (word ++ (mark ∷ rest))) (mark_place mark word rest free) ∙ take-append_seam word (mark ∷ rest)

pub cut_past : (mark : ℕ) (word rest : List ℕ) → lacks mark word ≡ true
    → bytes_past mark (word ++ (mark ∷ rest)) ≡ rest
unfolding bytes_past
cut_past mark word rest free =
    ap (λ n. drop 1 (drop n (word ++ (mark ∷ rest)))) (mark_place mark word rest free)
    ∙ ap (drop 1) (drop-append_seam word (mark ∷ rest))
