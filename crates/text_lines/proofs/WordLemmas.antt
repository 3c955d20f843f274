-- The first word of a line, by its first space, behind the words found so far.
use Rattle.std.proofs.Common.{◌≡◌, ℕ, ◌==◌, List, [], ◌∷◌, ◌++◌, map, Bor, refl, ap, ◌∙◌, append_assoc}
use Rattle.std.proofs.lemmas.List.{map-append}
use Rattle.std.proofs.lemmas.List.Splits.{slice_split_at, slice_split_none}
use Rattle.text_lines.specs.Cuts.{IsCut, Lacks}
use Rattle.text_lines.specs.TextLines.{words}

-- the first word ends at the first space
words_cut : (line word behind : List ℕ) → IsCut 32 line word behind → words line ≡ word ∷ words behind
words_cut line word behind cut =
    ap words cut.whole ∙ slice_split_at (λ c. c == 32) word 32 behind cut.first refl

-- a word more
pub next_word : (line rest behind : List ℕ) (found more : List (Bor (List ℕ))) (word : Bor (List ℕ))
    → words line ≡ map (λ w. w.now) found ++ words rest → IsCut 32 rest word.now behind → more ≡ found ++ word ∷ []
    → words line ≡ map (λ w. w.now) more ++ words behind
next_word line rest behind found more word so_far cut pushed =
    rw (pushed, map-append (λ (w : Bor (List ℕ)). w.now) found (word ∷ []), append_assoc)
    (rw (← words_cut rest word.now behind cut) so_far)

-- the last word, behind which no space is left
pub last_word : (line : List ℕ) (found more : List (Bor (List ℕ))) (rest : Bor (List ℕ))
    → words line ≡ map (λ w. w.now) found ++ words rest.now → Lacks 32 rest.now → more ≡ found ++ rest ∷ []
    → map (λ w. w.now) more ≡ words line
last_word line found more rest so_far lacks pushed =
    rw (pushed, map-append (λ (w : Bor (List ℕ)). w.now) found (rest ∷ []), so_far)
    (rw (slice_split_none (λ c. c == 32) rest.now lacks))
