use Rattle.std.proofs.Common.{◌≡◌, ◌<◌, ◌≤◌, ◌∷◌, [], ℕ, List, Bor, length, slice_index_or, arith, refl, ap, ◌∙◌}
use Rattle.std.specs.Prelude.{map}
use Rattle.replay_core.specs.JournalLines.{heard_of}
use Rattle.replay_core.proofs.heard.hear.Goals as goal

abbrev at : List (Bor (List ℕ)) → ℕ → List ℕ
at found place = (slice_index_or found place (record { ref_ptr = (0, 0); now = [] })).now

two : (found : List (Bor (List ℕ))) → 2 ≤ length found → length found < 3
    → heard_of (at found 0 ∷ at found 1 ∷ []) ≡ heard_of (map (λ word. word.now) found)
two (a ∷ b ∷ []) least most = refl
two _ least most = absurd (omega (arith, least, most))

five : (found : List (Bor (List ℕ))) → 5 ≤ length found → length found < 6
    → heard_of (at found 0 ∷ at found 1 ∷ at found 2 ∷ at found 3 ∷ at found 4 ∷ []) ≡ heard_of (map (λ word. word.now) found)
five (a ∷ b ∷ c ∷ d ∷ e ∷ []) least most = refl
five _ least most = absurd (omega (arith, least, most))

nine : (found : List (Bor (List ℕ))) → 9 ≤ length found → length found < 10
    → heard_of (at found 0 ∷ at found 1 ∷ at found 2 ∷ at found 3 ∷ at found 4 ∷ at found 5 ∷ at found 6 ∷ at found 7 ∷ at found 8 ∷ [])
    ≡ heard_of (map (λ word. word.now) found)
nine (a ∷ b ∷ c ∷ d ∷ e ∷ f ∷ g ∷ h ∷ i ∷ []) least most = refl
nine _ least most = absurd (omega (arith, least, most))

pub returns-in-len2-clause-heard : goal.returns-in-len2-clause-heard
returns-in-len2-clause-heard c =
    c.short_line.ensures
    ∙ (two c.as_slice.result.now c.in-len2.len_at_least c.in-len2.len_below
    ∙ (ap (λ found. heard_of (map (λ word. word.now) found)) c.as_slice.ensures.value ∙ ap heard_of c.in-Some.ensures))

pub returns-in-len5-clause-heard : goal.returns-in-len5-clause-heard
returns-in-len5-clause-heard c =
    c.delivery_line.ensures
    ∙ (five c.as_slice.result.now c.in-len5.len_at_least c.in-len5.len_below
    ∙ (ap (λ found. heard_of (map (λ word. word.now) found)) c.as_slice.ensures.value ∙ ap heard_of c.in-Some.ensures))

pub returns-in-len9-clause-heard : goal.returns-in-len9-clause-heard
returns-in-len9-clause-heard c =
    rw c.call_words.ensures at c.call_line.ensures
    ∙ (nine c.as_slice.result.now c.in-len9.len_at_least c.in-len9.len_below
    ∙ (ap (λ found. heard_of (map (λ word. word.now) found)) c.as_slice.ensures.value ∙ ap heard_of c.in-Some.ensures))
