-- The bytes of guarded frames after stores: where a store goes, the byte is the store's, and elsewhere it stays.
use Rattle.std.proofs.Common.{◌≡◌, ℕ, ◌+◌, ◌*◌, ◌<◌, Bool, true, false, List, [], ◌∷◌, inl, inr, refl, sym, ap, ◌∙◌}
use Rattle.std.specs.Prelude.{◌==◌, ◌&&◌, nat_lt, if◌then◌else◌}
use Rattle.std.specs.List.{list_any}
use Rattle.std.proofs.lemmas.Bool.{and_from, and_right, eq-eqb, eqb-false, eqb-true, false≢true, lt-ltb, ne_eqb, or_cases, or_parts}
use Rattle.nk_body.specs.CallRules.{puts}

-- one of the stores goes to the place
abbrev pub hits : ℕ → List (ℕ × ℕ) → Bool
hits place ws = list_any (λ w. w.0 == place) ws

turned : (a b : ℕ) → (b == a) ≡ false → (a == b) ≡ false
turned a b apart = ne_eqb a b (λ same. eqb-false b a apart (sym same))

-- bytes that agree
pub puts_alike : (ws : List (ℕ × ℕ)) (one other : ℕ → ℕ → ℕ) (f offset : ℕ) → one f offset ≡ other f offset
    → puts one ws f offset ≡ puts other ws f offset
unfolding puts
puts_alike [] one other f offset same = same
puts_alike (w ∷ ws) one other f offset same =
    puts_alike ws _ _ f offset (ap (λ b. if nat_lt offset 4096 && 4096 * f + offset == w.0 then w.1 else b) same)

-- a store elsewhere
pub puts_missed : (ws : List (ℕ × ℕ)) (held : ℕ → ℕ → ℕ) (f offset : ℕ) → hits (4096 * f + offset) ws ≡ false
    → puts held ws f offset ≡ held f offset
unfolding puts
puts_missed [] held f offset missed = refl
puts_missed (w ∷ ws) held f offset missed =
    let parts = or_parts (w.0 == 4096 * f + offset) (hits (4096 * f + offset) ws) missed in
    puts_missed ws _ f offset parts.1
    ∙ ap (λ b. if b then w.1 else held f offset) (and_right (nat_lt offset 4096) (4096 * f + offset == w.0)
    (turned (4096 * f + offset) w.0 parts.0))

-- a store there
pub puts_hit : (ws : List (ℕ × ℕ)) (one other : ℕ → ℕ → ℕ) (f offset : ℕ) → offset < 4096
    → hits (4096 * f + offset) ws ≡ true
    → puts one ws f offset ≡ puts other ws f offset
unfolding puts
puts_hit [] one other f offset inside hit = absurd (false≢true hit)
puts_hit (w ∷ ws) one other f offset inside hit = elim
    (or_cases (w.0 == 4096 * f + offset) (hits (4096 * f + offset) ws) hit) [
      | inl here ↦
          let there : (nat_lt offset 4096 && 4096 * f + offset == w.0) ≡ true =
          and_from (nat_lt offset 4096) _ (lt-ltb offset 4096 inside)
          (eq-eqb (4096 * f + offset) w.0 (sym (eqb-true w.0 (4096 * f + offset) here))) in
          puts_alike ws _ _ f offset (ap (λ b. if b then w.1 else one f offset) there
          ∙ sym (ap (λ b. if b then w.1 else other f offset) there))
      | inr later ↦ puts_hit ws _ _ f offset inside later
    ]
