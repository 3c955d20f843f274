-- The best of what is tried spells the instruction, and isn't behind anything tried that does.
use Rattle.std.proofs.Common.{◌≡◌, ◌≢◌, ℕ, zero, suc, ◌+◌, ◌⊎◌, Bool, true, false, ◌&&◌, not, nat_eq, List, [], ◌∷◌, ◌++◌, length, refl, ap, sym, subst, ◌∙◌, arith, inl, inr}
use Rattle.std.specs.List.{flat_map, range_with_len}
use Rattle.std.proofs.lemmas.Bool.{and_from, and_left, and_parts, cases_Bool, cond-true, cond-false, eq-eqb, eqb-true, not-false, not-true, or_cases, or_parts}
use Rattle.std.proofs.lemmas.List.{append-nil, nil_from_length}
use Rattle.std.proofs.lemmas.List.Concat.{flat_map-append}
use Rattle.std.proofs.lemmas.List.Sums.{fold-append}
use Rattle.x86_decode.specs.declared.instruction.Instr.{Instr}
use Rattle.asm_text.specs.Candidates.{best_of, better, improves, is_spelled}
use Rattle.asm_text.specs.LeastSpelling.{is_not_behind}
use Rattle.asm_text.proofs.Orders.{order_either, order_same, order_through}
use Rattle.asm_text.proofs.Tried.{IsAmong}

-- none yet, or a spelling
abbrev pub IsSound : Instr → List ℕ → Type 0
IsSound instr best = (best ≡ []) ⊎ (is_spelled instr best ≡ true)

-- some, and not behind the other
pub record IsAhead (best other : List ℕ) : Type 0 where
  pub some : best ≢ []
  pub ahead : is_not_behind best other ≡ true

true_false : (b : Bool) → b ≡ true → b ≡ false → ⊥
true_false b h g = cc

nothing_spelled : (instr : Instr) → is_spelled instr [] ≡ false
unfolding is_spelled
nothing_spelled instr = refl

spelled_some : (instr : Instr) (bytes : List ℕ) → is_spelled instr bytes ≡ true → bytes ≢ []
spelled_some instr bytes h is = true_false (is_spelled instr []) (ap (is_spelled instr) (sym is) ∙ h) (nothing_spelled instr)

replaced : (instr : Instr) (best bytes : List ℕ) → (improves best bytes && is_spelled instr bytes) ≡ true → better instr best bytes ≡ bytes
unfolding better
replaced instr best bytes h = cond-true (improves best bytes && is_spelled instr bytes) bytes best h

pub kept : (instr : Instr) (best bytes : List ℕ) → (improves best bytes && is_spelled instr bytes) ≡ false → better instr best bytes ≡ best
unfolding better
kept instr best bytes h = cond-false (improves best bytes && is_spelled instr bytes) bytes best h

-- what improves on some bytes comes before them
improves_before : (best bytes : List ℕ) → best ≢ [] → improves best bytes ≡ true → is_not_behind bytes best ≡ true
unfolding improves
improves_before best bytes some h = elim (or_cases (nat_eq (length best) 0) (not (is_not_behind best bytes)) h) [
  | inl none ↦ absurd (some (nil_from_length best (eqb-true (length best) 0 none)))
  | inr behind ↦ elim (order_either bytes best) [
    | inl before ↦ before
    | inr other ↦ absurd (true_false (is_not_behind best bytes) other (not-true (is_not_behind best bytes) behind))
  ]
]

not_improved : (best bytes : List ℕ) → improves best bytes ≡ false → IsAhead best bytes
unfolding improves
not_improved best bytes h =
    let parts : (nat_eq (length best) 0 ≡ false) × (not (is_not_behind best bytes) ≡ false) = or_parts (nat_eq (length best) 0) (not (is_not_behind best bytes)) h in
    record {
      some = λ none. true_false (nat_eq (length best) 0) (eq-eqb (length best) 0 (ap length none)) parts.0;
      ahead = not-false (is_not_behind best bytes) parts.1;
    }

sound_step : (instr : Instr) (best bytes : List ℕ) → IsSound instr best → IsSound instr (better instr best bytes)
sound_step instr best bytes sound = elim (cases_Bool (improves best bytes && is_spelled instr bytes)) [
  | inl both ↦
      subst (IsSound instr) (sym (replaced instr best bytes both))
      (inr ((and_parts (improves best bytes) (is_spelled instr bytes) both).1))
  | inr neither ↦ subst (IsSound instr) (sym (kept instr best bytes neither)) sound
]

ahead_step : (instr : Instr) (best bytes other : List ℕ) → IsAhead best other → IsAhead (better instr best bytes) other
ahead_step instr best bytes other is = elim (cases_Bool (improves best bytes && is_spelled instr bytes)) [
  | inl both ↦
      let parts : (improves best bytes ≡ true) × (is_spelled instr bytes ≡ true) = and_parts (improves best bytes) (is_spelled instr bytes) both in
      let P : List ℕ → Type 0 = λ b. IsAhead b other in
      subst P (sym (replaced instr best bytes both)) (record {
        some = spelled_some instr bytes parts.1;
        ahead = order_through bytes best other (improves_before best bytes is.some parts.0) is.ahead;
      })
  | inr neither ↦ let P : List ℕ → Type 0 = λ b. IsAhead b other in subst P (sym (kept instr best bytes neither)) is
]

new_step : (instr : Instr) (best bytes : List ℕ) → is_spelled instr bytes ≡ true → IsAhead (better instr best bytes) bytes
new_step instr best bytes spells = elim (cases_Bool (improves best bytes)) [
  | inl before ↦
      let P : List ℕ → Type 0 = λ b. IsAhead b bytes in
      subst P (sym (replaced instr best bytes (and_from (improves best bytes) (is_spelled instr bytes) before spells)))
      (record { some = spelled_some instr bytes spells; ahead = order_same bytes })
  | inr behind ↦
      let P : List ℕ → Type 0 = λ b. IsAhead b bytes in
      subst P (sym (kept instr best bytes (and_left (improves best bytes) (is_spelled instr bytes) behind))) (not_improved best bytes behind)
]

pub best_sound : (instr : Instr) (best : List ℕ) (tried : List (List ℕ)) → IsSound instr best → IsSound instr (best_of instr best tried)
unfolding best_of
best_sound instr best [] sound = sound
best_sound instr best (bytes ∷ tried) sound = best_sound instr (better instr best bytes) tried (sound_step instr best bytes sound)

best_ahead : (instr : Instr) (best : List ℕ) (tried : List (List ℕ)) (other : List ℕ) → IsAhead best other → IsAhead (best_of instr best tried) other
unfolding best_of
best_ahead instr best [] other is = is
best_ahead instr best (bytes ∷ tried) other is = best_ahead instr (better instr best bytes) tried other (ahead_step instr best bytes other is)

-- what was tried and spells the instruction doesn't come before the best
pub best_tried : (instr : Instr) (best : List ℕ) (tried : List (List ℕ)) (bytes : List ℕ) → IsAmong bytes tried → is_spelled instr bytes ≡ true → IsAhead (best_of instr best tried) bytes
unfolding best_of
best_tried instr best [] bytes h spells = absurd h
best_tried instr best (first ∷ tried) bytes (inl is) spells =
    let P : List ℕ → Type 0 = λ b. IsAhead (better instr best b) bytes in
    best_ahead instr (better instr best first) tried bytes (subst P (sym is) (new_step instr best bytes spells))
best_tried instr best (first ∷ tried) bytes (inr h) spells = best_tried instr (better instr best first) tried bytes h spells

-- one list behind another, and one number more
pub best_none : (instr : Instr) (best : List ℕ) → best_of instr best [] ≡ best
unfolding best_of
best_none instr best = refl

pub best_one : (instr : Instr) (best bytes : List ℕ) → best_of instr best (bytes ∷ []) ≡ better instr best bytes
unfolding best_of
best_one instr best bytes = refl

pub best_append : (instr : Instr) (best : List ℕ) (some others : List (List ℕ)) → best_of instr best (some ++ others) ≡ best_of instr (best_of instr best some) others
unfolding best_of
best_append instr best some others = fold-append (better instr) best some others

range_more : (first count : ℕ) → range_with_len first (suc count) ≡ range_with_len first count ++ (first + count) ∷ []
range_more first zero =
    let same : first ≡ first + 0 = omega arith in
    ap (λ (n : ℕ). n ∷ []) same
range_more first (suc count) =
    let same : first + 1 + count ≡ first + suc count = omega arith in
    ap (λ r. first ∷ r) (range_more (first + 1) count) ∙ ap (λ (n : ℕ). first ∷ (range_with_len (first + 1) count ++ n ∷ [])) same

pub range_next : (count : ℕ) → range_with_len 0 (count + 1) ≡ range_with_len 0 count ++ count ∷ []
range_next count =
    let one : count + 1 ≡ suc count = omega arith in
    let same : 0 + count ≡ count = omega arith in
    ap (range_with_len 0) one ∙ (range_more 0 count ∙ ap (λ (n : ℕ). range_with_len 0 count ++ n ∷ []) same)

pub best_more : (instr : Instr) (best : List ℕ) (each : ℕ → List (List ℕ)) (count : ℕ) → best_of instr best (flat_map each (range_with_len 0 (count + 1))) ≡ best_of instr (best_of instr best (flat_map each (range_with_len 0 count))) (each count)
best_more instr best each count =
    ap (λ r. best_of instr best (flat_map each r)) (range_next count)
    ∙ (ap (best_of instr best) (flat_map-append each (range_with_len 0 count) (count ∷ []) ∙ ap (λ l. flat_map each (range_with_len 0 count) ++ l) (append-nil (each count)))
    ∙ best_append instr best (flat_map each (range_with_len 0 count)) (each count))

-- one number more of a loop
pub best_step : (instr : Instr) (best : List ℕ) (each : ℕ → List (List ℕ)) (count : ℕ) (so_far more : List ℕ)
    → so_far ≡ best_of instr best (flat_map each (range_with_len 0 count)) → more ≡ best_of instr so_far (each count)
    → more ≡ best_of instr best (flat_map each (range_with_len 0 (count + 1)))
best_step instr best each count so_far more is step =
    step ∙ (ap (λ b. best_of instr b (each count)) is ∙ sym (best_more instr best each count))
