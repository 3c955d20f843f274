-- What a search for the escape byte says of encodings.
use Rattle.std.proofs.Common.{◌≡◌, ◌≢◌, ℕ, ◌+◌, ◌-◌, ◌<◌, ◌≤◌, List, length, drop, get_or, false, slice_get, nat_lt, ap, ◌∙◌, arith, length-drop, inl, inr}
use Rattle.std.proofs.lemmas.Bool.{cases_lt, eq-eqb}
use Rattle.std.proofs.lemmas.List.{get_or-drop}
use Rattle.decode_fields.specs.Protected.{is_protected_at}
use Rattle.memchr.specs.Find.{NoneBefore, Nowhere, Passes, is_byte}
use Rattle.byte_scanner.specs.Escapes.{IsNextFrom, NoneFrom}
use Rattle.byte_scanner.proofs.ProtectedLemmas.{length_at-other, length_at-past}

-- the rest of the bytes from a place on, in which the search goes
module _ (bytes rest : List ℕ) (from : ℕ) (within : from ≤ length bytes) (is : rest ≡ drop from bytes) where
  rest_length : length rest ≡ length bytes - from
  rest_length = ap length is ∙ length-drop from bytes

  -- no encoding begins where the rest has no escape byte
  other : (k : ℕ) → from ≤ k → k < length bytes → (Passes (is_byte 15) rest (k - from) → ⊥) → is_protected_at (slice_get bytes) k ≡ false
  other k low inside fails =
      let e : from + (k - from) ≡ k = omega arith in
      let here : get_or rest (k - from) 0 ≡ get_or bytes k 0 =
      ap (λ (xs : List ℕ). get_or xs (k - from) 0) is
      ∙ get_or-drop from bytes (k - from) 0
      ∙ ap (λ (i : ℕ). get_or bytes i 0) e in
      let differs : get_or bytes k 0 ≢ 15 = λ same. fails (eq-eqb (get_or rest (k - from) 0) 15 (here ∙ same)) in
      ap (nat_lt 0) (length_at-other bytes k inside differs)

  past : (k : ℕ) → length bytes ≤ k → is_protected_at (slice_get bytes) k ≡ false
  past k h = ap (nat_lt 0) (length_at-past bytes k h)

  pub none_from : Nowhere (Passes (is_byte 15) rest) 0 (length rest) → NoneFrom bytes from
  none_from nowhere k low =
      elim (cases_lt k (length bytes)) [
        | inl inside ↦ other k low inside (nowhere (k - from) (omega arith) (omega (arith, rest_length)))
        | inr h ↦ past k h
      ]

  pub next_from : (place : ℕ) → NoneBefore (Passes (is_byte 15) rest) 0 (length rest) place → IsNextFrom bytes from (from + place)
  next_from place first = record {
    low = omega arith;
    inside = omega (arith, rest_length, first.high);
    clean = λ k low below. other k low (omega (arith, rest_length, first.high)) (first.before (k - from) (omega arith) (omega arith));
  }
