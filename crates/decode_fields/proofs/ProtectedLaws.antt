-- A protected encoding of a list stands at its place with its length where more bytes follow.
use Rattle.std.proofs.Common.{◌≡◌, ℕ, zero, suc, ◌+◌, true, false, cond, nat_eq, nat_lt, Option, Some, None, List, [], ◌∷◌, ◌++◌, slice_get, refl, ap, sym, subst, ◌∙◌, inl, inr}
use Rattle.std.proofs.lemmas.Bool.{cases_Bool, cond-true, cond-false}
use Rattle.decode_fields.specs.Protected.{is_protected_at, is_refused_with, length_after_escape, length_at, length_of_bytes}

-- a byte stays where more bytes follow; a place past the end may get one
abbrev Stays : Option ℕ → Option ℕ → Type 0
Stays None later = Unit {0}
Stays (Some byte) later = later ≡ Some byte

stays : (bytes more : List ℕ) (place : ℕ) → Stays (slice_get bytes place) (slice_get (bytes ++ more) place)
stays [] more place = tt
stays (byte ∷ bytes) more zero = refl
stays (byte ∷ bytes) more (suc place) = stays bytes more place

-- a third byte changes nothing where the encoding is whole without
escape_stays : (opcode third : ℕ) → nat_lt 0 (length_after_escape (Some opcode) None) ≡ true → length_after_escape (Some opcode) (Some third) ≡ length_after_escape (Some opcode) None
escape_stays opcode third h = elim (cases_Bool (nat_eq opcode 0x30)) [
  | inl alone ↦ cond-true (nat_eq opcode 0x30) 2 (cond (is_refused_with opcode third) 3 0) alone ∙ sym (cond-true {A = ℕ} (nat_eq opcode 0x30) 2 0 alone)
  | inr other ↦
      let none : length_after_escape (Some opcode) None ≡ 0 = cond-false {A = ℕ} (nat_eq opcode 0x30) 2 0 other in
      let P : ℕ → Type 0 = λ n. nat_lt 0 n ≡ true in
      let no : false ≡ true = subst P none h in absurd (cc)
]

third_stays : (opcode : ℕ) (third later : Option ℕ) → Stays third later → nat_lt 0 (length_after_escape (Some opcode) third) ≡ true → length_after_escape (Some opcode) later ≡ length_after_escape (Some opcode) third
third_stays opcode (Some third) later same h = ap (length_after_escape (Some opcode)) same
third_stays opcode None None same h = refl
third_stays opcode None (Some third) same h = escape_stays opcode third h

second_stays : (second later third later' : Option ℕ) → Stays second later → Stays third later' → nat_lt 0 (length_after_escape second third) ≡ true → length_after_escape later later' ≡ length_after_escape second third
second_stays None later third later' same same' h = absurd (cc)
second_stays (Some opcode) later third later' same same' h = ap (λ s. length_after_escape s later') same ∙ third_stays opcode third later' same' h

first_stays : (first later second later' third later'' : Option ℕ) → Stays first later → Stays second later' → Stays third later'' → nat_lt 0 (length_of_bytes first second third) ≡ true → length_of_bytes later later' later'' ≡ length_of_bytes first second third
first_stays None later second later' third later'' one two three h = absurd (cc)
first_stays (Some first) later second later' third later'' one two three h =
    ap (λ f. length_of_bytes f later' later'') one ∙ elim (cases_Bool (nat_eq first 0x0F)) [
      | inl escape ↦
          let here : length_of_bytes (Some first) second third ≡ length_after_escape second third = cond-true (nat_eq first 0x0F) (length_after_escape second third) 0 escape in
          let P : ℕ → Type 0 = λ n. nat_lt 0 n ≡ true in
          cond-true (nat_eq first 0x0F) (length_after_escape later' later'') 0 escape ∙ (second_stays second later' third later'' two three (subst P here h) ∙ sym here)
      | inr other ↦ cond-false (nat_eq first 0x0F) (length_after_escape later' later'') 0 other ∙ sym (cond-false (nat_eq first 0x0F) (length_after_escape second third) 0 other)
    ]

pub length_at-append : (bytes more : List ℕ) (place : ℕ) → is_protected_at (slice_get bytes) place ≡ true → length_at (slice_get (bytes ++ more)) place ≡ length_at (slice_get bytes) place
length_at-append bytes more place h =
    first_stays (slice_get bytes place) (slice_get (bytes ++ more) place) (slice_get bytes (place + 1)) (slice_get (bytes ++ more) (place + 1)) (slice_get bytes (place + 2)) (slice_get (bytes ++ more) (place + 2))
    (stays bytes more place) (stays bytes more (place + 1)) (stays bytes more (place + 2)) h

pub is_protected_at-append : (bytes more : List ℕ) (place : ℕ) → is_protected_at (slice_get bytes) place ≡ true → is_protected_at (slice_get (bytes ++ more)) place ≡ true
is_protected_at-append bytes more place h = ap (nat_lt 0) (length_at-append bytes more place h) ∙ h
