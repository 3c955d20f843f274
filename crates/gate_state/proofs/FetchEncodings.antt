-- A protected encoding among bytes stands wherever those bytes stand, and in an instruction behind prefix bytes.
use Rattle.std.proofs.Common.{◌≡◌, ℕ, ◌+◌, ◌<◌, ◌≤◌, Bool, true, false, cond, nat_eq, nat_lt, List, length, get_or, take, drop, slice_get, refl, sym, ap, subst, ◌∙◌, arith, inl, inr}
use Rattle.std.specs.Prelude.{Option, None, Some}
use Rattle.std.proofs.lemmas.Bool.{both_ways, cases_Bool, cases_lt, false≢true}
use Rattle.std.proofs.lemmas.List.{get_or-take, get_or_append_left, length-append, length-take-le, take-append-drop}
use Rattle.std.proofs.lemmas.List.Folds.{list_all_at}
use Rattle.std.proofs.lemmas.Option.{slice_get_past}
use Rattle.decode_fields.specs.Prefixes.{is_prefix, prefix_bytes}
use Rattle.decode_fields.specs.Protected.{is_protected_at, is_refused_with, length_after_escape, length_of_bytes}
use Rattle.gate_state.proofs.LowerLaws.{LowerLaws}

-- a byte that is there is there too
abbrev pub Stays : Option ℕ → Option ℕ → Type 0
Stays one other = (byte : ℕ) → one ≡ Some byte → other ≡ Some byte

-- the bytes after 0F end an encoding
abbrev ends : Option ℕ → Option ℕ → Bool
ends second third = nat_lt 0 (length_after_escape second third)

ends_alone : (opcode third : ℕ) (alone : Bool) → nat_lt 0 (cond alone 2 0) ≡ true
    → nat_lt 0 (cond alone 2 (cond (is_refused_with opcode third) 3 0)) ≡ true
ends_alone opcode third true is = refl
ends_alone opcode third false is = absurd (false≢true is)

ends_third : (opcode : ℕ) (third later : Option ℕ) → Stays third later → ends (Some opcode) third ≡ true
    → ends (Some opcode) later ≡ true
ends_third opcode (Some third) later stays is =
    subst (λ (o : Option ℕ). ends (Some opcode) o ≡ true) (sym (stays third refl)) is
ends_third opcode None None stays is = is
ends_third opcode None (Some third) stays is = ends_alone opcode third (nat_eq opcode 0x30) is

ends_second : (second later third later' : Option ℕ) → Stays second later → Stays third later'
    → ends second third ≡ true
    → ends later later' ≡ true
ends_second None later third later' one two is = absurd (false≢true is)
ends_second (Some opcode) later third later' one two is =
    subst (λ (o : Option ℕ). ends o later' ≡ true) (sym (one opcode refl)) (ends_third opcode third later' two is)

behind_escape : (escape : Bool) (second later third later' : Option ℕ) → Stays second later → Stays third later'
    → nat_lt 0 (cond escape (length_after_escape second third) 0) ≡ true
    → nat_lt 0 (cond escape (length_after_escape later later') 0) ≡ true
behind_escape true second later third later' one two is = ends_second second later third later' one two is
behind_escape false second later third later' one two is = absurd (false≢true is)

encoding_stays : (first later second later' third later'' : Option ℕ) → Stays first later → Stays second later'
    → Stays third later''
    → nat_lt 0 (length_of_bytes first second third) ≡ true → nat_lt 0 (length_of_bytes later later' later'') ≡ true
encoding_stays None later second later' third later'' one two three is = absurd (false≢true is)
encoding_stays (Some first) later second later' third later'' one two three is =
    subst (λ (o : Option ℕ). nat_lt 0 (length_of_bytes o later' later'') ≡ true) (sym (one first refl))
    (behind_escape (nat_eq first 0x0F) second later' third later'' two three is)

-- an encoding at a place of one function of bytes stands at a place of another
pub protected_stays : (f g : ℕ → Option ℕ) (p q : ℕ) → Stays (f p) (g q) → Stays (f (p + 1)) (g (q + 1))
    → Stays (f (p + 2)) (g (q + 2))
    → is_protected_at f p ≡ true → is_protected_at g q ≡ true
protected_stays f g p q one two three is =
    encoding_stays (f p) (g q) (f (p + 1)) (g (q + 1)) (f (p + 2)) (g (q + 2)) one two three is

-- an encoding of a list begins inside it
pub protected_within : (bytes : List ℕ) (place : ℕ) → is_protected_at (slice_get bytes) place ≡ true
    → place < length bytes
protected_within bytes place is = elim (cases_lt place (length bytes)) [
  | inl inside ↦ inside
  | inr past ↦
      let none : slice_get bytes place ≡ None = slice_get_past bytes place past in
      absurd (false≢true (subst (λ (o : Option ℕ). nat_lt 0
      (length_of_bytes o (slice_get bytes (place + 1)) (slice_get bytes (place + 2))) ≡ true) none is))
]

module _ (laws : LowerLaws) where
  -- an encoding of the first bytes is one of them all
  pub protected_in_front : (size : ℕ) (bytes : List ℕ) (place : ℕ)
      → is_protected_at (slice_get (take size bytes)) place ≡ true
      → is_protected_at (slice_get bytes) place ≡ true
  protected_in_front size bytes place is =
      subst (λ (xs : List ℕ). is_protected_at (slice_get xs) place ≡ true) (take-append-drop size bytes)
      (laws.longer.protected (take size bytes) (drop size bytes) place is)

  -- each of the prefix bytes is one
  pub prefix_there : (bytes : List ℕ) (j : ℕ) → j < length (prefix_bytes bytes) → is_prefix (get_or bytes j 0) ≡ true
  prefix_there bytes j below =
      let front : List ℕ = prefix_bytes bytes in
      let same : get_or bytes j 0 ≡ get_or front j 0 =
      sym (ap (λ (xs : List ℕ). get_or xs j 0) (laws.prefixes.front bytes))
      ∙ get_or_append_left front (drop (length front) bytes) 0 j below in
      let there : is_prefix (get_or front j 0) ≡ true = elim (cases_Bool (is_prefix (get_or front j 0))) [
        | inl on ↦ on
        | inr off ↦ absurd (both_ways _ (list_all_at is_prefix front j 0 below off) (laws.prefixes.all bytes))
      ] in
      ap is_prefix same ∙ there

  prefixes_within : (bytes : List ℕ) → length (prefix_bytes bytes) ≤ length bytes
  prefixes_within bytes =
      let front : List ℕ = prefix_bytes bytes in
      omega (arith, ap length (laws.prefixes.front bytes), length-append front (drop (length front) bytes))

  -- and of the prefix bytes of the first bytes
  pub prefix_in_front : (size : ℕ) (bytes : List ℕ) (j : ℕ) → size ≤ length bytes
      → j < length (prefix_bytes (take size bytes))
      → is_prefix (get_or bytes j 0) ≡ true
  prefix_in_front size bytes j within below =
      let inside : j < size =
      omega (arith, below, prefixes_within (take size bytes), length-take-le size bytes within) in
      ap is_prefix (sym (get_or-take size bytes j 0 inside)) ∙ prefix_there (take size bytes) j below
