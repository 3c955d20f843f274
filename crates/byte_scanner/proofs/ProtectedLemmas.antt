-- What single bytes say of the encodings that begin with them.
use Rattle.std.proofs.Common.{◌≡◌, ◌≢◌, ℕ, ◌+◌, ◌<◌, ◌≤◌, List, [], ◌∷◌, length, get_or, Bool, true, false, ◌==◌, cond, Option, Some, None, slice_get, nat_lt, unwrap_or, refl, ap, sym, ◌∙◌, arith, inl, inr}
use Rattle.std.specs.Prelude.{MatchOption}
use Rattle.std.proofs.lemmas.Bool.{cases_lt, false≢true}
use Rattle.std.proofs.lemmas.Option.{slice_get-get_or, slice_get_past}
use Rattle.std.proofs.lemmas.Grind.{common_steps}
use Rattle.decode_fields.specs.Protected.{is_protected_at, is_refused_with, length_of_bytes, length_at}
use Rattle.byte_scanner.specs.declared.encoding.Found.{Found}
use Rattle.byte_scanner.specs.FirstFound.{found_with}
use Rattle.byte_scanner.specs.FoundBytes.{IsFoundOf, found_from}

-- no protected encoding begins with another byte than the escape
pub length_of_bytes-other : (first : ℕ) (second third : Option ℕ) → first ≢ 0x0f → length_of_bytes (Some first) second third ≡ 0
length_of_bytes-other first second third other = grind (arith, common_steps)

-- the same at a place of a list
pub length_at-other : (bytes : List ℕ) (place : ℕ) → place < length bytes → get_or bytes place 0 ≢ 0x0f → length_at (slice_get bytes) place ≡ 0
length_at-other bytes place inside other =
    rw (slice_get-get_or bytes place 0 inside) (length_of_bytes-other (get_or bytes place 0) (slice_get bytes (place + 1)) (slice_get bytes (place + 2)) other)

-- past the end of a list no encoding stands
pub length_at-past : (bytes : List ℕ) (place : ℕ) → length bytes ≤ place → length_at (slice_get bytes) place ≡ 0
length_at-past bytes place past = rw (slice_get_past bytes place past) refl

cond_same : (b : Bool) → ◌≡◌ {A = ℕ} (cond b 0 0) 0
cond_same true = refl
cond_same false = refl

-- a byte with none behind it begins no encoding
pub length_alone : (first third : Option ℕ) → length_of_bytes first None third ≡ 0
length_alone None third = refl
length_alone (Some first) third = cond_same (first == 0x0f)

cond_two : (b c d : Bool) → nat_lt 0 (cond b (cond c 2 0) 0) ≡ true → (◌≡◌ {A = ℕ} (cond b (cond c 2 0) 0) 2) × (◌≡◌ {A = ℕ} (cond b (cond c 2 (cond d 3 0)) 0) 2)
cond_two true true d h = (refl, refl)
cond_two true false d h = absurd (false≢true h)
cond_two false c d h = absurd (false≢true h)

-- an encoding that needs no third byte has two, whatever comes third
pub length_whole : (first second third : Option ℕ) → nat_lt 0 (length_of_bytes first second None) ≡ true → (length_of_bytes first second None ≡ 2) × (length_of_bytes first second third ≡ 2)
length_whole None second third h = absurd (false≢true h)
length_whole (Some first) None third h = absurd (false≢true (sym (ap (nat_lt 0) (length_alone (Some first) None)) ∙ h))
length_whole (Some first) (Some second) None h =
    let two = cond_two (first == 0x0f) (second == 0x30) false h in
    (two.0, two.0)
length_whole (Some first) (Some second) (Some third) h = cond_two (first == 0x0f) (second == 0x30) (is_refused_with second third) h

cond_range : (b c d : Bool) → nat_lt 0 (cond b (cond c 2 (cond d 3 0)) 0) ≡ true → (2 ≤ cond b (cond c 2 (cond d 3 0)) 0) × (cond b (cond c 2 (cond d 3 0)) 0 ≤ 3)
cond_range true true d h = (omega arith, omega arith)
cond_range true false true h = (omega arith, omega arith)
cond_range true false false h = absurd (false≢true h)
cond_range false c d h = absurd (false≢true h)

-- an encoding has two bytes or three
pub length_range : (first second third : Option ℕ) → nat_lt 0 (length_of_bytes first second third) ≡ true → (2 ≤ length_of_bytes first second third) × (length_of_bytes first second third ≤ 3)
length_range None second third h = absurd (false≢true h)
length_range (Some first) None third h = absurd (false≢true (sym (ap (nat_lt 0) (length_alone (Some first) third)) ∙ h))
length_range (Some first) (Some second) None h =
    let two = length_whole (Some first) (Some second) None h in
    (omega (arith, two.0), omega (arith, two.0))
length_range (Some first) (Some second) (Some third) h = cond_range (first == 0x0f) (second == 0x30) (is_refused_with second third) h

-- an encoding at a place of a list has its second byte there
pub second_inside : (bytes : List ℕ) (place : ℕ) → is_protected_at (slice_get bytes) place ≡ true → place + 1 < length bytes
second_inside bytes place stands =
    elim (cases_lt (place + 1) (length bytes)) [
      | inl inside ↦ inside
      | inr past ↦
          let none = slice_get_past bytes (place + 1) past in
          let zero : length_at (slice_get bytes) place ≡ 0 =
          ap (λ (second : Option ℕ). length_of_bytes (slice_get bytes place) second (slice_get bytes (place + 2))) none
          ∙ length_alone (slice_get bytes place) (slice_get bytes (place + 2)) in
          absurd (false≢true (sym (ap (nat_lt 0) zero) ∙ stands))
    ]

-- the encoding of so many bytes that these make
abbrev made : ℕ → Option ℕ → Option ℕ → Option ℕ → ℕ → Found
made at first second third count = record {
  at = at;
  bytes = unwrap_or first 0 ∷ unwrap_or second 0 ∷ cond (count == 3) (unwrap_or third 0) 0 ∷ [];
  count = count;
}

pub found_whole : (at : ℕ) (first second third : Option ℕ) → nat_lt 0 (length_of_bytes first second None) ≡ true → found_from at first second third ≡ found_from at first second None
found_whole at first second third h =
    let whole = length_whole first second third h in
    ap (made at first second third) whole.1 ∙ sym (ap (made at first second None) whole.0)

-- where nothing stands no encoding begins
pub none_here : (f : ℕ → Option ℕ) (p : ℕ) → f p ≡ None → is_protected_at f p ≡ false
none_here f p h = ap (λ (first : Option ℕ). nat_lt 0 (length_of_bytes first (f (p + 1)) (f (p + 2)))) h

-- nor where nothing follows
pub none_alone : (f : ℕ → Option ℕ) (p : ℕ) → f (p + 1) ≡ None → is_protected_at f p ≡ false
none_alone f p h =
    ap (λ (second : Option ℕ). nat_lt 0 (length_of_bytes (f p) second (f (p + 2)))) h ∙ ap (nat_lt 0) (length_alone (f p) (f (p + 2)))

-- the same three bytes at a place of each
module _ (f g : ℕ → Option ℕ) (p q : ℕ) (first : f p ≡ g q) (second : f (p + 1) ≡ g (q + 1)) where
  pub same_protected : f (p + 2) ≡ g (q + 2) → is_protected_at f p ≡ is_protected_at g q
  same_protected third =
      ap (λ (x : Option ℕ). nat_lt 0 (length_of_bytes x (f (p + 1)) (f (p + 2)))) first
      ∙ ap (λ (x : Option ℕ). nat_lt 0 (length_of_bytes (g q) x (f (p + 2)))) second
      ∙ ap (λ (x : Option ℕ). nat_lt 0 (length_of_bytes (g q) (g (q + 1)) x)) third

  pub same_found : f (p + 2) ≡ g (q + 2) → (at : ℕ) → found_with f p at ≡ found_with g q at
  same_found third at =
      ap (λ (x : Option ℕ). found_from at x (f (p + 1)) (f (p + 2))) first
      ∙ ap (λ (x : Option ℕ). found_from at (g q) x (f (p + 2))) second
      ∙ ap (λ (x : Option ℕ). found_from at (g q) (g (q + 1)) x) third

-- the bytes that stand at a place, looked at by themselves
module _ (f : ℕ → Option ℕ) (p : ℕ) (a b c : Option ℕ) (first : f p ≡ a) (second : f (p + 1) ≡ b) (third : f (p + 2) ≡ c) where
  pub length_from : length_at f p ≡ length_of_bytes a b c
  length_from =
      ap (λ (x : Option ℕ). length_of_bytes x (f (p + 1)) (f (p + 2))) first
      ∙ ap (λ (x : Option ℕ). length_of_bytes a x (f (p + 2))) second
      ∙ ap (λ (x : Option ℕ). length_of_bytes a b x) third

  protected_from : is_protected_at f p ≡ nat_lt 0 (length_of_bytes a b c)
  protected_from = ap (nat_lt 0) length_from

  with_from : (at : ℕ) → found_with f p at ≡ found_from at a b c
  with_from at =
      ap (λ (x : Option ℕ). found_from at x (f (p + 1)) (f (p + 2))) first
      ∙ ap (λ (x : Option ℕ). found_from at a x (f (p + 2))) second
      ∙ ap (λ (x : Option ℕ). found_from at a b x) third

  pub stands_here : (at : ℕ) (r : Option Found) → MatchOption r (length_of_bytes a b c ≡ 0) (IsFoundOf at a b c) → MatchOption r (is_protected_at f p ≡ false) (λ found. (is_protected_at f p ≡ true) × (found ≡ found_with f p at))
  stands_here at None zero = protected_from ∙ ap (nat_lt 0) zero
  stands_here at (Some found) is = (protected_from ∙ is.stands, is.is ∙ sym (with_from at))
