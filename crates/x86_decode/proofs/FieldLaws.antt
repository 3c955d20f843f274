-- What decode_fields promises of any list of bytes, as a function above passes it on to lemmas, and what follows for parts of fields.
use Rattle.std.proofs.lemmas.List.{get_or-append-add, get_or_past}
use Rattle.std.proofs.Common.{◌≡◌, ℕ, zero, suc, ◌+◌, ◌-◌, ◌/◌, ◌≤◌, Bool, true, false, nat_lt, cond, Some, None, List, ◌∷◌, ◌++◌, length, drop, replicate, slice_index, get_or, refl, ap, sym, subst, ◌∙◌, arith, inl, inr}
use Rattle.std.specs.List.{list_all}
use Rattle.std.proofs.Math.ListN.{get_or-append}
use Rattle.std.proofs.lemmas.Bool.{cases_Bool, cases_lt, cond-true, cond-false, le-ltb}
use Rattle.decode_fields.specs.declared.parts.ModRm.{ModRm}
use Rattle.decode_fields.specs.Immediates.{signed_number}
use Rattle.decode_fields.specs.ModRm.{displacement_size, front_size, has_sib, modrm_byte, modrm_length, place_of, reg_of, sib_byte}
use Rattle.decode_fields.specs.Prefixes.{is_prefix, prefix_bytes}
use Rattle.decode_fields.specs.FieldLaws.{LongerLaws, PrefixesLaws}

pub record FieldLaws : Type 0 where
  pub prefixes : PrefixesLaws
  pub longer : LongerLaws

-- a list splits into prefix bytes and a rest that begins with none
pub record Splits (bytes front rest : List ℕ) : Type 0 where
  pub parts : bytes ≡ front ++ rest
  pub front_all : list_all is_prefix front ≡ true
  pub ends : (byte : ℕ) (more : List ℕ) → rest ≡ byte ∷ more → is_prefix byte ≡ false

pub splits-rest : (laws : FieldLaws) (bytes : List ℕ) → Splits bytes (prefix_bytes bytes) (drop (length (prefix_bytes bytes)) bytes)
splits-rest laws bytes = record { parts = sym (laws.prefixes.front bytes); front_all = laws.prefixes.all bytes; ends = laws.prefixes.ends bytes }

pub prefix_bytes-append : (laws : FieldLaws) (front : List ℕ) (byte : ℕ) (rest : List ℕ) → list_all is_prefix front ≡ true → is_prefix byte ≡ false → prefix_bytes (front ++ (byte ∷ rest)) ≡ front
prefix_bytes-append laws front byte rest all ends = laws.longer.prefixes front rest byte all ends

-- the fields of ModRM, whole or not
abbrev pub modrm_fields : List ℕ → ℕ → ModRm
modrm_fields bytes rex = record { reg = reg_of bytes rex; place = place_of bytes rex; length = modrm_length bytes }

some_same : {X : Type 0} (x y : X) → Some x ≡ Some y → x ≡ y
some_same x y e = cc

none_some : {X : Type 0} (x : X) → None ≡ Some x → ⊥
none_some x e = cc

-- where an option that is kept or not equals one that is kept, they hold the same
kept : {X : Type 0} (b : Bool) (x y : X) → cond b None (Some x) ≡ Some y → x ≡ y
kept true x y e = absurd (none_some y e)
kept false x y e = some_same x y e

pub modrm_fields-append : (laws : FieldLaws) (bytes more : List ℕ) (rex : ℕ) → modrm_length bytes ≤ length bytes → modrm_fields (bytes ++ more) rex ≡ modrm_fields bytes rex
modrm_fields-append laws bytes more rex there =
    kept (nat_lt (length (bytes ++ more)) (modrm_length (bytes ++ more))) (modrm_fields (bytes ++ more) rex) (modrm_fields bytes rex)
    (laws.longer.modrm bytes more rex there ∙ cond-false (nat_lt (length bytes) (modrm_length bytes)) None (Some (modrm_fields bytes rex)) (le-ltb (length bytes) (modrm_length bytes) there))

pub modrm_length-append : (laws : FieldLaws) (bytes more : List ℕ) → modrm_length bytes ≤ length bytes → modrm_length (bytes ++ more) ≡ modrm_length bytes
modrm_length-append laws bytes more there = ap (λ (m : ModRm). m.length) (modrm_fields-append laws bytes more 0 there)

pub signed_number-append : (laws : FieldLaws) (bytes more : List ℕ) (width : ℕ) → width / 8 ≤ length bytes → signed_number width (bytes ++ more) ≡ signed_number width bytes
signed_number-append laws bytes more width there =
    kept (nat_lt (length (bytes ++ more)) (width / 8)) (signed_number width (bytes ++ more)) (signed_number width bytes)
    (laws.longer.immediate bytes more width there ∙ cond-false (nat_lt (length bytes) (width / 8)) None (Some (signed_number width bytes)) (le-ltb (length bytes) (width / 8) there))

-- ModRM has a byte at least
pub modrm_length-above : (bytes : List ℕ) → 1 ≤ modrm_length bytes
unfolding modrm_length
modrm_length-above bytes = elim (cases_Bool (has_sib (modrm_byte bytes))) [
  | inl h ↦ omega (arith, cond-true {A = ℕ} (has_sib (modrm_byte bytes)) 2 1 h)
  | inr h ↦ omega (arith, cond-false {A = ℕ} (has_sib (modrm_byte bytes)) 2 1 h)
]

zero_read : (n i : ℕ) → slice_index (replicate n 0) i ≡ 0
zero_read zero i = refl
zero_read (suc n) zero = refl
zero_read (suc n) (suc i) = zero_read n i

-- zeros behind the end change no byte that is read
pub zeros_read : (bytes : List ℕ) (n i : ℕ) → slice_index (bytes ++ replicate n 0) i ≡ slice_index bytes i
zeros_read bytes n i = elim (cases_lt i (length bytes)) [
  | inl within ↦ get_or-append bytes (replicate n 0) 0 i within
  | inr past ↦
      let at : length bytes + (i - length bytes) ≡ i = omega arith in
      let P : ℕ → Type 0 = λ k. get_or (bytes ++ replicate n 0) k 0 ≡ get_or bytes i 0 in
      subst P at (get_or-append-add bytes (replicate n 0) (i - length bytes) 0 ∙ (zero_read n (i - length bytes) ∙ sym (get_or_past bytes i 0 past)))
]

pub modrm_length-zeros : (bytes : List ℕ) (n : ℕ) → modrm_length (bytes ++ replicate n 0) ≡ modrm_length bytes
unfolding modrm_length
modrm_length-zeros bytes n =
    ap (λ m. front_size m + displacement_size m (sib_byte (bytes ++ replicate n 0))) (zeros_read bytes n 0)
    ∙ ap (λ s. front_size (modrm_byte bytes) + displacement_size (modrm_byte bytes) s) (zeros_read bytes n 1)
