-- A list that holds all bytes of a field gives the same field where more bytes follow.
use Rattle.std.proofs.Common.{◌≡◌, ℕ, zero, suc, ◌+◌, ◌*◌, ◌/◌, ◌%◌, ◌≤◌, Bool, true, false, nat_lt, Option, Some, None, ◌&&◌, cond, List, [], ◌∷◌, ◌++◌, length, drop, refl, ap, sym, ◌∙◌, subst, arith, inl, inr, nat_eq}
use Rattle.std.proofs.Math.ListN.{get_or-append}
use Rattle.std.proofs.lemmas.Bool.{cases_Bool, cond-true, cond-false, le-ltb}
use Rattle.std.proofs.lemmas.List.{drop-append-le, length-append, length-drop}
use Rattle.decode_fields.specs.declared.parts.ModRm.{ModRm}
use Rattle.decode_fields.specs.declared.place.Place.{Place}
use Rattle.decode_fields.specs.Immediates.{immediate_of, number_of, sign_extended, signed_number}
use Rattle.decode_fields.specs.ModRm.{displacement_from, displacement_size, front_size, has_sib, mod_field, is_register, lacks_base, rm_field, modrm_byte, modrm_length, modrm_of, place_by, place_of, plain_address, reg_by, reg_of, sib_address, sib_byte}
use Rattle.decode_fields.specs.declared.place.Place.TheVariants.{Reg, Mem}

pub number_of-append : (n : ℕ) (bytes more : List ℕ) → n ≤ length bytes → number_of n (bytes ++ more) ≡ number_of n bytes
number_of-append zero bytes more there = refl
number_of-append (suc n) [] more there = absurd (omega arith)
number_of-append (suc n) (byte ∷ bytes) more there = ap (λ m. byte + 256 * m) (number_of-append n bytes more (omega arith))

-- the same behind other bytes
pub number_of-drop : (at n : ℕ) (bytes more : List ℕ) → at + n ≤ length bytes → number_of n (drop at (bytes ++ more)) ≡ number_of n (drop at bytes)
number_of-drop at n bytes more there =
    let within : at ≤ length bytes = omega arith in
    ap (number_of n) (drop-append-le at bytes more within)
    ∙ number_of-append n (drop at bytes) more (simp length-drop (omega arith))

and_same : (h a x y : Bool) → (h ≡ true → x ≡ y) → ((h && a) && x) ≡ ((h && a) && y)
and_same true a x y same = ap (λ z. a && z) (same refl)
and_same false a x y same = refl

cond_same : {X : Type 0} (h : Bool) (x y z : X) → (h ≡ true → x ≡ y) → cond h x z ≡ cond h y z
cond_same true x y z same = same refl
cond_same false x y z same = refl

-- an SIB byte counts where ModRM asks for one
lacks_base_same : (modrm sib sib' : ℕ) → (has_sib modrm ≡ true → sib ≡ sib') → lacks_base modrm sib ≡ lacks_base modrm sib'
lacks_base_same modrm sib sib' same =
    and_same (has_sib modrm) (nat_eq (mod_field modrm) 0) (nat_eq (rm_field sib) 5) (nat_eq (rm_field sib') 5) (λ h. ap (λ s. nat_eq (rm_field s) 5) (same h))

size_same : (modrm sib sib' : ℕ) → (has_sib modrm ≡ true → sib ≡ sib') → displacement_size modrm sib ≡ displacement_size modrm sib'
size_same modrm sib sib' same = rw (lacks_base_same modrm sib sib' same) refl

-- the place differs by the SIB byte where ModRM asks for one
place_same : (modrm sib sib' rex disp : ℕ) → (has_sib modrm ≡ true → sib ≡ sib') → place_by modrm sib rex disp ≡ place_by modrm sib' rex disp
place_same modrm sib sib' rex disp same =
    ap (λ address. cond (is_register modrm) (Reg (rm_field modrm + 8 * (rex % 2))) (Mem address))
    (cond_same (has_sib modrm) (sib_address modrm sib rex disp) (sib_address modrm sib' rex disp) (plain_address modrm rex disp)
    (λ h. ap (λ s. sib_address modrm s rex disp) (same h)))

pub modrm_length-above : (bytes : List ℕ) → 1 ≤ modrm_length bytes
unfolding modrm_length
modrm_length-above bytes = elim (cases_Bool (has_sib (modrm_byte bytes))) [
  | inl h ↦ omega (arith, cond-true {A = ℕ} (has_sib (modrm_byte bytes)) 2 1 h)
  | inr h ↦ omega (arith, cond-false {A = ℕ} (has_sib (modrm_byte bytes)) 2 1 h)
]

sib_above : (bytes : List ℕ) → has_sib (modrm_byte bytes) ≡ true → 2 ≤ modrm_length bytes
unfolding modrm_length
sib_above bytes h = omega (arith, cond-true {A = ℕ} (has_sib (modrm_byte bytes)) 2 1 h)

-- the ModRM byte of a list that has one
pub modrm_byte-append : (bytes more : List ℕ) → 1 ≤ length bytes → modrm_byte (bytes ++ more) ≡ modrm_byte bytes
modrm_byte-append bytes more there = get_or-append bytes more 0 0 (omega arith)

sib_byte-append : (bytes more : List ℕ) → modrm_length bytes ≤ length bytes → has_sib (modrm_byte bytes) ≡ true → sib_byte (bytes ++ more) ≡ sib_byte bytes
sib_byte-append bytes more there h = get_or-append bytes more 0 1 (omega (arith, sib_above bytes h))

size-append : (bytes more : List ℕ) → modrm_length bytes ≤ length bytes → displacement_size (modrm_byte bytes) (sib_byte (bytes ++ more)) ≡ displacement_size (modrm_byte bytes) (sib_byte bytes)
size-append bytes more there = size_same (modrm_byte bytes) (sib_byte (bytes ++ more)) (sib_byte bytes) (sib_byte-append bytes more there)

pub modrm_length-append : (bytes more : List ℕ) → modrm_length bytes ≤ length bytes → modrm_length (bytes ++ more) ≡ modrm_length bytes
unfolding modrm_length
modrm_length-append bytes more there =
    let one : modrm_byte (bytes ++ more) ≡ modrm_byte bytes = modrm_byte-append bytes more (omega (arith, modrm_length-above bytes)) in
    let P : ℕ → Type 0 = λ m. front_size m + displacement_size m (sib_byte (bytes ++ more)) ≡ modrm_length bytes in
    subst P (sym one) (ap (λ n. front_size (modrm_byte bytes) + n) (size-append bytes more there))

displacement_from-append : (front size : ℕ) (bytes more : List ℕ) → front + size ≤ length bytes → displacement_from front size (bytes ++ more) ≡ displacement_from front size bytes
displacement_from-append front size bytes more there =
    ap (λ n. cond (nat_eq size 0) 0 (sign_extended (8 * size) n)) (number_of-drop front (8 * size / 8) bytes more (omega arith))

pub place_of-append : (bytes more : List ℕ) (rex : ℕ) → modrm_length bytes ≤ length bytes → place_of (bytes ++ more) rex ≡ place_of bytes rex
unfolding place_of modrm_length
place_of-append bytes more rex there =
    let one : modrm_byte (bytes ++ more) ≡ modrm_byte bytes = modrm_byte-append bytes more (omega (arith, modrm_length-above bytes)) in
    let m : ℕ = modrm_byte bytes in
    let P : ℕ → Type 0 = λ n. place_by n (sib_byte (bytes ++ more)) rex (displacement_from (front_size n) (displacement_size n (sib_byte (bytes ++ more))) (bytes ++ more)) ≡ place_of bytes rex in
    subst P (sym one)
    (place_same m (sib_byte (bytes ++ more)) (sib_byte bytes) rex _ (sib_byte-append bytes more there)
    ∙ ap (place_by m (sib_byte bytes) rex)
    (ap (λ n. displacement_from (front_size m) n (bytes ++ more)) (size-append bytes more there)
    ∙ displacement_from-append (front_size m) (displacement_size m (sib_byte bytes)) bytes more there))

pub reg_of-append : (bytes more : List ℕ) (rex : ℕ) → 1 ≤ length bytes → reg_of (bytes ++ more) rex ≡ reg_of bytes rex
reg_of-append bytes more rex there = ap (λ m. reg_by m rex) (modrm_byte-append bytes more there)

-- bytes that hold what the longer list needs hold what they need themselves
pub modrm_length-within : (bytes more : List ℕ) → modrm_length (bytes ++ more) ≤ length bytes → modrm_length bytes ≡ modrm_length (bytes ++ more)
unfolding modrm_length
modrm_length-within bytes more there =
    let whole : List ℕ = bytes ++ more in
    let one : modrm_byte whole ≡ modrm_byte bytes = modrm_byte-append bytes more (omega (arith, modrm_length-above whole)) in
    let sib : has_sib (modrm_byte whole) ≡ true → sib_byte bytes ≡ sib_byte whole =
    λ h. sym (get_or-append bytes more 0 1 (omega (arith, sib_above whole h))) in
    let P : ℕ → Type 0 = λ m. front_size m + displacement_size m (sib_byte bytes) ≡ modrm_length whole in
    subst P one (ap (λ n. front_size (modrm_byte whole) + n) (size_same (modrm_byte whole) (sib_byte bytes) (sib_byte whole) sib))

abbrev modrm_by : ℕ → Place → ℕ → ModRm
modrm_by reg place length = record { reg = reg; place = place; length = length }

-- more bytes behind the fields of ModRM change none of them
pub modrm_of-append : (bytes more : List ℕ) (rex : ℕ) → modrm_length bytes ≤ length bytes → modrm_of (bytes ++ more) rex ≡ modrm_of bytes rex
modrm_of-append bytes more rex there =
    let whole : List ℕ = bytes ++ more in
    let enough : modrm_length whole ≤ length whole = omega (arith, modrm_length-append bytes more there, length-append bytes more) in
    cond-false {A = Option ModRm} (nat_lt (length whole) (modrm_length whole)) None (Some (modrm_by (reg_of whole rex) (place_of whole rex) (modrm_length whole))) (le-ltb (length whole) (modrm_length whole) enough)
    ∙ (ap (λ n. Some (modrm_by n (place_of whole rex) (modrm_length whole))) (reg_of-append bytes more rex (omega (arith, modrm_length-above bytes)))
    ∙ (ap (λ p. Some (modrm_by (reg_of bytes rex) p (modrm_length whole))) (place_of-append bytes more rex there)
    ∙ (ap (λ n. Some (modrm_by (reg_of bytes rex) (place_of bytes rex) n)) (modrm_length-append bytes more there)
    ∙ sym (cond-false {A = Option ModRm} (nat_lt (length bytes) (modrm_length bytes)) None (Some (modrm_by (reg_of bytes rex) (place_of bytes rex) (modrm_length bytes))) (le-ltb (length bytes) (modrm_length bytes) there)))))

pub immediate_of-append : (bytes more : List ℕ) (width : ℕ) → width / 8 ≤ length bytes → immediate_of (bytes ++ more) width ≡ immediate_of bytes width
immediate_of-append bytes more width there =
    let whole : List ℕ = bytes ++ more in
    let enough : width / 8 ≤ length whole = omega (arith, length-append bytes more) in
    cond-false {A = Option ℕ} (nat_lt (length whole) (width / 8)) None (Some (signed_number width whole)) (le-ltb (length whole) (width / 8) enough)
    ∙ (ap (λ n. Some (sign_extended width n)) (number_of-append (width / 8) bytes more there)
    ∙ sym (cond-false {A = Option ℕ} (nat_lt (length bytes) (width / 8)) None (Some (signed_number width bytes)) (le-ltb (length bytes) (width / 8) there)))
