-- The bytes of a row's number are those that the spelling has, where the number fits the width.
use Rattle.std.proofs.Common.{◌≡◌, ℕ, ◌+◌, ◌*◌, ◌/◌, ◌%◌, ◌<◌, Bool, true, ◌&&◌, cond, nat_eq, nat_le, List, [], ◌∷◌, length, refl, ap, sym, subst, ◌∙◌, arith, inl, inr}
use Rattle.std.proofs.lemmas.Bool.{and_parts, cond_both}
use Rattle.std.proofs.lemmas.List.{nil_from_length, take_all}
use Rattle.std.proofs.lemmas.List.Elements.{All-head, All-tail}
use Rattle.decode_fields.specs.declared.parts.Prefixes.{Prefixes}
use Rattle.decode_fields.specs.ModRm.{rex_w}
use Rattle.decode_fields.specs.Widths.{IsWidth}
use Rattle.x86_decode.specs.declared.shape.Number.{Number}
use Rattle.x86_decode.specs.declared.shape.Number.TheVariants.{Zero, One, Ib, Iz, Iv, Jz, Ub, Uw, Cn}
use Rattle.x86_decode.specs.declared.shape.Width.{Width}
use Rattle.x86_decode.specs.declared.shape.Width.TheVariants as width
use Rattle.x86_decode.specs.Meaning.{number_size, number_value, operand_size, rex_number, width_of}
use Rattle.x86_decode.specs.Spelling.{AreBytes}
use Rattle.asm_text.specs.Assembly.{number_bytes_of}
use Rattle.asm_text.proofs.Numbers.{cut_back_1, cut_back_2, cut_back_4, cut_back_8}

-- the number isn't wider than the row
abbrev pub number_fits : Number → ℕ → Bool
number_fits number width = nat_le (8 * number_size number width) width

-- at each width that the row may have
abbrev pub width_fits : Number → Width → Bool
width_fits number width.Byte = number_fits number 8
width_fits number width.Word = number_fits number 16
width_fits number width.Quad = number_fits number 64
width_fits number width.Variable = number_fits number 16 && (number_fits number 32 && number_fits number 64)
width_fits number width.Stack = number_fits number 16 && number_fits number 64

size_fits : (number : Number) (prefixes : Prefixes) → number_fits number 16 ≡ true → number_fits number 32 ≡ true → number_fits number 64 ≡ true → number_fits number (operand_size prefixes) ≡ true
size_fits number prefixes at_16 at_32 at_64 =
    let P : ℕ → Type 0 = λ w. number_fits number w ≡ true in
    cond_both (nat_eq (rex_w (rex_number prefixes)) 1) 64 (cond prefixes.narrow 16 32) P (λ h. at_64)
    (λ h. cond_both prefixes.narrow 16 32 P (λ g. at_16) (λ g. at_32))

pub fits_at : (number : Number) (w : Width) (prefixes : Prefixes) → width_fits number w ≡ true → number_fits number (width_of w prefixes) ≡ true
fits_at number width.Byte prefixes h = h
fits_at number width.Word prefixes h = h
fits_at number width.Quad prefixes h = h
fits_at number width.Variable prefixes h =
    let one : (number_fits number 16 ≡ true) × ((number_fits number 32 && number_fits number 64) ≡ true) = and_parts (number_fits number 16) (number_fits number 32 && number_fits number 64) h in
    let two : (number_fits number 32 ≡ true) × (number_fits number 64 ≡ true) = and_parts (number_fits number 32) (number_fits number 64) one.1 in
    size_fits number prefixes one.0 two.0 two.1
fits_at number width.Stack prefixes h =
    let one : (number_fits number 16 ≡ true) × (number_fits number 64 ≡ true) = and_parts (number_fits number 16) (number_fits number 64) h in
    cond_both (nat_eq (operand_size prefixes) 16) 16 64 (λ w. number_fits number w ≡ true) (λ g. one.0) (λ g. one.1)

stack_known : (size : ℕ) → IsWidth (cond (nat_eq size 16) 16 64)
stack_known size = cond_both (nat_eq size 16) 16 64 IsWidth (λ h. inr (inl refl)) (λ h. inr (inr (inr refl)))

pub width_known : (w : Width) (prefixes : Prefixes) → IsWidth (width_of w prefixes)
width_known width.Byte prefixes = inl refl
width_known width.Word prefixes = inr (inl refl)
width_known width.Quad prefixes = inr (inr (inr refl))
width_known width.Variable prefixes =
    cond_both (nat_eq (rex_w (rex_number prefixes)) 1) 64 (cond prefixes.narrow 16 32) IsWidth (λ h. inr (inr (inr refl)))
    (λ h. cond_both prefixes.narrow 16 32 IsWidth (λ g. inr (inl refl)) (λ g. inr (inr (inl refl))))
width_known width.Stack prefixes = stack_known (operand_size prefixes)

-- the bytes of a number of this row, with this width, are these
abbrev IsBack : Number → ℕ → List ℕ → ℕ → Type 0
IsBack number reg bytes w =
    number_fits number w ≡ true → length bytes ≡ number_size number w
    → number_bytes_of (number_size number w) (number_value number w reg bytes) ≡ bytes

none_back : (value : ℕ) (bytes : List ℕ) → length bytes ≡ 0 → number_bytes_of 0 value ≡ bytes
none_back value bytes h = sym (nil_from_length bytes h)

wide_back : (reg : ℕ) (bytes : List ℕ) → AreBytes bytes → (w : ℕ) → IsWidth w → IsBack Iz reg bytes w
wide_back reg bytes are w (inl is) = subst (IsBack Iz reg bytes) (sym is) (λ fits h. absurd (cc))
wide_back reg bytes are w (inr (inl is)) =
    subst (IsBack Iz reg bytes) (sym is) (λ fits h. cut_back_2 bytes are (omega arith) ∙ take_all 2 bytes (omega arith))
wide_back reg bytes are w (inr (inr (inl is))) =
    subst (IsBack Iz reg bytes) (sym is) (λ fits h. cut_back_4 32 bytes (inl refl) are (omega arith) ∙ take_all 4 bytes (omega arith))
wide_back reg bytes are w (inr (inr (inr is))) =
    subst (IsBack Iz reg bytes) (sym is) (λ fits h. cut_back_4 64 bytes (inr refl) are (omega arith) ∙ take_all 4 bytes (omega arith))

full_back : (reg : ℕ) (bytes : List ℕ) → AreBytes bytes → (w : ℕ) → IsWidth w → IsBack Iv reg bytes w
full_back reg bytes are w (inl is) =
    subst (IsBack Iv reg bytes) (sym is) (λ fits h. cut_back_1 8 bytes (inl refl) are (omega arith) ∙ take_all 1 bytes (omega arith))
full_back reg bytes are w (inr (inl is)) =
    subst (IsBack Iv reg bytes) (sym is) (λ fits h. cut_back_2 bytes are (omega arith) ∙ take_all 2 bytes (omega arith))
full_back reg bytes are w (inr (inr (inl is))) =
    subst (IsBack Iv reg bytes) (sym is) (λ fits h. cut_back_4 32 bytes (inl refl) are (omega arith) ∙ take_all 4 bytes (omega arith))
full_back reg bytes are w (inr (inr (inr is))) =
    subst (IsBack Iv reg bytes) (sym is) (λ fits h. cut_back_8 bytes are (omega arith) ∙ take_all 8 bytes (omega arith))

near_back : (reg : ℕ) (bytes : List ℕ) → AreBytes bytes → (w : ℕ) → IsWidth w → IsBack Jz reg bytes w
near_back reg bytes are w (inl is) = subst (IsBack Jz reg bytes) (sym is) (λ fits h. absurd (cc))
near_back reg bytes are w (inr (inl is)) = subst (IsBack Jz reg bytes) (sym is) (λ fits h. absurd (cc))
near_back reg bytes are w (inr (inr (inl is))) =
    subst (IsBack Jz reg bytes) (sym is) (λ fits h. cut_back_4 32 bytes (inl refl) are (omega arith) ∙ take_all 4 bytes (omega arith))
near_back reg bytes are w (inr (inr (inr is))) =
    subst (IsBack Jz reg bytes) (sym is) (λ fits h. cut_back_4 64 bytes (inr refl) are (omega arith) ∙ take_all 4 bytes (omega arith))

byte_back : (bytes : List ℕ) → AreBytes bytes → (reg w : ℕ) → length bytes ≡ 1 → number_bytes_of 1 (number_value Ub w reg bytes) ≡ bytes
byte_back [] are reg w h = absurd (omega arith)
byte_back (byte ∷ []) are reg w h =
    let small : byte < 256 = All-head (λ b. b < 256) byte [] are in
    let low : byte % 256 ≡ byte = omega arith in
    ap (λ b. b ∷ []) low
byte_back (byte ∷ (next ∷ bytes)) are reg w h = absurd (omega arith)

word_back : (bytes : List ℕ) → AreBytes bytes → (reg w : ℕ) → length bytes ≡ 2 → number_bytes_of 2 (number_value Uw w reg bytes) ≡ bytes
word_back [] are reg w h = absurd (omega arith)
word_back (byte ∷ []) are reg w h = absurd (omega arith)
word_back (byte ∷ (next ∷ [])) are reg w h =
    let small : byte < 256 = All-head (λ b. b < 256) byte (next ∷ []) are in
    let small_next : next < 256 = All-head (λ b. b < 256) next [] (All-tail (λ b. b < 256) byte (next ∷ []) are) in
    let low : (byte + 256 * next) % 256 ≡ byte = omega arith in
    let high : (byte + 256 * next) / 256 % 256 ≡ next = omega arith in
    ap (λ b. b ∷ ((byte + 256 * next) / 256 % 256) ∷ []) low ∙ ap (λ b. byte ∷ (b ∷ [])) high
word_back (byte ∷ (next ∷ (more ∷ bytes))) are reg w h = absurd (omega arith)

pub tail_back : (number : Number) (w reg : ℕ) (bytes : List ℕ) → IsWidth w → AreBytes bytes → IsBack number reg bytes w
tail_back Zero w reg bytes known are fits h = none_back 0 bytes h
tail_back One w reg bytes known are fits h = none_back 1 bytes h
tail_back Ib w reg bytes known are fits h = cut_back_1 w bytes known are (omega arith) ∙ take_all 1 bytes (omega arith)
tail_back Iz w reg bytes known are fits h = wide_back reg bytes are w known fits h
tail_back Iv w reg bytes known are fits h = full_back reg bytes are w known fits h
tail_back Jz w reg bytes known are fits h = near_back reg bytes are w known fits h
tail_back Ub w reg bytes known are fits h = byte_back bytes are reg w h
tail_back Uw w reg bytes known are fits h = word_back bytes are reg w h
tail_back Cn w reg bytes known are fits h = none_back reg bytes h
