-- Worked codes of lines, by the SDM's opcode maps: which bytes spell a line, what is its code, and what isn't.
use Rattle.std.proofs.Common.{◌≡◌, ℕ, ◌<◌, ◌≤◌, Bool, true, false, None, Some, Ok, Err, List, [], ◌∷◌, codes, refl, ap, sym, subst, ◌∙◌, arith, inl, inr}
use Rattle.std.specs.Fmt.{digits}
use Rattle.std.proofs.lemmas.Bool.{agree_below, agree_below_at, cases_lt}
use Rattle.std.proofs.lemmas.List.Elements.{All-cons, All-nil}
use Rattle.decode_fields.specs.declared.parts.Rep.TheVariants.{No}
use Rattle.decode_fields.specs.declared.place.Place.TheVariants.{Reg}
use Rattle.decode_fields.specs.ModRm.{modrm_length, place_of}
use Rattle.decode_fields.specs.Widths.{IsWidth}
use Rattle.x86_decode.specs.declared.instruction.Instr.{Instr}
use Rattle.x86_decode.specs.declared.operation.Op.TheVariants.{Mov}
use Rattle.x86_decode.specs.Grid.{entry_at, slots_from}
use Rattle.x86_decode.specs.SpellingLaws.{DecodingLaws, SpellingLaws}
use Rattle.asm_text.specs.AssembledText.{assembled_of, code_from, code_then, is_spelled_line, line_code}
use Rattle.asm_text.specs.InstructionTexts.{IsRead, instr_text, place_text}
use Rattle.asm_text.specs.LeastSpelling.{is_not_behind}
use Rattle.asm_text.specs.Operations.{op_name}
use Rattle.asm_text.specs.TextLaws.{TextLaws}
use Rattle.asm_text.proofs.FirstStrings.{IsFirst, IsShort, first_is, first_says, none_says}
use Rattle.asm_text.proofs.LineCodes.{unspelled_none}
use Rattle.asm_text.proofs.Orders.{order_less, order_same, shorter}

false_true : false ≡ true → ⊥
false_true h = cc

order_heads : (x y : ℕ) → x ≤ y → is_not_behind (x ∷ []) (y ∷ []) ≡ true
order_heads x y at_most = elim (cases_lt x y) [
  | inl less ↦ order_less x y [] [] (omega arith) less
  | inr not_less ↦ subst (λ (n : ℕ). is_not_behind (x ∷ []) (n ∷ []) ≡ true) (omega (arith, at_most, not_less)) (order_same (x ∷ []))
]

-- NOP, MOV AL, 41h by either opcode, and ADD of a byte to a place in memory under LOCK
spelled :
    (is_spelled_line (codes "nop.64 - - 0") (0x90 ∷ []) ≡ true) ×
    (is_spelled_line (codes "mov.8 r0 value 41") (0xB0 ∷ (0x41 ∷ [])) ≡ true) ×
    (is_spelled_line (codes "mov.8 r0 value 41") (0xC6 ∷ (0xC0 ∷ (0x41 ∷ []))) ≡ true) ×
    (is_spelled_line (codes "lock add.8 [r0,-,1,0] r1 0") (0xF0 ∷ (0x00 ∷ (0x08 ∷ []))) ≡ true)
unfolding instr_text place_text op_name digits entry_at slots_from modrm_length place_of
spelled = (refl, refl, refl, refl)

-- another number or register, a byte too few, a byte behind, and zeros in front
unspelled :
    (is_spelled_line (codes "mov.8 r0 value 41") (0xB0 ∷ (0x42 ∷ [])) ≡ false) ×
    (is_spelled_line (codes "mov.8 r0 value 41") (0xB1 ∷ (0x41 ∷ [])) ≡ false) ×
    (is_spelled_line (codes "mov.8 r0 value 41") (0xB0 ∷ []) ≡ false) ×
    (is_spelled_line (codes "mov.8 r0 value 41") (0xB0 ∷ (0x41 ∷ (0x90 ∷ []))) ≡ false) ×
    (is_spelled_line (codes "mov.8 r0 value 041") (0xB0 ∷ (0x41 ∷ [])) ≡ false) ×
    (is_spelled_line (codes "") [] ≡ false)
unfolding instr_text place_text op_name digits entry_at slots_from modrm_length place_of
unspelled = (refl, refl, refl, refl, refl, refl)

one_is : (a : ℕ) → a < 256 → IsShort (a ∷ [])
one_is a byte = (All-cons (λ n. n < 256) a [] byte (All-nil (λ n. n < 256)), omega arith)

two_are : (a b : ℕ) → a < 256 → b < 256 → IsShort (a ∷ (b ∷ []))
two_are a b first second = (All-cons (λ n. n < 256) a (b ∷ []) first (one_is b second).0, omega arith)

-- the code of a line is no spelling that comes behind another
longer_refuted : line_code (codes "mov.8 r0 value 41") ≡ Some (0xC6 ∷ (0xC0 ∷ (0x41 ∷ []))) → ⊥
unfolding line_code
longer_refuted is =
    let test : List ℕ → Bool = is_spelled_line (codes "mov.8 r0 value 41") in
    let first : IsFirst IsShort test (0xC6 ∷ (0xC0 ∷ (0x41 ∷ []))) =
    first_says test (0xC6 ∷ (0xC0 ∷ (0x41 ∷ []))) is in
    false_true (first.first (0xB0 ∷ (0x41 ∷ [])) (two_are 0xB0 0x41 (omega arith) (omega arith)) spelled.1)

-- nor is there none where bytes spell it
none_refuted : line_code (codes "mov.8 r0 value 41") ≡ None → ⊥
unfolding line_code
none_refuted is =
    none_says (is_spelled_line (codes "mov.8 r0 value 41")) is (0xB0 ∷ (0x41 ∷ []))
    (two_are 0xB0 0x41 (omega arith) (omega arith)) spelled.1

-- NOP is 90: no bytes before it spell that
abbrev nop : List ℕ
nop = codes "nop.64 - - 0"

less_bytes : agree_below (λ byte. is_spelled_line nop (byte ∷ [])) (λ byte. false) 0x90 ≡ true
unfolding instr_text place_text op_name digits entry_at slots_from modrm_length place_of
less_bytes = refl

no_bytes : is_spelled_line nop [] ≡ false
no_bytes = refl

nop_first : (other : List ℕ) → is_spelled_line nop other ≡ true → is_not_behind (0x90 ∷ []) other ≡ true
nop_first [] passes = absurd (false_true (sym no_bytes ∙ passes))
nop_first (byte ∷ []) passes = elim (cases_lt byte 0x90) [
  | inl less ↦ absurd (false_true (sym (agree_below_at (λ b. is_spelled_line nop (b ∷ [])) (λ b. false) 0x90 byte less_bytes less) ∙ passes))
  | inr least ↦ order_heads 0x90 byte least
]
nop_first (byte ∷ (next ∷ rest)) passes = shorter (0x90 ∷ []) (byte ∷ (next ∷ rest)) (omega arith)

nop_code : line_code nop ≡ Some (0x90 ∷ [])
unfolding line_code
nop_code =
    first_is (is_spelled_line nop) (0x90 ∷ []) (record {
      member = one_is 0x90 (omega arith);
      passes = spelled.0;
      first = λ other short passes. nop_first other passes;
    })

-- there is no operand of nine bits
nine_bits : Instr
nine_bits = record { op = Mov; width = 9; to = Reg 0; from = Reg 1; value = 0; rep = No; lock = false }

no_width : IsWidth 9 → ⊥
no_width (inl is) = omega (arith, is)
no_width (inr (inl is)) = omega (arith, is)
no_width (inr (inr (inl is))) = omega (arith, is)
no_width (inr (inr (inr is))) = omega (arith, is)

nine_is_read : IsRead (codes "mov.9 r0 r1 0") nine_bits
unfolding nine_bits instr_text place_text op_name digits
nine_is_read = record {
  writable = record { condition = tt; width = omega arith; to = omega arith; from = omega arith; value = omega arith };
  is_text = refl;
}

nine_has_none : DecodingLaws → TextLaws → SpellingLaws → line_code (codes "mov.9 r0 r1 0") ≡ None
unfolding nine_bits
nine_has_none laws texts spellings =
    unspelled_none laws texts (codes "mov.9 r0 r1 0") nine_bits nine_is_read
    (λ bytes lawful. no_width (spellings.formed nine_bits bytes lawful.spells).width)

-- texts of lines: none, two, and one whose second line has no code
no_lines : assembled_of [] ≡ Ok []
unfolding code_from
no_lines = refl

two_lines : assembled_of (codes "nop.64 - - 0\nnop.64 - - 0\n") ≡ Ok (0x90 ∷ (0x90 ∷ []))
unfolding code_from
two_lines = ap (λ code. code_then 1 code (code_then 2 code (Ok []))) nop_code

second_fails : DecodingLaws → TextLaws → SpellingLaws
    → assembled_of (codes "nop.64 - - 0\nmov.9 r0 r1 0\nnop.64 - - 0") ≡ Err 2
unfolding code_from
second_fails laws texts spellings =
    ap (λ code. code_then 1 code (code_then 2 (line_code (codes "mov.9 r0 r1 0")) (code_then 3 code (Ok [])))) nop_code
    ∙ ap (λ code. code_then 1 (Some (0x90 ∷ [])) (code_then 2 code (code_then 3 (Some (0x90 ∷ [])) (Ok []))))
    (nine_has_none laws texts spellings)
