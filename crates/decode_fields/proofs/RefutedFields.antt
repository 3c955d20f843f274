-- What is no width, no REX byte, no place, and not what ModRM says. Each lemma is named by what it refuses.
use Rattle.std.proofs.Common.{◌≡◌, ◌≢◌, ◌≤◌, ◌<◌, ℕ, Bool, List, [], ◌∷◌, Option, Some, arith, inl, inr}
use Rattle.decode_fields.specs.declared.parts.ModRm.{ModRm}
use Rattle.decode_fields.specs.declared.place.Place.{Place}
use Rattle.decode_fields.specs.declared.place.Place.TheVariants.{Nothing, Reg, High, Mem, Value}
use Rattle.decode_fields.specs.Bounds.{IsAddress, IsHigh, IsLow, IsPlace}
use Rattle.decode_fields.specs.ModRm.{IsModRm, IsRex, modrm_length, place_of}
use Rattle.decode_fields.specs.Widths.{IsWidth}

-- SDM volume 1, 4.1 and 4.2: no operand has half a byte, and a pointer with its selector and an XMM register have
-- other widths than these
other_widths : (n : ℕ) → n ≢ 8 → n ≢ 16 → n ≢ 32 → n ≢ 64 → IsWidth n → ⊥
other_widths n byte word double quad is = elim is [
  | inl e ↦ byte e
  | inr more ↦ elim more [ inl e ↦ word e | inr last ↦ elim last [ inl e ↦ double e | inr e ↦ quad e ] ]
]

four_bits_are_no_width : IsWidth 4 → ⊥
four_bits_are_no_width = other_widths 4 (λ e. omega (arith, e)) (λ e. omega (arith, e)) (λ e. omega (arith, e)) (λ e. omega (arith, e))

eighty_bits_are_no_width : IsWidth 80 → ⊥
eighty_bits_are_no_width = other_widths 80 (λ e. omega (arith, e)) (λ e. omega (arith, e)) (λ e. omega (arith, e)) (λ e. omega (arith, e))

an_xmm_register_has_no_width : IsWidth 128 → ⊥
an_xmm_register_has_no_width = other_widths 128 (λ e. omega (arith, e)) (λ e. omega (arith, e)) (λ e. omega (arith, e)) (λ e. omega (arith, e))

-- SDM volume 2, 2.2.1: the bytes before and behind REX, and the prefix of the operand size
the_byte_before_rex_is_none : IsRex 0x3F → ⊥
the_byte_before_rex_is_none is = elim is [ inl none ↦ omega (arith, none) | inr some ↦ omega (arith, some.0) ]

the_byte_behind_rex_is_none : IsRex 0x50 → ⊥
the_byte_behind_rex_is_none is = elim is [ inl none ↦ omega (arith, none) | inr some ↦ omega (arith, some.1) ]

operand_size_is_no_rex : IsRex 0x66 → ⊥
operand_size_is_no_rex is = elim is [ inl none ↦ omega (arith, none) | inr some ↦ omega (arith, some.1) ]

-- SDM volume 2, table 3-1: there are sixteen registers, and four of them have a high byte
no_register_is_the_seventeenth : IsPlace (Reg 16) → ⊥
no_register_is_the_seventeenth is = omega (arith, is)

no_high_byte_is_the_fifth : IsPlace (High 4) → ⊥
no_high_byte_is_the_fifth is = omega (arith, is)

module _ (other : Option ℕ) (scale disp : ℕ) (rip : Bool) where
  no_base_is_the_seventeenth : IsPlace (Mem (record { base = Some 16; index = other; scale = scale; disp = disp; rip = rip })) → ⊥
  no_base_is_the_seventeenth is = let base : 16 < 16 = is.base in omega (arith, base)

  no_index_is_the_seventeenth : IsAddress (record { base = other; index = Some 16; scale = scale; disp = disp; rip = rip }) → ⊥
  no_index_is_the_seventeenth is = let index : 16 < 16 = is.index in omega (arith, index)

-- SDM volume 2, 2.2.1.2: R8 needs REX, and a high byte is AH, CH, DH or BH alone
r8_is_not_low : IsLow (Reg 8) → ⊥
r8_is_not_low is = omega (arith, is)

al_is_no_high_byte : IsHigh (Reg 0) → ⊥
al_is_no_high_byte is = is

what_is_no_register_is_no_high_byte : (address : _) → (IsHigh Nothing → ⊥) × (IsHigh Value → ⊥) × (IsHigh (Mem address) → ⊥)
what_is_no_register_is_no_high_byte address = (λ is. is, λ is. is, λ is. is)

-- SDM volume 2, 2.2.1.2: D8 has reg 3, which is RBX, and R11 with REX.R
module _ (place : Place) (length : ℕ) (rest : List ℕ) where
  rex_r_is_not_passed_over : IsModRm (record { reg = 3; place = place; length = length }) (0xD8 ∷ rest) 0x44 → ⊥
  rex_r_is_not_passed_over is = let reg : 3 ≡ 11 = is.reg in omega (arith, reg)

  rex_b_is_none_of_reg's : IsModRm (record { reg = 11; place = place; length = length }) (0xD8 ∷ rest) 0x41 → ⊥
  rex_b_is_none_of_reg's is = let reg : 11 ≡ 3 = is.reg in omega (arith, reg)

-- tables 2-2 and 2-3: 00 is a place in memory, and 05 one beside RIP, which has no base; 04 has an SIB byte
module _ (reg length : ℕ) (rest : List ℕ) where
  a_place_in_memory_is_no_register : IsModRm (record { reg = reg; place = Reg 0; length = length }) (0 ∷ rest) 0 → ⊥
  unfolding place_of
  a_place_in_memory_is_no_register is = let place = is.place in cc

module _ (reg : ℕ) (place : Place) (rest : List ℕ) where
  an_sib_byte_counts : IsModRm (record { reg = reg; place = place; length = 1 }) (0x04 ∷ 0x24 ∷ rest) 0 → ⊥
  unfolding modrm_length
  an_sib_byte_counts is = let length : 1 ≡ 2 = is.length in omega (arith, length)

  a_displacement_counts : IsModRm (record { reg = reg; place = place; length = 1 }) (0x05 ∷ rest) 0 → ⊥
  unfolding modrm_length
  a_displacement_counts is = let length : 1 ≡ 5 = is.length in omega (arith, length)

-- bytes that end before the last that is needed have no fields
module _ (modrm : ModRm) (rex : ℕ) where
  no_bytes_have_no_fields : IsModRm modrm [] rex → ⊥
  unfolding modrm_length
  no_bytes_have_no_fields is = let there : 1 ≤ 0 = is.there in omega (arith, there)

  a_lost_displacement_has_no_fields : IsModRm modrm (0x44 ∷ 0x24 ∷ []) rex → ⊥
  unfolding modrm_length
  a_lost_displacement_has_no_fields is = let there : 3 ≤ 2 = is.there in omega (arith, there)
