-- ModRM, SIB and displacement at worked values: SDM volume 2, 2.1.5, tables 2-2 and 2-3; with REX 2.2.1.2.
use Rattle.std.proofs.Common.{◌≡◌, ℕ, true, false, [], ◌∷◌, Option, None, Some, refl, arith, inl, inr}
use Rattle.decode_fields.specs.declared.place.Place.{Place}
use Rattle.decode_fields.specs.declared.place.Place.TheVariants.{Reg, Mem}
use Rattle.decode_fields.specs.ModRm.{IsModRm, IsRex, displacement, displacement_from, displacement_size, front_size, has_sib, index_of, is_register, is_rip_relative, lacks_base, mod_field, modrm_byte, modrm_length, modrm_of, place_by, place_of, plain_address, reg_by, reg_field, reg_of, rex_b, rex_r, rex_w, rex_x, rm_field, scale_of, sib_address, sib_byte}

-- bits 7 and 6, bits 5 to 3, bits 2 to 0
fields :
    (mod_field 0x3F ≡ 0) × (mod_field 0x40 ≡ 1) × (mod_field 0xBF ≡ 2) × (mod_field 0xC0 ≡ 3) × (mod_field 0xFF ≡ 3) ×
    (reg_field 0xC7 ≡ 0) × (reg_field 0x08 ≡ 1) × (reg_field 0x38 ≡ 7) × (reg_field 0xFF ≡ 7) ×
    (rm_field 0xF8 ≡ 0) × (rm_field 0x0C ≡ 4) × (rm_field 0xFF ≡ 7)
fields = (refl, refl, refl, refl, refl, refl, refl, refl, refl, refl, refl, refl)

-- the byte at its place; one that isn't there reads as 0
bytes_read :
    (modrm_byte (0x44 ∷ 0x24 ∷ []) ≡ 0x44) × (modrm_byte [] ≡ 0) × (sib_byte (0x44 ∷ 0x24 ∷ []) ≡ 0x24) × (sib_byte (0x44 ∷ []) ≡ 0)
bytes_read = (refl, refl, refl, refl)

-- SDM volume 2, table 2-4: W is bit 3, R bit 2, X bit 1 and B bit 0
rex_bits :
    (rex_w 0x48 ≡ 1) × (rex_w 0x47 ≡ 0) × (rex_r 0x44 ≡ 1) × (rex_r 0x4B ≡ 0) × (rex_x 0x42 ≡ 1) × (rex_x 0x4D ≡ 0) ×
    (rex_b 0x41 ≡ 1) × (rex_b 0x4E ≡ 0) × (rex_w 0 ≡ 0) × (rex_r 0 ≡ 0) × (rex_x 0 ≡ 0) × (rex_b 0 ≡ 0)
rex_bits = (refl, refl, refl, refl, refl, refl, refl, refl, refl, refl, refl, refl)

-- none, the least and the greatest
rexes : IsRex 0 × IsRex 0x40 × IsRex 0x4F
rexes = (inl refl, inr (omega arith, omega arith), inr (omega arith, omega arith))

-- table 2-2: mod 3 names a register; rm 4 below it an SIB byte; mod 0 with rm 5 a displacement alone, which 2.2.1.6 makes
-- relative to RIP. Table 2-3: base 5 with mod 0 is none
forms :
    (is_register 0xBF ≡ false) × (is_register 0xC0 ≡ true) × (is_register 0xFF ≡ true) ×
    (has_sib 0x04 ≡ true) × (has_sib 0x7C ≡ true) × (has_sib 0x84 ≡ true) × (has_sib 0xC4 ≡ false) × (has_sib 0x05 ≡ false) ×
    (is_rip_relative 0x05 ≡ true) × (is_rip_relative 0x3D ≡ true) × (is_rip_relative 0x04 ≡ false) × (is_rip_relative 0x45 ≡ false) ×
    (is_rip_relative 0xC5 ≡ false) ×
    (lacks_base 0x04 0x25 ≡ true) × (lacks_base 0x04 0x24 ≡ false) × (lacks_base 0x44 0x25 ≡ false) × (lacks_base 0x84 0x25 ≡ false) ×
    (lacks_base 0x05 0x25 ≡ false) × (lacks_base 0xC4 0x25 ≡ false)
forms = (refl, refl, refl, refl, refl, refl, refl, refl, refl, refl, refl, refl, refl, refl, refl, refl, refl, refl, refl)

-- a displacement has no byte with mod 0, one with mod 1, four with mod 2, and four where mod 0 has no base
displacement_sizes :
    (displacement_size 0x00 0 ≡ 0) × (displacement_size 0x40 0 ≡ 1) × (displacement_size 0x80 0 ≡ 4) × (displacement_size 0xC0 0 ≡ 0) ×
    (displacement_size 0x05 0 ≡ 4) × (displacement_size 0x45 0 ≡ 1) × (displacement_size 0x85 0 ≡ 4) × (displacement_size 0xC5 0 ≡ 0) ×
    (displacement_size 0x04 0x25 ≡ 4) × (displacement_size 0x04 0x24 ≡ 0) × (displacement_size 0x44 0x25 ≡ 1) × (displacement_size 0x84 0x25 ≡ 4) ×
    (front_size 0x04 ≡ 2) × (front_size 0x84 ≡ 2) × (front_size 0xC4 ≡ 1) × (front_size 0x00 ≡ 1)
displacement_sizes = (refl, refl, refl, refl, refl, refl, refl, refl, refl, refl, refl, refl, refl, refl, refl, refl)

-- all together: a register 1, [RAX] 1, [RSP] 2, [RBP + d8] 2, [RSP + d8] 3, [RIP + d32] 5, [RBX + d32] 5, [d32] and
-- [RSP + d32] 6
lengths :
    (modrm_length (0xC3 ∷ []) ≡ 1) × (modrm_length (0x00 ∷ []) ≡ 1) × (modrm_length (0x04 ∷ 0x24 ∷ []) ≡ 2) ×
    (modrm_length (0x45 ∷ 0xF8 ∷ []) ≡ 2) × (modrm_length (0x44 ∷ 0x24 ∷ 0x08 ∷ []) ≡ 3) × (modrm_length (0x05 ∷ []) ≡ 5) ×
    (modrm_length (0x83 ∷ []) ≡ 5) × (modrm_length (0x04 ∷ 0x25 ∷ []) ≡ 6) × (modrm_length (0x84 ∷ 0x24 ∷ []) ≡ 6)
unfolding modrm_length
lengths = (refl, refl, refl, refl, refl, refl, refl, refl, refl)

-- the displacement stands behind ModRM and SIB, least byte first, with its sign
displacements :
    (displacement (0x00 ∷ 0x77 ∷ []) ≡ 0) × (displacement (0x45 ∷ 0x7F ∷ []) ≡ 0x7F) × (displacement (0x45 ∷ 0x80 ∷ []) ≡ 0xFFFFFFFFFFFFFF80) ×
    (displacement (0x44 ∷ 0x24 ∷ 0xF8 ∷ []) ≡ 0xFFFFFFFFFFFFFFF8) ×
    (displacement (0x83 ∷ 0x78 ∷ 0x56 ∷ 0x34 ∷ 0x12 ∷ []) ≡ 0x12345678) ×
    (displacement (0x05 ∷ 0 ∷ 0 ∷ 0 ∷ 0x80 ∷ []) ≡ 0xFFFFFFFF80000000) ×
    (displacement (0x04 ∷ 0x25 ∷ 0xFF ∷ 0xFF ∷ 0xFF ∷ 0x7F ∷ []) ≡ 0x7FFFFFFF) ×
    (displacement_from 2 1 (0x44 ∷ 0x24 ∷ 0x80 ∷ []) ≡ 0xFFFFFFFFFFFFFF80) × (displacement_from 1 0 (0x00 ∷ 0x80 ∷ []) ≡ 0)
displacements = (refl, refl, refl, refl, refl, refl, refl, refl, refl)

-- table 2-3: index 4 is none, but R12 with REX.X; a scale of 1, 2, 4 or 8, and 1 without an index (own)
indices :
    (index_of 0x00 0 ≡ Some 0) × (index_of 0x38 0 ≡ Some 7) × (index_of 0x24 0 ≡ None) × (index_of 0x24 0x4D ≡ None) ×
    (index_of 0x24 0x42 ≡ Some 12) × (index_of 0x38 0x42 ≡ Some 15) ×
    (scale_of 0x00 0 ≡ 1) × (scale_of 0x40 0 ≡ 2) × (scale_of 0x80 0 ≡ 4) × (scale_of 0xC0 0 ≡ 8) × (scale_of 0xE4 0 ≡ 1) ×
    (scale_of 0xE4 0x42 ≡ 8)
indices = (refl, refl, refl, refl, refl, refl, refl, refl, refl, refl, refl, refl)

-- an address by its parts
abbrev at : Option ℕ → Option ℕ → ℕ → ℕ → Place
at base index scale disp = Mem (record { base = base; index = index; scale = scale; disp = disp; rip = false })

-- behind the next instruction, or before it
abbrev beside_rip : ℕ → Place
beside_rip disp = Mem (record { base = None; index = None; scale = 1; disp = disp; rip = true })

-- mod 3: RAX, RBX and RDI; with REX.B R8, R12 and R15; REX.W, R and X are none of rm's
registers :
    (place_of (0xC0 ∷ []) 0 ≡ Reg 0) × (place_of (0xC3 ∷ []) 0 ≡ Reg 3) × (place_of (0xFF ∷ []) 0x4E ≡ Reg 7) ×
    (place_of (0xC0 ∷ []) 0x41 ≡ Reg 8) × (place_of (0xC4 ∷ []) 0x41 ≡ Reg 12) × (place_of (0xC7 ∷ []) 0x4F ≡ Reg 15)
unfolding place_of
registers = (refl, refl, refl, refl, refl, refl)

-- without SIB: [RAX], [RBP], [RDI - 8], [R8 + 12345678], [R13]; and [RIP + 10], which REX.B doesn't turn to R13
plain :
    (place_of (0x00 ∷ []) 0 ≡ at (Some 0) None 1 0) × (place_of (0x45 ∷ 0 ∷ []) 0 ≡ at (Some 5) None 1 0) ×
    (place_of (0x47 ∷ 0xF8 ∷ []) 0 ≡ at (Some 7) None 1 0xFFFFFFFFFFFFFFF8) ×
    (place_of (0x80 ∷ 0x78 ∷ 0x56 ∷ 0x34 ∷ 0x12 ∷ []) 0x41 ≡ at (Some 8) None 1 0x12345678) ×
    (place_of (0x45 ∷ 0 ∷ []) 0x41 ≡ at (Some 13) None 1 0) × (place_of (0x05 ∷ 0x10 ∷ 0 ∷ 0 ∷ 0 ∷ []) 0 ≡ beside_rip 0x10) ×
    (place_of (0x05 ∷ 0xF0 ∷ 0xFF ∷ 0xFF ∷ 0xFF ∷ []) 0x41 ≡ beside_rip 0xFFFFFFFFFFFFFFF0)
unfolding place_of
plain = (refl, refl, refl, refl, refl, refl, refl)

-- with SIB: [RSP], [RSP + 8], [R12], [RAX + RBP * 2], [RAX + R12 * 8], [R13 + R15 * 4 + 0]
by_sib :
    (place_of (0x04 ∷ 0x24 ∷ []) 0 ≡ at (Some 4) None 1 0) × (place_of (0x44 ∷ 0x24 ∷ 0x08 ∷ []) 0 ≡ at (Some 4) None 1 8) ×
    (place_of (0x04 ∷ 0x24 ∷ []) 0x41 ≡ at (Some 12) None 1 0) × (place_of (0x04 ∷ 0x68 ∷ []) 0 ≡ at (Some 0) (Some 5) 2 0) ×
    (place_of (0x04 ∷ 0xE0 ∷ []) 0x42 ≡ at (Some 0) (Some 12) 8 0) × (place_of (0x44 ∷ 0xBD ∷ 0 ∷ []) 0x43 ≡ at (Some 13) (Some 15) 4 0)
unfolding place_of
by_sib = (refl, refl, refl, refl, refl, refl)

-- without a base: [80000000] with its sign, [RBP * 4 + 16], and the same with REX.B; base 5 with mod 1 and 2 is RBP
without_base :
    (place_of (0x04 ∷ 0x25 ∷ 0 ∷ 0 ∷ 0 ∷ 0x80 ∷ []) 0 ≡ at None None 1 0xFFFFFFFF80000000) ×
    (place_of (0x04 ∷ 0xAD ∷ 0x10 ∷ 0 ∷ 0 ∷ 0 ∷ []) 0 ≡ at None (Some 5) 4 0x10) ×
    (place_of (0x04 ∷ 0xAD ∷ 0x10 ∷ 0 ∷ 0 ∷ 0 ∷ []) 0x41 ≡ at None (Some 5) 4 0x10) ×
    (place_of (0x44 ∷ 0xAD ∷ 0x10 ∷ []) 0 ≡ at (Some 5) (Some 5) 4 0x10) ×
    (place_of (0x84 ∷ 0x25 ∷ 0x10 ∷ 0 ∷ 0 ∷ 0 ∷ []) 0 ≡ at (Some 5) None 1 0x10)
unfolding place_of
without_base = (refl, refl, refl, refl, refl)

-- the same by the fields alone
by_fields :
    (place_by 0xC1 0 0 9 ≡ Reg 1) × (place_by 0x41 0 0x41 9 ≡ at (Some 9) None 1 9) × (place_by 0x05 0 0 9 ≡ beside_rip 9) ×
    (place_by 0x44 0x58 0 9 ≡ at (Some 0) (Some 3) 2 9) × (Mem (sib_address 0x04 0x25 0 9) ≡ at None None 1 9) ×
    (Mem (plain_address 0x05 0x41 9) ≡ beside_rip 9) × (Mem (plain_address 0x46 0 9) ≡ at (Some 6) None 1 9)
by_fields = (refl, refl, refl, refl, refl, refl, refl)

-- reg: RBX, with REX.R R11; REX.W, X and B are none of reg's
reg_registers :
    (reg_by 0xD8 0 ≡ 3) × (reg_by 0xD8 0x44 ≡ 11) × (reg_by 0xF8 0x4B ≡ 7) × (reg_by 0xF8 0x4F ≡ 15) × (reg_of (0xD8 ∷ []) 0x44 ≡ 11) ×
    (reg_of [] 0x44 ≡ 8)
reg_registers = (refl, refl, refl, refl, refl, refl)

-- 48 8B 5C 24 08 is MOV RBX, [RSP + 8]; what stands behind isn't looked at; with one byte too few there are no fields
read_fields :
    (modrm_of (0x5C ∷ 0x24 ∷ 0x08 ∷ []) 0x48 ≡ Some (record { reg = 3; place = at (Some 4) None 1 8; length = 3 })) ×
    (modrm_of (0x5C ∷ 0x24 ∷ 0x08 ∷ 0xCC ∷ []) 0x4C ≡ Some (record { reg = 11; place = at (Some 4) None 1 8; length = 3 })) ×
    (modrm_of (0xC8 ∷ 0xCC ∷ []) 0x41 ≡ Some (record { reg = 1; place = Reg 8; length = 1 })) ×
    (modrm_of [] 0 ≡ None) × (modrm_of (0x5C ∷ 0x24 ∷ []) 0x48 ≡ None) × (modrm_of (0x04 ∷ []) 0 ≡ None) ×
    (modrm_of (0x05 ∷ 0 ∷ 0 ∷ 0 ∷ []) 0 ≡ None)
unfolding modrm_length place_of
read_fields = (refl, refl, refl, refl, refl, refl, refl)

-- and the statement on the fields of the first
stated : IsModRm (record { reg = 3; place = at (Some 4) None 1 8; length = 3 }) (0x5C ∷ 0x24 ∷ 0x08 ∷ []) 0x48
unfolding modrm_length place_of
stated = record { reg = refl; place = refl; length = refl; there = omega arith }
