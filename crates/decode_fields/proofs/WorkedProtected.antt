-- The protected encodings and their neighbours: SDM volume 2, the pages of each instruction and appendix A, table A-6.
use Rattle.std.proofs.Common.{◌≡◌, ℕ, true, false, [], ◌∷◌, slice_get, Option, None, Some, refl}
use Rattle.decode_fields.specs.Protected.{is_protected_at, is_refused_with, is_reg_2_or_3, length_after_escape, length_at, length_of_bytes}

-- /2 and /3, whatever mod and rm are
digits :
    (is_reg_2_or_3 0x10 ≡ true) × (is_reg_2_or_3 0x1F ≡ true) × (is_reg_2_or_3 0xD7 ≡ true) × (is_reg_2_or_3 0xD8 ≡ true) ×
    (is_reg_2_or_3 0x0F ≡ false) × (is_reg_2_or_3 0x20 ≡ false) × (is_reg_2_or_3 0xCF ≡ false) × (is_reg_2_or_3 0xE0 ≡ false) ×
    (is_reg_2_or_3 0 ≡ false) × (is_reg_2_or_3 0xFF ≡ false)
digits = (refl, refl, refl, refl, refl, refl, refl, refl, refl, refl)

-- 0F 22 /r is MOV to CRn and 0F 23 /r MOV to DRn, whatever mod is; 0F 20 and 0F 21 read these registers
moves :
    (is_refused_with 0x22 0xC0 ≡ true) × (is_refused_with 0x22 0xE7 ≡ true) × (is_refused_with 0x22 0x00 ≡ true) ×
    (is_refused_with 0x22 0xFF ≡ true) × (is_refused_with 0x23 0xF8 ≡ true) × (is_refused_with 0x23 0x00 ≡ true) ×
    (is_refused_with 0x20 0xC0 ≡ false) × (is_refused_with 0x21 0xF8 ≡ false) × (is_refused_with 0x24 0xC0 ≡ false)
moves = (refl, refl, refl, refl, refl, refl, refl, refl, refl)

-- 0F 01: LGDT /2 and LIDT /3 from memory with each mod, and LMSW /6 from both; SGDT /0, SIDT /1, SMSW /4, INVLPG /7,
-- and XGETBV and XSETBV, which have /2 with mod 3
system_tables :
    (is_refused_with 0x01 0x10 ≡ true) × (is_refused_with 0x01 0x57 ≡ true) × (is_refused_with 0x01 0x90 ≡ true) ×
    (is_refused_with 0x01 0x18 ≡ true) × (is_refused_with 0x01 0x5D ≡ true) × (is_refused_with 0x01 0x9F ≡ true) ×
    (is_refused_with 0x01 0x30 ≡ true) × (is_refused_with 0x01 0x75 ≡ true) × (is_refused_with 0x01 0xF0 ≡ true) ×
    (is_refused_with 0x01 0x00 ≡ false) × (is_refused_with 0x01 0x08 ≡ false) × (is_refused_with 0x01 0x20 ≡ false) ×
    (is_refused_with 0x01 0xE0 ≡ false) × (is_refused_with 0x01 0x38 ≡ false) × (is_refused_with 0x01 0xF8 ≡ false) ×
    (is_refused_with 0x01 0xD0 ≡ false) × (is_refused_with 0x01 0xD1 ≡ false)
system_tables = (refl, refl, refl, refl, refl, refl, refl, refl, refl, refl, refl, refl, refl, refl, refl, refl, refl)

-- 0F 00: LLDT /2 and LTR /3 from registers and memory; SLDT /0, STR /1, VERR /4, VERW /5, and no instruction /6. The
-- same third byte behind another opcode is none: 0F 02 is LAR, 0F 10 MOVUPS
segment_registers :
    (is_refused_with 0x00 0x10 ≡ true) × (is_refused_with 0x00 0xD0 ≡ true) × (is_refused_with 0x00 0x18 ≡ true) ×
    (is_refused_with 0x00 0xD8 ≡ true) × (is_refused_with 0x00 0xC0 ≡ false) × (is_refused_with 0x00 0xC8 ≡ false) ×
    (is_refused_with 0x00 0xE0 ≡ false) × (is_refused_with 0x00 0xE8 ≡ false) × (is_refused_with 0x00 0xF0 ≡ false) ×
    (is_refused_with 0x02 0x10 ≡ false) × (is_refused_with 0x10 0x18 ≡ false)
segment_registers = (refl, refl, refl, refl, refl, refl, refl, refl, refl, refl, refl)

-- 0F 30 is WRMSR and has no third byte; 0F 32 is RDMSR, 0F 31 RDTSC. The others need their ModRM byte
after_escapes :
    (length_after_escape (Some 0x30) None ≡ 2) × (length_after_escape (Some 0x30) (Some 0x10) ≡ 2) ×
    (length_after_escape (Some 0x32) None ≡ 0) × (length_after_escape (Some 0x32) (Some 0x10) ≡ 0) ×
    (length_after_escape (Some 0x31) (Some 0x10) ≡ 0) × (length_after_escape (Some 0x22) (Some 0xC0) ≡ 3) ×
    (length_after_escape (Some 0x22) None ≡ 0) × (length_after_escape (Some 0x01) (Some 0x10) ≡ 3) ×
    (length_after_escape (Some 0x01) (Some 0x00) ≡ 0) × (length_after_escape None (Some 0x10) ≡ 0) ×
    (length_after_escape None None ≡ 0)
after_escapes = (refl, refl, refl, refl, refl, refl, refl, refl, refl, refl, refl)

-- 0F alone escapes to the second map: 0E is no opcode of 64-bit mode, 22 in the first map is AND
escapes :
    (length_of_bytes (Some 0x0F) (Some 0x30) None ≡ 2) × (length_of_bytes (Some 0x0F) (Some 0x22) (Some 0xD8) ≡ 3) ×
    (length_of_bytes (Some 0x0F) (Some 0x22) None ≡ 0) × (length_of_bytes (Some 0x0F) None None ≡ 0) ×
    (length_of_bytes None (Some 0x30) None ≡ 0) × (length_of_bytes (Some 0x0E) (Some 0x30) None ≡ 0) ×
    (length_of_bytes (Some 0x22) (Some 0xC0) (Some 0x0F) ≡ 0) × (length_of_bytes (Some 0) (Some 0) (Some 0) ≡ 0)
escapes = (refl, refl, refl, refl, refl, refl, refl, refl)

-- WRMSR and MOV CR0, RAX, which overlap no other, behind 66: the one at place 1, the other at 3, and none elsewhere
abbrev two : ℕ → Option ℕ
two = slice_get (0x66 ∷ 0x0F ∷ 0x30 ∷ 0x0F ∷ 0x22 ∷ 0xC0 ∷ [])

places :
    (length_at two 0 ≡ 0) × (length_at two 1 ≡ 2) × (length_at two 2 ≡ 0) × (length_at two 3 ≡ 3) × (length_at two 4 ≡ 0) ×
    (length_at two 5 ≡ 0) × (length_at two 6 ≡ 0) × (is_protected_at two 0 ≡ false) × (is_protected_at two 1 ≡ true) ×
    (is_protected_at two 2 ≡ false) × (is_protected_at two 3 ≡ true) × (is_protected_at two 6 ≡ false)
places = (refl, refl, refl, refl, refl, refl, refl, refl, refl, refl, refl, refl)

-- one whose last byte isn't there stands nowhere; 0F 0F 30 holds WRMSR from its second byte on
at_the_end :
    (is_protected_at (slice_get (0x0F ∷ 0x22 ∷ [])) 0 ≡ false) × (is_protected_at (slice_get (0x0F ∷ [])) 0 ≡ false) ×
    (is_protected_at (slice_get []) 0 ≡ false) × (is_protected_at (slice_get (0x0F ∷ 0x30 ∷ [])) 0 ≡ true) ×
    (is_protected_at (slice_get (0x0F ∷ 0x0F ∷ 0x30 ∷ [])) 0 ≡ false) × (is_protected_at (slice_get (0x0F ∷ 0x0F ∷ 0x30 ∷ [])) 1 ≡ true)
at_the_end = (refl, refl, refl, refl, refl, refl)
