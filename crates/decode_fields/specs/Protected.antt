-- The encodings that the scan of outer code refuses: instructions that load a control or debug register, a
-- model-specific register, a descriptor table, a task or the machine status word (SDM volume 2; opcodes after 0F).
-- Bytes are looked at through a function from places to bytes that has None where no byte stands, so that one
-- definition serves a slice and the code of an image.
use Rattle.std.specs.Prelude.{ℕ, ◌+◌, ◌==◌, Bool, not, ◌&&◌, ◌||◌, if◌then◌else◌, Option, None, Some, nat_lt}
use Rattle.decode_fields.specs.ModRm.{mod_field, reg_field}

-- reg is 2 or 3
abbrev pub is_reg_2_or_3 : ℕ → Bool
is_reg_2_or_3 byte = (reg_field byte == 2) || (reg_field byte == 3)

-- 0F, this opcode and this third byte: MOV to CRn; MOV to DRn; LGDT or LIDT; LMSW; LLDT or LTR
abbrev pub is_refused_with : ℕ → ℕ → Bool
is_refused_with opcode third =
    (opcode == 0x22)
    || ((opcode == 0x23)
    || ((((opcode == 0x01) && is_reg_2_or_3 third) && not (mod_field third == 3))
    || (((opcode == 0x01) && (reg_field third == 6))
    || ((opcode == 0x00) && is_reg_2_or_3 third))))

-- the length of the encoding that these bytes after 0F end, 0 where they end none; 30 alone is WRMSR
abbrev pub length_after_escape : Option ℕ → Option ℕ → ℕ
length_after_escape None third = 0
length_after_escape (Some opcode) None = if opcode == 0x30 then 2 else 0
length_after_escape (Some opcode) (Some third) = if opcode == 0x30 then 2 else (if is_refused_with opcode third then 3 else 0)

-- the length of the protected encoding that begins with these bytes, 0 where none does
abbrev pub length_of_bytes : Option ℕ → Option ℕ → Option ℕ → ℕ
length_of_bytes None second third = 0
length_of_bytes (Some first) second third = if first == 0x0f then length_after_escape second third else 0

-- the length of the protected encoding at a place, 0 where none stands there
abbrev pub length_at : (ℕ → Option ℕ) → ℕ → ℕ
length_at byte_at place = length_of_bytes (byte_at place) (byte_at (place + 1)) (byte_at (place + 2))

-- a protected encoding stands at a place, wholly inside the bytes that there are
abbrev pub is_protected_at : (ℕ → Option ℕ) → ℕ → Bool
is_protected_at byte_at place = nat_lt 0 (length_at byte_at place)
