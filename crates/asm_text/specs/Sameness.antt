-- Whether two instructions are the same, part by part, as a test.
use Rattle.std.specs.Prelude.{ℕ, ◌==◌, Bool, true, false, ◌&&◌, Option, Some, None, if◌then◌else◌, not}
use Rattle.decode_fields.specs.declared.parts.Rep.{Rep}
use Rattle.decode_fields.specs.declared.parts.Rep.TheVariants.{No, WhileEqual, WhileNot}
use Rattle.decode_fields.specs.declared.place.Address.{Address}
use Rattle.decode_fields.specs.declared.place.Place.{Place}
use Rattle.decode_fields.specs.declared.place.Place.TheVariants.{Nothing, Reg, High, Mem, Value}
use Rattle.x86_decode.specs.declared.instruction.Instr.{Instr}
use Rattle.x86_decode.specs.declared.instruction.Decoded.{Decoded}
use Rattle.x86_decode.specs.declared.instruction.Decoded.TheVariants.{Whole, Short, TooLong, Unknown}
use Rattle.asm_text.specs.Operations.{is_operation}

abbrev pub is_flag : Bool → Bool → Bool
is_flag flag other = if flag then other else not other

abbrev pub is_rep : Rep → Rep → Bool
is_rep No No = true
is_rep WhileEqual WhileEqual = true
is_rep WhileNot WhileNot = true
is_rep _ _ = false

abbrev pub is_number : Option ℕ → Option ℕ → Bool
is_number None None = true
is_number (Some number) (Some other) = number == other
is_number _ _ = false

abbrev pub is_address : Address → Address → Bool
is_address address other =
    is_number address.base other.base
    && (is_number address.index other.index
    && (address.scale == other.scale
    && (address.disp == other.disp
    && is_flag address.rip other.rip)))

abbrev pub is_place : Place → Place → Bool
is_place Nothing Nothing = true
is_place (Reg number) (Reg other) = number == other
is_place (High number) (High other) = number == other
is_place (Mem address) (Mem other) = is_address address other
is_place Value Value = true
is_place _ _ = false

abbrev pub is_instr : Instr → Instr → Bool
is_instr instr other =
    is_operation instr.op other.op
    && (instr.width == other.width
    && (is_place instr.to other.to
    && (is_place instr.from other.from
    && (instr.value == other.value
    && (is_rep instr.rep other.rep
    && is_flag instr.lock other.lock)))))

-- the answer of a decoding is this instruction, of this length
abbrev pub is_whole : Instr → ℕ → Decoded → Bool
is_whole instr size (Whole other length) = is_instr instr other && size == length
is_whole instr size Short = false
is_whole instr size TooLong = false
is_whole instr size Unknown = false
