-- What can be seen of an instruction before its bytes are put together: which rows, which REX bytes and which ModRM
-- bytes can't spell it.
use Rattle.std.specs.Prelude.{ℕ, ◌+◌, ◌*◌, ◌/◌, ◌%◌, ◌==◌, Bool, true, false, ◌&&◌, ◌||◌, not, is_none, Option, Some, None, unwrap_or, if◌then◌else◌}
use Rattle.decode_fields.specs.declared.parts.Prefixes.{Prefixes}
use Rattle.decode_fields.specs.declared.parts.Rep.TheVariants.{No}
use Rattle.decode_fields.specs.declared.place.Place.{Place}
use Rattle.decode_fields.specs.declared.place.Place.TheVariants.{Nothing, Reg, High, Mem, Value}
use Rattle.decode_fields.specs.ModRm.{has_sib, is_register, reg_field, rex_b, rex_r, rex_x, rm_field}
use Rattle.x86_decode.specs.declared.instruction.Instr.{Instr}
use Rattle.x86_decode.specs.declared.row_list.TableRow.{TableRow}
use Rattle.x86_decode.specs.declared.shape.Shape.{Shape}
use Rattle.x86_decode.specs.declared.shape.RowLayout.{RowLayout}
use Rattle.x86_decode.specs.declared.shape.RowLayout.TheVariants.{Plain, AnyForm, Memory, Register, Ignored}
use Rattle.x86_decode.specs.declared.shape.Number.{Number}
use Rattle.x86_decode.specs.declared.shape.Number.TheVariants.{Cn}
use Rattle.x86_decode.specs.declared.shape.Operand.{Operand}
use Rattle.x86_decode.specs.declared.shape.Operand.TheVariants.{Absent, Eb, Ev, Gb, Gv, Zb, Zv, Accumulator, Counter, Port, Constant}
use Rattle.x86_decode.specs.Meaning.{width_of}
use Rattle.asm_text.specs.declared.fitting.Form.{Form}
use Rattle.asm_text.specs.Operations.{is_operation}

abbrev pub is_no_place : Place → Bool
is_no_place Nothing = true
is_no_place _ = false

abbrev pub is_value : Place → Bool
is_value Value = true
is_value _ = false

abbrev pub is_general : Place → Bool
is_general (Reg number) = true
is_general _ = false

abbrev pub is_memory_place : Place → Bool
is_memory_place (Mem address) = true
is_memory_place _ = false

-- a register of byte operands
abbrev pub is_byte_register : Place → Bool
is_byte_register (Reg number) = true
is_byte_register (High number) = true
is_byte_register _ = false

-- the general register of this number
abbrev pub is_numbered : ℕ → Place → Bool
is_numbered wanted (Reg number) = number == wanted
is_numbered wanted _ = false

-- the low three bits of a register's number; those of a high byte register are 4 to 7
abbrev pub low_of : Place → Option ℕ
low_of (Reg number) = Some (number % 8)
low_of (High number) = Some (number % 4 + 4)
low_of _ = None

abbrev pub is_option_of : Option ℕ → ℕ → Bool
is_option_of None number = false
is_option_of (Some other) number = other == number

-- an operand of this letter can stand there, behind this opcode
abbrev pub letter_fits : Operand → ℕ → Place → Bool
letter_fits Absent opcode place = is_no_place place
letter_fits Eb opcode place = is_byte_register place || is_memory_place place
letter_fits Ev opcode place = is_general place || is_memory_place place
letter_fits Gb opcode place = is_byte_register place
letter_fits Gv opcode place = is_general place
letter_fits Zb opcode place = is_option_of (low_of place) (opcode % 8)
letter_fits Zv opcode place = is_option_of (low_of place) (opcode % 8)
letter_fits Accumulator opcode place = is_numbered 0 place
letter_fits Counter opcode place = is_numbered 1 place
letter_fits Port opcode place = is_numbered 2 place
letter_fits Constant opcode place = is_value place

-- the letters of the operand by mod and rm, and of the one by reg
abbrev pub is_by_rm : Operand → Bool
is_by_rm Eb = true
is_by_rm Ev = true
is_by_rm _ = false

abbrev pub is_by_reg : Operand → Bool
is_by_reg Gb = true
is_by_reg Gv = true
is_by_reg _ = false

abbrev pub is_plain_layout : RowLayout → Bool
is_plain_layout Plain = true
is_plain_layout _ = false

abbrev pub is_ignored_layout : RowLayout → Bool
is_ignored_layout Ignored = true
is_ignored_layout _ = false

-- the row can spell the instruction behind this opcode; where ModRM names no operand, NOP by itself is shorter
abbrev pub row_fits : Instr → ℕ → TableRow → Bool
row_fits instr opcode row =
    is_operation row.op instr.op
    && (letter_fits row.shape.to opcode instr.to
    && (letter_fits row.shape.from opcode instr.from
    && (is_plain_layout row.shape.layout || (is_by_rm row.shape.to || is_by_rm row.shape.from))))

-- the place by mod and rm, and the one by reg
abbrev pub rm_place : Shape → Instr → Place
rm_place shape instr =
    if is_by_rm shape.to then instr.to else if is_by_rm shape.from then instr.from else Nothing

abbrev pub reg_place : Shape → Instr → Place
reg_place shape instr =
    if is_by_reg shape.to then instr.to else if is_by_reg shape.from then instr.from else Nothing

-- the number of a control or debug register, which reg names
abbrev pub is_by_number : Number → Bool
is_by_number Cn = true
is_by_number _ = false

-- reg of ModRM: the row's own digit, the number of a control or debug register, or that of the operand by reg; any
-- where nothing names it
abbrev pub wanted_reg : Option ℕ → Shape → Instr → Option ℕ
wanted_reg (Some digit) shape instr = Some digit
wanted_reg None shape instr =
    if is_by_number shape.number then Some (instr.value % 8) else low_of (reg_place shape instr)

-- what ModRM has to say
abbrev pub wanted_form : TableRow → Instr → Form
wanted_form row instr = record {
  layout = row.shape.layout;
  reg = wanted_reg row.digit row.shape instr;
  place = rm_place row.shape instr;
}

abbrev pub reg_fits : Option ℕ → ℕ → Bool
reg_fits None reg = true
reg_fits (Some wanted) reg = wanted == reg

-- mod and rm: mod 3 for a register, unless mod is ignored, and another one for a place in memory
abbrev pub rm_fits : RowLayout → Place → ℕ → Bool
rm_fits layout (Reg number) modrm = (is_ignored_layout layout || is_register modrm) && number % 8 == rm_field modrm
rm_fits layout (High number) modrm = (is_ignored_layout layout || is_register modrm) && number % 4 + 4 == rm_field modrm
rm_fits layout (Mem address) modrm = not (is_register modrm)
rm_fits layout _ modrm = false

abbrev pub modrm_fits : Form → ℕ → Bool
modrm_fits form modrm = reg_fits form.reg (reg_field modrm) && rm_fits form.layout form.place modrm

-- ModRM asks for SIB
abbrev pub asks_sib : RowLayout → ℕ → Bool
asks_sib Plain modrm = false
asks_sib AnyForm modrm = has_sib modrm
asks_sib Memory modrm = has_sib modrm
asks_sib Register modrm = has_sib modrm
asks_sib Ignored modrm = false

-- the low six bits of SIB by the operand in memory: index 4 stands for none, and so does base 5
abbrev pub low_or : ℕ → Option ℕ → ℕ
low_or low None = low
low_or low (Some number) = number % 8

abbrev pub sib_low : Place → ℕ
sib_low (Mem address) = 8 * low_or 4 address.index + low_or 5 address.base
sib_low _ = 0

abbrev pub place_disp : Place → ℕ
place_disp (Mem address) = address.disp
place_disp _ = 0

-- prefixes that give the operand size alone
abbrev pub size_prefixes : Bool → Option ℕ → Prefixes
size_prefixes narrow rex = record { length = 0; narrow = narrow; lock = false; rep = No; rex = rex }

-- a register's number has this high bit; a high byte register wants no REX
abbrev pub has_high_bit : Option ℕ → ℕ → Place → Bool
has_high_bit rex bit (Reg number) = number / 8 == bit
has_high_bit rex bit (High number) = is_none rex
has_high_bit rex bit _ = true

abbrev pub has_bit : ℕ → Option ℕ → Bool
has_bit bit None = true
has_bit bit (Some number) = number / 8 == bit

-- base and index have the high bits that REX gives them
abbrev pub address_fits : ℕ → Place → Bool
address_fits rex (Mem address) = has_bit (rex_b rex) address.base && has_bit (rex_x rex) address.index
address_fits rex _ = true

-- REX has the high bits of the operand's registers
abbrev pub rex_fits : Option ℕ → Operand → Place → Bool
rex_fits rex Eb place = has_high_bit rex (rex_b (unwrap_or rex 0)) place && address_fits (unwrap_or rex 0) place
rex_fits rex Ev place = has_high_bit rex (rex_b (unwrap_or rex 0)) place && address_fits (unwrap_or rex 0) place
rex_fits rex Gb place = has_high_bit rex (rex_r (unwrap_or rex 0)) place
rex_fits rex Gv place = has_high_bit rex (rex_r (unwrap_or rex 0)) place
rex_fits rex Zb place = has_high_bit rex (rex_b (unwrap_or rex 0)) place
rex_fits rex Zv place = has_high_bit rex (rex_b (unwrap_or rex 0)) place
rex_fits rex _ place = true

-- 66 and REX give the width and the registers of the instruction
abbrev pub size_fits : Shape → Instr → Bool → Option ℕ → Bool
size_fits shape instr narrow rex =
    width_of shape.width (size_prefixes narrow rex) == instr.width
    && (rex_fits rex shape.to instr.to && rex_fits rex shape.from instr.from)
