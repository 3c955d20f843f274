-- What the fields of a spelling say: operand size, operands, number, and the instruction as a whole.
use Rattle.std.specs.Prelude.{ℕ, ◌+◌, ◌-◌, ◌*◌, ◌/◌, ◌%◌, ◌^◌, ◌==◌, Bool, true, false, ◌&&◌, not, nat_le, nat_lt, if◌then◌else◌, Option, Some, None, is_none, unwrap_or, List, length, drop, slice_index}
use Rattle.decode_fields.specs.declared.parts.Prefixes.{Prefixes}
use Rattle.decode_fields.specs.declared.parts.ModRm.{ModRm}
use Rattle.decode_fields.specs.declared.parts.Rep.{Rep}
use Rattle.decode_fields.specs.declared.parts.Rep.TheVariants.{No}
use Rattle.decode_fields.specs.declared.place.Place.{Place}
use Rattle.decode_fields.specs.declared.place.Place.TheVariants.{Nothing, Reg, High, Mem, Value}
use Rattle.decode_fields.specs.ModRm.{rm_field, reg_field, is_register, modrm_byte, modrm_length, place_of, reg_of, rex_b, rex_w}
use Rattle.decode_fields.specs.Immediates.{signed_number}
use Rattle.x86_decode.specs.declared.instruction.Instr.{Instr}
use Rattle.x86_decode.specs.declared.operation.Op.{Op}
use Rattle.x86_decode.specs.declared.operation.Op.TheVariants.{Movs, Cmps, Stos, Lods, Scas}
use Rattle.x86_decode.specs.declared.shape.Shape.{Shape}
use Rattle.x86_decode.specs.declared.shape.RowLayout.{RowLayout}
use Rattle.x86_decode.specs.declared.shape.RowLayout.TheVariants.{Plain, Memory, Register, Ignored}
use Rattle.x86_decode.specs.declared.shape.Operand.{Operand}
use Rattle.x86_decode.specs.declared.shape.Operand.TheVariants.{Absent, Eb, Ev, Gb, Gv, Zb, Zv, Accumulator, Counter, Port, Constant}
use Rattle.x86_decode.specs.declared.shape.Number.{Number}
use Rattle.x86_decode.specs.declared.shape.Number.TheVariants.{Zero, One, Ib, Iz, Iv, Jz, Ub, Uw, Cn}
use Rattle.x86_decode.specs.declared.shape.Width.{Width}
use Rattle.x86_decode.specs.declared.shape.Width.TheVariants.{Byte, Word, Quad, Variable, Stack}
use Rattle.x86_decode.specs.OpcodeTable.{OpcodeRow, When, Always, Digit, AtSize, AtRexB}

-- the REX byte, or 0 for none
abbrev pub rex_number : Prefixes → ℕ
rex_number prefixes = unwrap_or prefixes.rex 0

-- the operand size: 64 with REX.W, else 16 with 66, else 32
abbrev pub operand_size : Prefixes → ℕ
operand_size prefixes =
    if rex_w (rex_number prefixes) == 1 then 64 else if prefixes.narrow then 16 else 32

-- the width of a row, in bits
abbrev pub width_of : Width → Prefixes → ℕ
width_of Byte prefixes = 8
width_of Word prefixes = 16
width_of Quad prefixes = 64
width_of Variable prefixes = operand_size prefixes
width_of Stack prefixes = if operand_size prefixes == 16 then 16 else 64

-- what a row asks for stands
abbrev pub when_stands : When → Prefixes → List ℕ → Bool
when_stands Always prefixes operands = true
when_stands (Digit n) prefixes operands = reg_field (modrm_byte operands) == n
when_stands (AtSize size) prefixes operands = operand_size prefixes == size
when_stands (AtRexB bit) prefixes operands = rex_b (rex_number prefixes) == bit

-- the form of ModRM that a layout asks for stands
abbrev pub layout_stands : RowLayout → List ℕ → Bool
layout_stands Memory operands = not (is_register (modrm_byte operands))
layout_stands Register operands = is_register (modrm_byte operands)
layout_stands _ operands = true

-- the row stands at these prefixes, before these bytes
abbrev pub row_stands : OpcodeRow → Prefixes → List ℕ → Bool
row_stands row prefixes operands = when_stands row.when prefixes operands && layout_stands row.shape.layout operands

-- the bytes of ModRM, SIB and displacement
abbrev pub layout_length : RowLayout → List ℕ → ℕ
layout_length Plain operands = 0
layout_length Ignored operands = 1
layout_length _ operands = modrm_length operands

-- the bytes of a row's number, by the row's width
abbrev pub number_size : Number → ℕ → ℕ
number_size Ib width = 1
number_size Iz width = if width == 16 then 2 else 4
number_size Iv width = width / 8
number_size Jz width = 4
number_size Ub width = 1
number_size Uw width = 2
number_size _ width = 0

-- the bytes behind the opcode
abbrev pub operand_length : Shape → Prefixes → List ℕ → ℕ
operand_length shape prefixes operands =
    layout_length shape.layout operands + number_size shape.number (width_of shape.width prefixes)

-- the number in these bytes, extended by its sign and cut to the width
abbrev pub cut_number : ℕ → ℕ → List ℕ → ℕ
cut_number size width bytes = signed_number (8 * size) bytes % 2 ^ width

-- what ModRM says where a layout has it, and nothing where it hasn't; with mod taken as 3, rm names a register
abbrev pub fields_of : RowLayout → List ℕ → ℕ → ModRm
fields_of Plain operands rex = record { reg = 0; place = Nothing; length = 0 }
fields_of Ignored operands rex = record { reg = reg_of operands rex; place = Reg (rm_field (modrm_byte operands) + 8 * rex_b rex); length = 1 }
fields_of _ operands rex = record { reg = reg_of operands rex; place = place_of operands rex; length = modrm_length operands }

-- the same, unless the bytes end before the last of these
abbrev pub fields_in : RowLayout → List ℕ → ℕ → Option ModRm
fields_in layout operands rex =
    if nat_lt (length operands) (layout_length layout operands) then None else Some (fields_of layout operands rex)

-- a row's number: reg of ModRM, and the bytes behind it
abbrev pub number_value : Number → ℕ → ℕ → List ℕ → ℕ
number_value Zero width reg bytes = 0
number_value One width reg bytes = 1
number_value Ib width reg bytes = cut_number 1 width bytes
number_value Iz width reg bytes = cut_number (number_size Iz width) width bytes
number_value Iv width reg bytes = cut_number (width / 8) width bytes
number_value Jz width reg bytes = cut_number 4 width bytes
number_value Ub width reg bytes = slice_index bytes 0
number_value Uw width reg bytes = slice_index bytes 0 + 256 * slice_index bytes 1
number_value Cn width reg bytes = reg

-- the byte registers 4 to 7 are AH, CH, DH and BH without REX
abbrev pub byte_register : Option ℕ → ℕ → Place
byte_register rex number = if is_none rex && nat_le 4 number then High (number - 4) else Reg number

abbrev pub place_of_byte : Option ℕ → Place → Place
place_of_byte rex (Reg number) = byte_register rex number
place_of_byte rex Nothing = Nothing
place_of_byte rex (High number) = High number
place_of_byte rex (Mem address) = Mem address
place_of_byte rex Value = Value

-- a register by the opcode's low bits
abbrev pub opcode_register : Prefixes → ℕ → ℕ
opcode_register prefixes opcode = opcode % 8 + 8 * rex_b (rex_number prefixes)

-- where an operand stands
abbrev pub operand_place : Operand → Prefixes → ℕ → ModRm → Place
operand_place Absent prefixes opcode fields = Nothing
operand_place Eb prefixes opcode fields = place_of_byte prefixes.rex fields.place
operand_place Ev prefixes opcode fields = fields.place
operand_place Gb prefixes opcode fields = byte_register prefixes.rex fields.reg
operand_place Gv prefixes opcode fields = Reg fields.reg
operand_place Zb prefixes opcode fields = byte_register prefixes.rex (opcode_register prefixes opcode)
operand_place Zv prefixes opcode fields = Reg (opcode_register prefixes opcode)
operand_place Accumulator prefixes opcode fields = Reg 0
operand_place Counter prefixes opcode fields = Reg 1
operand_place Port prefixes opcode fields = Reg 2
operand_place Constant prefixes opcode fields = Value

abbrev pub is_string : Op → Bool
is_string Movs = true
is_string Cmps = true
is_string Stos = true
is_string Lods = true
is_string Scas = true
is_string _ = false

-- a repeat prefix counts on a string instruction alone
abbrev pub rep_by : Op → Prefixes → Rep
rep_by op prefixes = if is_string op then prefixes.rep else No

-- the instruction of a row with these prefixes, opcode, fields of ModRM and bytes behind them
abbrev pub instr_by : Op → Shape → Prefixes → ℕ → ModRm → List ℕ → Instr
instr_by op shape prefixes opcode fields bytes = record {
  op = op;
  width = width_of shape.width prefixes;
  to = operand_place shape.to prefixes opcode fields;
  from = operand_place shape.from prefixes opcode fields;
  value = number_value shape.number (width_of shape.width prefixes) fields.reg bytes;
  rep = rep_by op prefixes;
  lock = prefixes.lock;
}

-- the instruction of a row with these prefixes, opcode and bytes behind it
abbrev pub instr_of : Op → Shape → Prefixes → ℕ → List ℕ → Instr
instr_of op shape prefixes opcode operands =
    instr_by op shape prefixes opcode (fields_of shape.layout operands (rex_number prefixes)) (drop (layout_length shape.layout operands) operands)
