-- What needn't be tried: bytes that are behind the best ones whatever they are, REX bytes that don't give the width and the
-- registers, and forms of ModRM that don't name the operands.
use Rattle.std.specs.Prelude.{◌≡◌, ◌⊎◌, ℕ, ◌+◌, ◌*◌, ◌/◌, ◌%◌, ◌<◌, ◌≤◌, ◌==◌, Bool, true, false, ◌&&◌, ◌||◌, not, is_none, nat_lt, if◌then◌else◌, bit_and, ⊤, Option, Some, None, List, ◌++◌, length}
use Rattle.std.specs.List.{flat_map, list_all, range_with_len}
use Rattle.decode_fields.specs.declared.place.Address.{Address}
use Rattle.decode_fields.specs.declared.place.Place.{Place}
use Rattle.decode_fields.specs.declared.place.Place.TheVariants.{Nothing, Reg, High, Mem}
use Rattle.decode_fields.specs.Prefixes.{is_prefix}
use Rattle.x86_decode.specs.declared.instruction.Instr.{Instr}
use Rattle.x86_decode.specs.declared.reader.Map.{Map}
use Rattle.x86_decode.specs.declared.reader.Map.TheVariants.{OneByte, TwoByte}
use Rattle.x86_decode.specs.declared.row_list.TableRow.{TableRow}
use Rattle.x86_decode.specs.declared.shape.Number.{Number}
use Rattle.x86_decode.specs.declared.shape.Operand.{Operand}
use Rattle.x86_decode.specs.declared.shape.Operand.TheVariants.{Eb, Ev, Gb, Gv, Zb, Zv}
use Rattle.x86_decode.specs.declared.shape.RowLayout.{RowLayout}
use Rattle.x86_decode.specs.declared.shape.Shape.{Shape}
use Rattle.x86_decode.specs.Meaning.{number_size, width_of}
use Rattle.x86_decode.specs.Spelling.{opcode_bytes}
use Rattle.asm_text.specs.declared.fitting.Form.{Form}
use Rattle.asm_text.specs.declared.skipping.RexBits.{RexBits}
use Rattle.asm_text.specs.Candidates.{by_modrm, by_rex}
use Rattle.asm_text.specs.Fitting.{is_by_rm, is_ignored_layout, is_option_of, is_plain_layout, letter_fits, low_of, size_prefixes}
use Rattle.asm_text.specs.LeastSpelling.{is_bytewise_least}

-- the least that a form of ModRM, an opcode and a number take
abbrev pub form_length : RowLayout → ℕ
form_length layout = if is_plain_layout layout then 0 else 1

abbrev pub narrow_length : Bool → ℕ
narrow_length narrow = if narrow then 1 else 0

abbrev pub opcode_length : Map → ℕ
opcode_length OneByte = 1
opcode_length TwoByte = 2

abbrev pub is_width : ℕ → Bool
is_width width = width == 8 || (width == 16 || (width == 32 || width == 64))

abbrev pub number_least : Number → ℕ → ℕ
number_least number width = if is_width width then number_size number width else 0

-- and a row, without prefixes
unfoldable pub row_least : Map → Shape → Instr → ℕ
row_least map shape instr = opcode_length map + form_length shape.layout + number_least shape.number instr.width

-- there are best bytes, and fewer than these
unfoldable pub is_behind : List ℕ → ℕ → Bool
is_behind best least = not (length best == 0) && nat_lt (length best) least

-- there are best bytes, and they come before all that begin with the stem and are so many or more
unfoldable pub is_ahead : List ℕ → List ℕ → ℕ → Bool
is_ahead best stem least =
    not (length best == 0)
    && (nat_lt (length best) least || (length best == least && is_bytewise_least best stem))

-- what a bit of REX has to be for a register; a high byte register wants no REX, so that neither 0 nor 1 fits
abbrev pub high_bit : Place → Option ℕ
high_bit (Reg number) = Some (number / 8)
high_bit (High number) = Some 2
high_bit _ = None

abbrev pub high_of : Option ℕ → Option ℕ
high_of None = None
high_of (Some number) = Some (number / 8)

abbrev pub address_index : Place → Option ℕ
address_index (Mem address) = high_of address.index
address_index _ = None

abbrev pub address_base : Place → Option ℕ
address_base (Mem address) = high_of address.base
address_base place = high_bit place

-- R, X and B for an operand of this letter
abbrev pub reg_bit : Operand → Place → Option ℕ
reg_bit Gb place = high_bit place
reg_bit Gv place = high_bit place
reg_bit _ place = None

abbrev pub index_bit : Operand → Place → Option ℕ
index_bit Eb place = address_index place
index_bit Ev place = address_index place
index_bit _ place = None

abbrev pub base_bit : Operand → Place → Option ℕ
base_bit Eb place = address_base place
base_bit Ev place = address_base place
base_bit Zb place = high_bit place
base_bit Zv place = high_bit place
base_bit _ place = None

abbrev pub either_bit : Option ℕ → Option ℕ → Option ℕ
either_bit None other = other
either_bit (Some bit) other = Some bit

-- W, by the width with it and without it
abbrev pub has_width : Shape → Instr → Bool → ℕ → Bool
has_width shape instr narrow rex = width_of shape.width (size_prefixes narrow (Some rex)) == instr.width

abbrev pub wide_by : Bool → Bool → Option ℕ
wide_by true true = None
wide_by true false = Some 0
wide_by false true = Some 1
wide_by false false = Some 2

abbrev pub wide_bit : Shape → Instr → Bool → Option ℕ
wide_bit shape instr narrow = wide_by (has_width shape instr narrow 0x40) (has_width shape instr narrow 0x48)

-- known bits as a number, and what they are
abbrev pub known_bit : Option ℕ → ℕ → ℕ
known_bit None value = 0
known_bit (Some bit) value = value

abbrev pub value_of : Option ℕ → ℕ → ℕ
value_of None value = 0
value_of (Some bit) value = bit * value

abbrev pub bits_by : Option ℕ → Option ℕ → Option ℕ → Option ℕ → RexBits
bits_by wide reg index base = record {
  known = known_bit wide 8 + known_bit reg 4 + known_bit index 2 + known_bit base 1;
  bits = value_of wide 8 + value_of reg 4 + value_of index 2 + value_of base 1;
}

unfoldable pub rex_bits : Shape → Instr → Bool → RexBits
rex_bits shape instr narrow =
    bits_by (wide_bit shape instr narrow)
    (either_bit (reg_bit shape.to instr.to) (reg_bit shape.from instr.from))
    (either_bit (index_bit shape.to instr.to) (index_bit shape.from instr.from))
    (either_bit (base_bit shape.to instr.to) (base_bit shape.from instr.from))

-- the low bits of REX are those that are known
unfoldable pub rex_may_fit : RexBits → ℕ → Bool
rex_may_fit it low = bit_and low it.known == it.bits

-- REX is none, or 40 to 4F
abbrev pub IsRexOption : Option ℕ → Type 0
IsRexOption None = ⊤
IsRexOption (Some rex) = (0x40 ≤ rex) × (rex < 0x50)

-- with each REX
unfoldable pub by_each_rex : Instr → Map → ℕ → TableRow → Bool → List (List ℕ)
by_each_rex instr map opcode row narrow = flat_map (by_rex instr map opcode row narrow) (range_with_len 0 16)

-- a row of the instruction's operation can spell it behind this opcode
abbrev pub shape_fits : Instr → ℕ → Shape → Bool
shape_fits instr opcode shape =
    letter_fits shape.to opcode instr.to
    && (letter_fits shape.from opcode instr.from
    && (is_plain_layout shape.layout || (is_by_rm shape.to || is_by_rm shape.from)))

-- one of the operands is a register with these low bits
abbrev pub names_low : Instr → ℕ → Bool
names_low instr low = is_option_of (low_of instr.to) low || is_option_of (low_of instr.from) low

-- an opcode by itself is neither a prefix byte nor 0F
abbrev pub begins_code : Map → ℕ → Bool
begins_code OneByte opcode = not (is_prefix opcode) && not (opcode == 0x0F)
begins_code TwoByte opcode = true

-- prefix bytes and an opcode
pub record IsStem (stem : List ℕ) : Type 0 where
  pub front : List ℕ
  pub map : Map
  pub opcode : ℕ
  pub is : stem ≡ front ++ opcode_bytes map opcode
  pub prefixes : list_all is_prefix front ≡ true
  pub begins : begins_code map opcode ≡ true

-- the place is an operand of the instruction, or none
abbrev pub IsOperand : Instr → Place → Type 0
IsOperand instr place = (place ≡ instr.to) ⊎ ((place ≡ instr.from) ⊎ (place ≡ Nothing))

-- mod, by the layout and the operand
abbrev pub mode_may_fit : RowLayout → Place → ℕ → Bool
mode_may_fit layout (Reg number) mode = is_ignored_layout layout || mode == 3
mode_may_fit layout (High number) mode = is_ignored_layout layout || mode == 3
mode_may_fit layout (Mem address) mode = not (mode == 3)
mode_may_fit layout _ mode = false

-- rm of an operand in memory: that of the base, 4 where SIB stands behind, and 5 for the next instruction; and without
-- displacement only where there is none
abbrev pub base_may_fit : Option ℕ → Bool → ℕ → ℕ → ℕ → Bool
base_may_fit None alone disp mode rm = mode == 0 && rm == 4
base_may_fit (Some base) alone disp mode rm =
    not (mode == 0 && not (disp == 0)) && (rm == 4 || (base % 8 == rm && alone))

abbrev pub address_may_fit : Address → ℕ → ℕ → Bool
address_may_fit address mode rm =
    if address.rip then mode == 0 && rm == 5
    else base_may_fit address.base (is_none address.index) address.disp mode rm

abbrev pub rm_may_fit : Place → ℕ → ℕ → Bool
rm_may_fit (Mem address) mode rm = address_may_fit address mode rm
rm_may_fit _ mode rm = true

-- the bytes of ModRM with this in mod and reg, and those with this in mod
unfoldable pub by_field : List ℕ → Form → List ℕ → ℕ → List (List ℕ)
by_field stem form tail field = flat_map (λ rm. by_modrm stem form tail (8 * field + rm)) (range_with_len 0 8)

unfoldable pub by_mode : List ℕ → Form → List ℕ → ℕ → List (List ℕ)
by_mode stem form tail mode = flat_map (λ reg. by_field stem form tail (8 * mode + reg)) (range_with_len 0 8)
