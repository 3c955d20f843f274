-- What the parser makes of any text, word by word: of a text that an instruction has it makes the instruction, and of any
-- other something else.
use Rattle.std.specs.Prelude.{ℕ, ◌%◌, ◌==◌, Bool, if◌then◌else◌, Option, Some, None, List, [], codes, drop, map, take, slice_index, slice_index_or, unwrap_or}
use Rattle.std.specs.List.{position, position_or_len}
use Rattle.std.specs.Str.{bytes_eq}
use Rattle.decode_fields.specs.declared.parts.Rep.{Rep}
use Rattle.decode_fields.specs.declared.parts.Rep.TheVariants.{No, WhileEqual, WhileNot}
use Rattle.decode_fields.specs.declared.place.Address.{Address}
use Rattle.decode_fields.specs.declared.place.Place.{Place}
use Rattle.decode_fields.specs.declared.place.Place.TheVariants.{Nothing, Reg, High, Mem, Value}
use Rattle.text_lines.specs.Numerals.{numeral}
use Rattle.x86_decode.specs.declared.instruction.Instr.{Instr}
use Rattle.x86_decode.specs.declared.operation.Op.{Op}
use Rattle.x86_decode.specs.declared.operation.Op.TheVariants.{Add}
use Rattle.asm_text.specs.declared.operation.TheConstants.{ALL_OPS, OP_NAMES}

-- the names of all operations
unfoldable pub all_names : List (List ℕ)
all_names = map (λ name. name.now) OP_NAMES

abbrev pub name_at : ℕ → List ℕ
name_at place = slice_index_or all_names place []

-- the place of a name among all, and 0 for what is no name
unfoldable pub place_of_name : List ℕ → ℕ
place_of_name name = unwrap_or (position (λ other. bytes_eq other.now name) OP_NAMES) 0

-- the operation at a place among all
abbrev pub op_at : ℕ → Op
op_at place = slice_index_or ALL_OPS place Add

-- the operation of a name
abbrev pub op_named : List ℕ → Op
op_named name = op_at (place_of_name name)

-- the bytes up to the first of this value, and those behind it
unfoldable pub bytes_to : ℕ → List ℕ → List ℕ
bytes_to mark text = take (position_or_len (λ c. c == mark) text) text

unfoldable pub bytes_past : ℕ → List ℕ → List ℕ
bytes_past mark text = drop 1 (drop (position_or_len (λ c. c == mark) text) text)

abbrev pub byte_said : List ℕ → ℕ
byte_said word = unwrap_or (numeral 10 3 word) 0 % 256

abbrev pub number_said : List ℕ → ℕ
number_said word = unwrap_or (numeral 16 16 word) 0

-- `-`, or a letter and a number
abbrev pub register_said : List ℕ → Option ℕ
register_said word = if slice_index word 0 == 45 then None else Some (byte_said (drop 1 word))

abbrev pub is_next : List ℕ → Bool
is_next word = bytes_eq word (codes "rip")

abbrev pub base_said : List ℕ → Option ℕ
base_said word = if is_next word then None else register_said word

-- an address without the bracket in front
unfoldable pub address_said : List ℕ → Address
address_said text =
    let second = bytes_past 44 text in
    let third = bytes_past 44 second in
    record {
      base = base_said (bytes_to 44 text);
      index = register_said (bytes_to 44 second);
      scale = byte_said (bytes_to 44 third);
      disp = number_said (bytes_to 93 (bytes_past 44 third));
      rip = is_next (bytes_to 44 text);
    }

-- a place by the first byte of its word and the others
abbrev pub place_of_letter : ℕ → List ℕ → Place
place_of_letter letter rest =
    if letter == 118 then Value
    else if letter == 114 then Reg (byte_said rest)
    else if letter == 104 then High (byte_said rest)
    else if letter == 91 then Mem (address_said rest)
    else Nothing

unfoldable pub place_said : List ℕ → Place
place_said word = place_of_letter (slice_index word 0) (drop 1 word)

-- `lock ` in front, and what stands behind it
abbrev pub has_lock : List ℕ → Bool
has_lock text = bytes_eq (take 5 text) (codes "lock ")

abbrev pub behind_lock : List ℕ → List ℕ
behind_lock text = if has_lock text then drop 5 text else text

-- `repe ` or `repne ` in front, and what stands behind it
abbrev pub rep_said : List ℕ → Rep
rep_said text =
    if bytes_eq (take 5 text) (codes "repe ") then WhileEqual
    else if bytes_eq (take 6 text) (codes "repne ") then WhileNot
    else No

abbrev pub behind_rep : List ℕ → List ℕ
behind_rep text =
    if bytes_eq (take 5 text) (codes "repe ") then drop 5 text
    else if bytes_eq (take 6 text) (codes "repne ") then drop 6 text
    else text

-- OP.W TO FROM VALUE
unfoldable pub parsed_behind : Bool → Rep → List ℕ → Instr
parsed_behind lock rep text =
    let width = bytes_past 46 text in
    let to = bytes_past 32 width in
    let from = bytes_past 32 to in
    record {
      op = op_named (bytes_to 46 text);
      width = byte_said (bytes_to 32 width);
      to = place_said (bytes_to 32 to);
      from = place_said (bytes_to 32 from);
      value = number_said (bytes_past 32 from);
      rep = rep;
      lock = lock;
    }

-- behind the prefixes
unfoldable pub parsed : List ℕ → Instr
parsed text =
    let unlocked = behind_lock text in parsed_behind (has_lock text) (rep_said unlocked) (behind_rep unlocked)
