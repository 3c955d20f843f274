-- The text of an instruction, which is `OP.W TO FROM VALUE` behind the words of its prefixes, and which instructions have
-- one.
use Rattle.std.specs.Prelude.{◌≡◌, ℕ, ◌<◌, ◌^◌, Bool, true, false, ⊤, if◌then◌else◌, Option, Some, None, IfSome, List, [], ◌++◌, codes, decimal}
use Rattle.std.specs.Fmt.{digits}
use Rattle.decode_fields.specs.declared.parts.Rep.{Rep}
use Rattle.decode_fields.specs.declared.parts.Rep.TheVariants.{No, WhileEqual, WhileNot}
use Rattle.decode_fields.specs.declared.place.Address.{Address}
use Rattle.decode_fields.specs.declared.place.Place.{Place}
use Rattle.decode_fields.specs.declared.place.Place.TheVariants.{Nothing, Reg, High, Mem, Value}
use Rattle.x86_decode.specs.declared.instruction.Instr.{Instr}
use Rattle.x86_decode.specs.WellFormed.{HasCondition}
use Rattle.asm_text.specs.Operations.{op_name}

-- hexadecimal digits in lower case, with no zeros in front
abbrev pub hex_digits : ℕ → List ℕ
hex_digits n = digits 16 false n

-- a register that an address adds, by its number
abbrev pub register_text : Option ℕ → List ℕ
register_text None = codes "-"
register_text (Some number) = codes "r" ++ decimal number

-- what an address starts from
abbrev pub base_text : Address → List ℕ
base_text address = if address.rip then codes "rip" else register_text address.base

-- [BASE,INDEX,SCALE,DISP]
abbrev pub address_text : Address → List ℕ
address_text address =
    codes "[" ++ (base_text address ++ (codes "," ++ (register_text address.index ++ (codes ","
    ++ (decimal address.scale ++ (codes "," ++ (hex_digits address.disp ++ codes "]")))))))

-- where an operand stands
unfoldable pub place_text : Place → List ℕ
place_text Nothing = codes "-"
place_text (Reg number) = codes "r" ++ decimal number
place_text (High number) = codes "h" ++ decimal number
place_text (Mem address) = address_text address
place_text Value = codes "value"

abbrev pub lock_text : Bool → List ℕ
lock_text true = codes "lock "
lock_text false = []

abbrev pub rep_text : Rep → List ℕ
rep_text No = []
rep_text WhileEqual = codes "repe "
rep_text WhileNot = codes "repne "

-- OP.W TO FROM VALUE, behind the prefixes
unfoldable pub instr_text : Instr → List ℕ
instr_text instr =
    lock_text instr.lock ++ (rep_text instr.rep ++ (op_name instr.op ++ (codes "." ++ (decimal instr.width ++ (codes " "
    ++ (place_text instr.to ++ (codes " " ++ (place_text instr.from ++ (codes " " ++ hex_digits instr.value)))))))))

-- an address has its numbers' bits, and no base where it starts from the next instruction
pub record HasAddressText (address : Address) : Type 0 where
  pub base : IfSome address.base (λ number. number < 2 ^ 8)
  pub index : IfSome address.index (λ number. number < 2 ^ 8)
  pub scale : address.scale < 2 ^ 8
  pub disp : address.disp < 2 ^ 64
  pub alone : address.rip ≡ true → address.base ≡ None

abbrev pub HasPlaceText : Place → Type 0
HasPlaceText Nothing = ⊤
HasPlaceText (Reg number) = number < 2 ^ 8
HasPlaceText (High number) = number < 2 ^ 8
HasPlaceText (Mem address) = HasAddressText address
HasPlaceText Value = ⊤

-- an instruction has a text: its condition code is one of sixteen, and its numbers have their bits
pub record HasText (instr : Instr) : Type 0 where
  pub condition : HasCondition instr.op
  pub width : instr.width < 2 ^ 8
  pub to : HasPlaceText instr.to
  pub from : HasPlaceText instr.from
  pub value : instr.value < 2 ^ 64

-- the text is the instruction's
pub record IsRead (text : List ℕ) (instr : Instr) : Type 0 where
  pub writable : HasText instr
  pub is_text : instr_text instr ≡ text
