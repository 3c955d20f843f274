-- What holds of every operand that ModRM names: which registers there are.
use Rattle.std.specs.Prelude.{◌<◌, ⊤, IfSome}
use Rattle.decode_fields.specs.declared.place.Address.{Address}
use Rattle.decode_fields.specs.declared.place.Place.{Place}
use Rattle.decode_fields.specs.declared.place.Place.TheVariants.{Nothing, Reg, High, Mem, Value}

-- an address adds two of the sixteen registers at most
pub record IsAddress (address : Address) : Type 0 where
  pub base : IfSome address.base (λ number. number < 16)
  pub index : IfSome address.index (λ number. number < 16)

-- a place has the number of one of sixteen registers, or of the four high byte registers
abbrev pub IsPlace : Place → Type 0
IsPlace Nothing = ⊤
IsPlace (Reg number) = number < 16
IsPlace (High number) = number < 4
IsPlace (Mem address) = IsAddress address
IsPlace Value = ⊤

-- a high byte register
abbrev pub IsHigh : Place → Type 0
IsHigh Nothing = ⊥
IsHigh (Reg number) = ⊥
IsHigh (High number) = ⊤
IsHigh (Mem address) = ⊥
IsHigh Value = ⊥

-- a place that needs no REX: one of eight registers, if it is a register
abbrev pub IsLow : Place → Type 0
IsLow Nothing = ⊤
IsLow (Reg number) = number < 8
IsLow (High number) = ⊤
IsLow (Mem address) = ⊤
IsLow Value = ⊤
