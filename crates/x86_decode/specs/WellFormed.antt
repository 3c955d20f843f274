-- What holds of every instruction that is spelled: which widths, registers and conditions there are.
use Rattle.std.specs.Prelude.{◌≡◌, ◌⊎◌, ◌<◌, Bool, true, false, ⊤}
use Rattle.decode_fields.specs.Bounds.{IsHigh, IsPlace}
use Rattle.decode_fields.specs.Widths.{IsWidth}
use Rattle.x86_decode.specs.declared.instruction.Instr.{Instr}
use Rattle.x86_decode.specs.declared.operation.Op.{Op}
use Rattle.x86_decode.specs.declared.operation.Op.TheVariants.{J, Set, Cmov, Movzx8, Movsx8}

-- a condition is one of sixteen
abbrev pub HasCondition : Op → Type 0
HasCondition (J condition) = condition < 16
HasCondition (Set condition) = condition < 16
HasCondition (Cmov condition) = condition < 16
HasCondition _ = ⊤

-- the operations that take a byte and write a wider operand
abbrev pub extends_byte : Op → Bool
extends_byte Movzx8 = true
extends_byte Movsx8 = true
extends_byte _ = false

-- the width is one of four, operands are among the registers, and a high byte register is an operand of a byte form
-- alone
pub record IsWellFormed (instr : Instr) : Type 0 where
  pub width : IsWidth instr.width
  pub to : IsPlace instr.to
  pub from : IsPlace instr.from
  pub high_to : IsHigh instr.to → instr.width ≡ 8
  pub high_from : IsHigh instr.from → (instr.width ≡ 8) ⊎ (extends_byte instr.op ≡ true)
  pub condition : HasCondition instr.op
