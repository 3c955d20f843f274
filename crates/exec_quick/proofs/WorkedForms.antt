-- A quick form at worked values: ADD RAX, [RBX + RCX * 4 + 8], of five bytes; and what it doesn't stand for.
use Rattle.std.proofs.Common.{◌≡◌, ℕ, true, false, refl, ap, arith}
use Rattle.std.specs.Prelude.{None, Some}
use Rattle.decode_fields.specs.declared.place.Place.TheVariants.{Reg, Mem}
use Rattle.decode_fields.specs.declared.parts.Rep.TheVariants.{No}
use Rattle.x86_decode.specs.declared.instruction.Decoded.{Decoded}
use Rattle.x86_decode.specs.declared.instruction.Decoded.TheVariants.{Whole}
use Rattle.x86_decode.specs.declared.operation.Op.TheVariants as op
use Rattle.exec_quick.specs.declared.quick.Kind.TheVariants as kind
use Rattle.exec_quick.specs.declared.quick.Quick.{Quick}
use Rattle.exec_quick.specs.QuickForms.{StandsFor, instruction_of}

abbrev add_of_memory : Quick
add_of_memory = record {
  kind = kind.CombineLoad;
  op = op.Add;
  width = 64;
  size = 5;
  at = 0;
  to = 0;
  from = 17;
  base = 3;
  index = 1;
  scale = 4;
  follows_rip = false;
  displacement = 8;
  value = 0;
  rep = No;
}

-- it means that instruction
means : instruction_of add_of_memory ≡ record {
  op = op.Add;
  width = 64;
  to = Reg 0;
  from = Mem (record { base = Some 3; index = Some 1; scale = 4; disp = 8; rip = false });
  value = 0;
  rep = No;
  lock = false;
}
means = refl

-- without a base and an index, from the next instruction on
means_by_rip : instruction_of (record add_of_memory { base = 16; index = 16; scale = 1; follows_rip = true }) ≡ record {
  op = op.Add;
  width = 64;
  to = Reg 0;
  from = Mem (record { base = None; index = None; scale = 1; disp = 8; rip = true });
  value = 0;
  rep = No;
  lock = false;
}
means_by_rip = refl

-- it doesn't stand for the same instruction of another length
abbrev length_of : Decoded → ℕ
length_of (Whole instr size) = size
length_of _ = 0

not_of_another_length : StandsFor add_of_memory (Whole (instruction_of add_of_memory) 4) → ⊥
not_of_another_length it =
    let same : 4 ≡ 5 = ap length_of it.means in absurd (omega (arith, same))
