-- The effect of each instruction of the gates that a call runs with WP set, by one equation.
use Rattle.std.proofs.Common.{◌≡◌, ℕ, false, refl, List}
use Rattle.std.specs.Prelude.{bit_and}
use Rattle.decode_fields.specs.declared.place.Place.TheVariants.{Reg}
use Rattle.nk_bits.specs.declared.control.Control.{Control}
use Rattle.nk_bits.specs.Translations.{Translations}
use Rattle.page_walk.specs.AccessPlans.{gathered}
use Rattle.x86_alu.specs.Bitwise.{logic_flags}
use Rattle.x86_alu.specs.SignedNumbers.{cut}
use Rattle.x86_regs.specs.declared.registers.Regs.{Regs}
use Rattle.x86_regs.specs.Combinations.{condition_stands}
use Rattle.x86_regs.specs.Effects.{effect_of}
use Rattle.x86_regs.specs.Operands.{next_of, with_register}
use Rattle.x86_regs.specs.OperandOutcomes.{going_on}
use Rattle.x86_regs.specs.Registers.{held, written}
use Rattle.gate_state.proofs.CallThroughRows.{and_eax, copy}
use Rattle.gate_state.proofs.WindowEffects.{quiet}
use Rattle.gate_state.proofs.WindowRows.{jz}

module _ (size : ℕ) (regs : Regs) (control : Control) (m : List ℕ) (tlb : Translations) (cpl : regs.cpl ≡ 0) where
  pub copy_effect : (to from : ℕ) → (effect_of (copy to from) size regs control m tlb).answer
      ≡ quiet (going_on regs (with_register regs.general to (cut 64 (held regs.general (Reg from) 64))) regs.flags
      (next_of regs size))
  unfolding effect_of gathered
  copy_effect to from = rw cpl refl

  pub and_effect : (effect_of and_eax size regs control m tlb).answer
      ≡ quiet (going_on regs
      (written regs.general (Reg 0) 32 (bit_and (cut 32 (held regs.general (Reg 0) 32)) 0xFFFEFFFF))
      (logic_flags 32 (bit_and (cut 32 (held regs.general (Reg 0) 32)) 0xFFFEFFFF) regs.flags) (next_of regs size))
  unfolding effect_of gathered
  and_effect = rw cpl refl

  -- JZ isn't taken where ZF is clear
  pub jz_past : (by : ℕ) → condition_stands 4 regs.flags ≡ false
      → (effect_of (jz by) size regs control m tlb).answer
      ≡ quiet (going_on regs regs.general regs.flags (next_of regs size))
  unfolding effect_of gathered
  jz_past by stays = rw (cpl, stays) refl
