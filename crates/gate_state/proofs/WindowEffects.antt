-- The effect of each instruction of the gates that runs while WP may be clear, by one equation.
use Rattle.std.proofs.Common.{◌≡◌, ℕ, ◌+◌, true, false, refl, List}
use Rattle.std.specs.Prelude.{bit_and, bit_or, slice_index, Some, None, Result, Ok, Err}
use Rattle.decode_fields.specs.declared.place.Place.TheVariants.{Reg}
use Rattle.nk_bits.specs.declared.control.Control.{Control}
use Rattle.nk_bits.specs.declared.access.Access.TheVariants as access
use Rattle.nk_bits.specs.declared.leaf.Target.{Target}
use Rattle.nk_bits.specs.Accesses.{accessed}
use Rattle.nk_bits.specs.Paging.{is_canonical}
use Rattle.nk_bits.specs.Translations.{Translations}
use Rattle.page_walk.specs.AccessPlans.{gathered}
use Rattle.page_walk.specs.MemoryAccess.{view_of}
use Rattle.x86_alu.specs.Bitwise.{logic_flags}
use Rattle.x86_alu.specs.Flags.{with_flag}
use Rattle.x86_alu.specs.SignedNumbers.{cut}
use Rattle.x86_regs.specs.declared.effects.Act.TheVariants as act
use Rattle.x86_regs.specs.declared.effects.Effect.{Effect}
use Rattle.x86_regs.specs.declared.faults.Fault.{Fault}
use Rattle.x86_regs.specs.declared.faults.Fault.TheVariants.{General}
use Rattle.x86_regs.specs.declared.registers.Regs.{Regs}
use Rattle.x86_regs.specs.Combinations.{condition_stands}
use Rattle.x86_regs.specs.Effects.{effect_of}
use Rattle.x86_regs.specs.Operands.{lowered, next_of, with_register, wrapped}
use Rattle.x86_regs.specs.OperandOutcomes.{going_on, is_cr0}
use Rattle.x86_regs.specs.Registers.{held, written}
use Rattle.gate_state.proofs.WindowRows.{cli, jmp, jz, mov_cr0_rax, mov_rax_cr0, mov_rsp, or_eax, push_rax, push_value, test_eax}

-- it goes on with these registers, and neither writes nor asks for anything
abbrev pub quiet : Regs → Result Effect Fault
quiet regs = Ok (record { regs = regs; write = None; act = act.Quiet })

-- eight bytes of a value below RSP, and the registers behind a push
abbrev pub below_rsp : Regs → ℕ
below_rsp regs = lowered (slice_index regs.general 4) 8

abbrev pub pushing : Regs → ℕ → ℕ → Target → Result Effect Fault
pushing regs size value target = Ok (record {
  regs = going_on regs (with_register regs.general 4 (below_rsp regs)) regs.flags (next_of regs size);
  write = Some (record { va = below_rsp regs; width = 8; value = value; target = target });
  act = act.Quiet;
})

module _ (size : ℕ) (regs : Regs) (control : Control) (m : List ℕ) (tlb : Translations) (cpl : regs.cpl ≡ 0) where
  pub cli_effect : (effect_of cli size regs control m tlb).answer
      ≡ quiet (going_on regs regs.general (with_flag 9 false regs.flags) (next_of regs size))
  unfolding effect_of gathered
  cli_effect = rw cpl refl

  pub mov_effect : (value : ℕ) → (effect_of (mov_rsp value) size regs control m tlb).answer
      ≡ quiet (going_on regs (with_register regs.general 4 (cut 64 value)) regs.flags (next_of regs size))
  unfolding effect_of gathered
  mov_effect value = rw cpl refl

  pub read_effect : (effect_of mov_rax_cr0 size regs control m tlb).answer
      ≡ quiet (going_on regs (with_register regs.general 0 control.cr0) regs.flags (next_of regs size))
  unfolding effect_of gathered
  read_effect = rw cpl refl

  pub or_effect : (effect_of or_eax size regs control m tlb).answer
      ≡ quiet (going_on regs (written regs.general (Reg 0) 32 (bit_or (cut 32 (held regs.general (Reg 0) 32)) 0x10000))
      (logic_flags 32 (bit_or (cut 32 (held regs.general (Reg 0) 32)) 0x10000) regs.flags) (next_of regs size))
  unfolding effect_of gathered
  or_effect = rw cpl refl

  pub test_effect : (effect_of test_eax size regs control m tlb).answer
      ≡ quiet (going_on regs regs.general
      (logic_flags 32 (bit_and (cut 32 (held regs.general (Reg 0) 32)) 0x10000) regs.flags) (next_of regs size))
  unfolding effect_of gathered
  test_effect = rw cpl refl

  pub load_row : is_cr0 (cut 64 (held regs.general (Reg 0) 64)) ≡ true
      → (effect_of mov_cr0_rax size regs control m tlb).answer
      ≡ Ok (record {
        regs = going_on regs regs.general regs.flags (next_of regs size);
        write = None;
        act = act.Cr0 (cut 64 (held regs.general (Reg 0) 64));
      })
  unfolding effect_of gathered
  load_row admitted = rw (cpl, admitted) refl

  pub load_refused : is_cr0 (cut 64 (held regs.general (Reg 0) 64)) ≡ false
      → (effect_of mov_cr0_rax size regs control m tlb).answer ≡ Err (General 0)
  unfolding effect_of gathered
  load_refused refused = rw (cpl, refused) refl

  pub jz_effect : (by : ℕ) → condition_stands 4 regs.flags ≡ true
      → is_canonical (wrapped (next_of regs size + by)) ≡ true
      → (effect_of (jz by) size regs control m tlb).answer
      ≡ quiet (going_on regs regs.general regs.flags (wrapped (next_of regs size + by)))
  unfolding effect_of gathered
  jz_effect by taken canonical = rw (cpl, taken, canonical) refl

  pub jmp_effect : (by : ℕ) → is_canonical (wrapped (next_of regs size + by)) ≡ true
      → (effect_of (jmp by) size regs control m tlb).answer
      ≡ quiet (going_on regs regs.general regs.flags (wrapped (next_of regs size + by)))
  unfolding effect_of gathered
  jmp_effect by canonical = rw (cpl, canonical) refl

  pub push_value_effect : (value : ℕ) (target : Target)
      → (accessed (view_of m control 0) access.Write tlb (below_rsp regs) 8).answer ≡ Ok target
      → (effect_of (push_value value) size regs control m tlb).answer
      ≡ pushing regs size (cut 64 value) target
  unfolding effect_of gathered
  push_value_effect value target check = rw (cpl, check) refl

  pub push_rax_effect : (target : Target)
      → (accessed (view_of m control 0) access.Write tlb (below_rsp regs) 8).answer ≡ Ok target
      → (effect_of push_rax size regs control m tlb).answer
      ≡ pushing regs size (cut 64 (held regs.general (Reg 0) 64)) target
  unfolding effect_of gathered
  push_rax_effect target check = rw (cpl, check) refl
