-- The six turns of a call up to the body: each leads from its stage to the next.
use Rattle.std.proofs.Common.{◌≡◌, ℕ, ◌%◌, ◌^◌, true, false, List, refl, ap, ◌∙◌, arith}
use Rattle.std.specs.Prelude.{bit_and}
use Rattle.decode_fields.specs.declared.place.Place.TheVariants.{Reg}
use Rattle.nk_bits.specs.declared.kind.Kind.{Kind}
use Rattle.nk_bits.specs.Accesses.{wp_of}
use Rattle.x86_alu.specs.Bitwise.{logic_flags}
use Rattle.x86_alu.specs.Flags.{with_flag}
use Rattle.x86_alu.specs.SignedNumbers.{cut}
use Rattle.x86_regs.specs.OperandOutcomes.{is_cr0}
use Rattle.x86_regs.specs.Operands.{next_of, with_register}
use Rattle.x86_regs.specs.Registers.{held, written}
use Rattle.cpu_step.specs.Processor.{Processor}
use Rattle.cpu_step.specs.Turns.{kept_in_cr0}
use Rattle.gate_state.specs.GuardedStates.{AreKinds, IsAdmitted}
use Rattle.gate_state.specs.MachineStates.{MachineState, Opening}
use Rattle.gate_state.specs.MachineSteps.{after_turn}
use Rattle.gate_state.proofs.ControlWord.{raised_cr0}
use Rattle.gate_state.proofs.LowerLaws.{LowerLaws}
use Rattle.gate_state.proofs.TurnFacts.{TurnFacts}
use Rattle.gate_state.proofs.CallThroughArrivals.{arrives, copied, going_with, next_rip}
use Rattle.gate_state.proofs.CallThroughEffects.{and_effect, copy_effect}
use Rattle.gate_state.proofs.CallThroughRows.{and_eax, call_rows, copy}
use Rattle.gate_state.proofs.CallThroughStages.{IsAt, Keeping, Reading, Masking, Clearing, Closing, Stacking, Serving}
use Rattle.gate_state.proofs.CallThroughTurn.{load_turn, quiet_turn}
use Rattle.gate_state.proofs.CallThroughWords.{IsLowered, interrupt_stays, low_other, lowered_cr0, register_other}
use Rattle.gate_state.proofs.WindowEffects.{cli_effect, load_row, mov_effect, read_effect}
use Rattle.gate_state.proofs.WindowKept.{low_same, register_same}
use Rattle.gate_state.proofs.WindowRows.{cli, mov_cr0_rax, mov_rax_cr0, mov_rsp}

module _ (laws : LowerLaws) (o : Opening) (admitted : IsAdmitted o)
    (facts : (ks : List Kind) → AreKinds o ks → TurnFacts o ks) (s t : MachineState) where
  -- R10 keeps RSP
  pub from_keeping : IsAt o Keeping s t → IsAt o Reading s (after_turn t)
  from_keeping at =
      let p : Processor = t.processor in
      let general : List ℕ = with_register p.regs.general 10 (cut 64 (held p.regs.general (Reg 4) 64)) in
      arrives at
      (quiet_turn laws o admitted facts t 2 (copy 10 4) 3 at.guarded at.stands call_rows.row_2 refl
      general p.regs.flags (next_of p.regs 3)
      (λ tlb. copy_effect 3 p.regs p.control t.memory tlb at.stands.supervisor 10 4))
      (next_rip p.regs 2 3 5 at.stands.rip refl) at.stands.uninterrupted refl (
        going_with general p.regs.flags (next_of p.regs 3) at.holds.0
            (λ k a b c. register_other p.regs.general 10 (cut 64 (held p.regs.general (Reg 4) 64)) k c),
        copied p.regs 10 4 at.guarded.control.registers (omega arith) ∙ at.holds.1,
      )

  -- RAX takes CR0
  pub from_reading : IsAt o Reading s t → IsAt o Masking s (after_turn t)
  from_reading at =
      let p : Processor = t.processor in
      let general : List ℕ = with_register p.regs.general 0 p.control.cr0 in
      arrives at
      (quiet_turn laws o admitted facts t 5 mov_rax_cr0 3 at.guarded at.stands call_rows.row_5 refl
      general p.regs.flags (next_of p.regs 3)
      (λ tlb. read_effect 3 p.regs p.control t.memory tlb at.stands.supervisor))
      (next_rip p.regs 5 3 8 at.stands.rip refl) at.stands.uninterrupted refl (
        going_with general p.regs.flags (next_of p.regs 3) at.holds.0
            (λ k a b c. register_other p.regs.general 0 p.control.cr0 k a),
        register_other p.regs.general 0 p.control.cr0 10 (λ e. absurd (omega arith)) ∙ at.holds.1,
        register_same p.regs.general 0 p.control.cr0 at.guarded.control.registers.count (omega arith)
            ∙ (raised_cr0 p.control.cr0 at.guarded.control.cr0).whole,
      )

  -- WP is masked out
  pub from_masking : IsAt o Masking s t → IsAt o Clearing s (after_turn t)
  from_masking at =
      let p : Processor = t.processor in
      let result : ℕ = bit_and (cut 32 (held p.regs.general (Reg 0) 32)) 0xFFFEFFFF in
      let general : List ℕ = written p.regs.general (Reg 0) 32 result in
      let flags : ℕ = logic_flags 32 result p.regs.flags in
      let lowered : result % 2 ^ 32 ≡ with_flag 16 false p.control.cr0 =
      ap (λ a. bit_and (cut 32 (a % 2 ^ 32)) 0xFFFEFFFF % 2 ^ 32) at.holds.2
      ∙ (lowered_cr0 p.control.cr0 at.guarded.control.cr0).lowered in
      arrives at
      (quiet_turn laws o admitted facts t 8 and_eax 5 at.guarded at.stands call_rows.row_8 refl
      general flags (next_of p.regs 5)
      (λ tlb. and_effect 5 p.regs p.control t.memory tlb at.stands.supervisor))
      (next_rip p.regs 8 5 13 at.stands.rip refl)
      (interrupt_stays laws 32 result p.regs.flags ∙ at.stands.uninterrupted) refl (
        going_with general flags (next_of p.regs 5) at.holds.0
            (λ k a b c. low_other p.regs.general result k a),
        low_other p.regs.general result 10 (λ e. absurd (omega arith)) ∙ at.holds.1,
        low_same p.regs.general result at.guarded.control.registers.count ∙ lowered,
      )

  -- CR0 loses WP
  pub from_clearing : IsAt o Clearing s t → IsAt o Closing s (after_turn t)
  from_clearing at =
      let p : Processor = t.processor in
      let lower : IsLowered p.control.cr0 = lowered_cr0 p.control.cr0 at.guarded.control.cr0 in
      let value : ℕ = cut 64 (held p.regs.general (Reg 0) 64) in
      let is : value ≡ with_flag 16 false p.control.cr0 =
      ap (λ a. cut 64 (a % 2 ^ 64)) at.holds.2 ∙ lower.lowered_whole in
      let admitted_load : is_cr0 value ≡ true = ap is_cr0 is ∙ lower.admitted in
      arrives at
      (load_turn laws o admitted facts t 13 mov_cr0_rax 3 at.guarded at.stands call_rows.row_13 refl
      value p.regs.general p.regs.flags (next_of p.regs 3)
      (λ tlb. load_row 3 p.regs p.control t.memory tlb at.stands.supervisor admitted_load))
      (next_rip p.regs 13 3 16 at.stands.rip refl) at.stands.uninterrupted refl (
        going_with p.regs.general p.regs.flags (next_of p.regs 3) at.holds.0 (λ k a b c. refl),
        at.holds.1,
        ap (λ v. wp_of (kept_in_cr0 v)) is ∙ lower.clear,
      )

  -- IF is cleared again
  pub from_closing : IsAt o Closing s t → IsAt o Stacking s (after_turn t)
  from_closing at =
      let p : Processor = t.processor in
      let flags : ℕ = with_flag 9 false p.regs.flags in
      arrives at
      (quiet_turn laws o admitted facts t 16 cli 1 at.guarded at.stands call_rows.row_16 refl
      p.regs.general flags (next_of p.regs 1)
      (λ tlb. cli_effect 1 p.regs p.control t.memory tlb at.stands.supervisor))
      (next_rip p.regs 16 1 17 at.stands.rip refl) (laws.flag.same 9 p.regs.flags false) refl (
        going_with p.regs.general flags (next_of p.regs 1) at.holds.0 (λ k a b c. refl),
        at.holds.1,
        at.holds.2,
      )

  -- RSP takes the nested stack
  pub from_stacking : IsAt o Stacking s t → IsAt o Serving s (after_turn t)
  from_stacking at =
      let p : Processor = t.processor in
      let value : ℕ = cut 64 0xFFFFFF8000005000 in
      let general : List ℕ = with_register p.regs.general 4 value in
      arrives at
      (quiet_turn laws o admitted facts t 17 (mov_rsp 0xFFFFFF8000005000) 10 at.guarded at.stands call_rows.row_17 refl
      general p.regs.flags (next_of p.regs 10)
      (λ tlb. mov_effect 10 p.regs p.control t.memory tlb at.stands.supervisor 0xFFFFFF8000005000))
      (next_rip p.regs 17 10 27 at.stands.rip refl) at.stands.uninterrupted refl (
        going_with general p.regs.flags (next_of p.regs 10) at.holds.0
            (λ k a b c. register_other p.regs.general 4 value k b),
        register_other p.regs.general 4 value 10 (λ e. absurd (omega arith)) ∙ at.holds.1,
        at.holds.2,
      )
