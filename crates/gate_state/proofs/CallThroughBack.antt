-- The seven turns of a call behind the body: each leads from its stage to the next.
use Rattle.std.proofs.Common.{◌≡◌, ℕ, ◌-◌, ◌%◌, ◌^◌, true, false, List, refl, sym, ap, subst, ◌∙◌, arith}
use Rattle.std.specs.Prelude.{◌==◌, IfSome, bit_and, bit_or, slice_index}
use Rattle.decode_fields.specs.declared.place.Place.TheVariants.{Reg}
use Rattle.nk_bits.specs.declared.kind.Kind.{Kind}
use Rattle.nk_bits.specs.Accesses.{wp_of}
use Rattle.x86_alu.specs.Bitwise.{logic_flags}
use Rattle.x86_alu.specs.Flags.{with_flag}
use Rattle.x86_alu.specs.SignedNumbers.{bit, cut}
use Rattle.x86_regs.specs.Combinations.{condition_stands}
use Rattle.x86_regs.specs.OperandOutcomes.{is_cr0}
use Rattle.x86_regs.specs.Operands.{next_of, rdx, with_register}
use Rattle.x86_regs.specs.Registers.{held, written}
use Rattle.cpu_step.specs.Processor.{Processor}
use Rattle.cpu_step.specs.Turns.{kept_in_cr0}
use Rattle.gate_state.specs.GuardedStates.{AreKinds, IsAdmitted}
use Rattle.gate_state.specs.MachineStates.{MachineState, Opening}
use Rattle.gate_state.specs.MachineSteps.{after_turn, answer_in}
use Rattle.gate_state.proofs.ControlWord.{IsRaised, raised_cr0}
use Rattle.gate_state.proofs.LowerLaws.{LowerLaws}
use Rattle.gate_state.proofs.TurnFacts.{TurnFacts}
use Rattle.gate_state.proofs.CallThroughArrivals.{arrives, copied, next_rip}
use Rattle.gate_state.proofs.CallThroughEffects.{copy_effect, jz_past}
use Rattle.gate_state.proofs.CallThroughRows.{call_rows, copy}
use Rattle.gate_state.proofs.CallThroughStages.{HasAnswer, IsAt, Rereading, Raising, Setting, Testing, Jumping, Restoring, Answering, Returning}
use Rattle.gate_state.proofs.CallThroughTurn.{load_turn, quiet_turn}
use Rattle.gate_state.proofs.CallThroughWords.{interrupt_stays, low_other, lowered_cr0, register_other, wp_tested, zero_is}
use Rattle.gate_state.proofs.WindowEffects.{load_row, or_effect, read_effect, test_effect}
use Rattle.gate_state.proofs.WindowKept.{low_same, register_same}
use Rattle.gate_state.proofs.WindowRows.{jz, mov_cr0_rax, mov_rax_cr0, or_eax, test_eax}

-- JZ isn't taken where ZF is clear
zero_condition : (flags : ℕ) → bit flags 6 ≡ false → condition_stands 4 flags ≡ false
unfolding condition_stands
zero_condition flags clear = clear

-- the answer in a register that holds what the one did, where RDX stays
answer_stays : {s : MachineState} (from to : ℕ) (general later : List ℕ) → HasAnswer s from general
    → slice_index later to ≡ slice_index general from → slice_index later rdx ≡ slice_index general rdx
    → HasAnswer s to later
answer_stays {s} from to general later has same second = record {
  value = λ few. same ∙ has.value few;
  place = subst (λ v. IfSome (answer_in s).place (λ place. v ≡ place)) (sym second) has.place;
}

module _ (laws : LowerLaws) (o : Opening) (admitted : IsAdmitted o)
    (facts : (ks : List Kind) → AreKinds o ks → TurnFacts o ks) (s t : MachineState) where
  -- RAX takes CR0
  pub from_rereading : IsAt o Rereading s t → IsAt o Raising s (after_turn t)
  from_rereading at =
      let p : Processor = t.processor in
      let general : List ℕ = with_register p.regs.general 0 p.control.cr0 in
      arrives at
      (quiet_turn laws o admitted facts t 29 mov_rax_cr0 3 at.guarded at.stands call_rows.row_29 refl
      general p.regs.flags (next_of p.regs 3)
      (λ tlb. read_effect 3 p.regs p.control t.memory tlb at.stands.supervisor))
      (next_rip p.regs 29 3 32 at.stands.rip refl) at.stands.uninterrupted refl (
        answer_stays 9 9 p.regs.general general at.holds.0
            (register_other p.regs.general 0 p.control.cr0 9 (λ e. absurd (omega arith)))
            (register_other p.regs.general 0 p.control.cr0 2 (λ e. absurd (omega arith))),
        register_other p.regs.general 0 p.control.cr0 10 (λ e. absurd (omega arith)) ∙ at.holds.1,
        register_same p.regs.general 0 p.control.cr0 at.guarded.control.registers.count (omega arith)
            ∙ (raised_cr0 p.control.cr0 at.guarded.control.cr0).whole,
      )

  -- WP is set in it
  pub from_raising : IsAt o Raising s t → IsAt o Setting s (after_turn t)
  from_raising at =
      let p : Processor = t.processor in
      let result : ℕ = bit_or (cut 32 (held p.regs.general (Reg 0) 32)) 0x10000 in
      let general : List ℕ = written p.regs.general (Reg 0) 32 result in
      let flags : ℕ = logic_flags 32 result p.regs.flags in
      let raised : result % 2 ^ 32 ≡ with_flag 16 true p.control.cr0 =
      ap (λ a. bit_or (cut 32 (a % 2 ^ 32)) 0x10000 % 2 ^ 32) at.holds.2
      ∙ (raised_cr0 p.control.cr0 at.guarded.control.cr0).raised in
      arrives at
      (quiet_turn laws o admitted facts t 32 or_eax 5 at.guarded at.stands call_rows.row_32 refl
      general flags (next_of p.regs 5)
      (λ tlb. or_effect 5 p.regs p.control t.memory tlb at.stands.supervisor))
      (next_rip p.regs 32 5 37 at.stands.rip refl)
      (interrupt_stays laws 32 result p.regs.flags ∙ at.stands.uninterrupted) refl (
        answer_stays 9 9 p.regs.general general at.holds.0
            (low_other p.regs.general result 9 (λ e. absurd (omega arith)))
            (low_other p.regs.general result 2 (λ e. absurd (omega arith))),
        low_other p.regs.general result 10 (λ e. absurd (omega arith)) ∙ at.holds.1,
        low_same p.regs.general result at.guarded.control.registers.count ∙ raised,
      )

  -- CR0 gets WP
  pub from_setting : IsAt o Setting s t → IsAt o Testing s (after_turn t)
  from_setting at =
      let p : Processor = t.processor in
      let raised : IsRaised p.control.cr0 = raised_cr0 p.control.cr0 at.guarded.control.cr0 in
      let value : ℕ = cut 64 (held p.regs.general (Reg 0) 64) in
      let is : value ≡ with_flag 16 true p.control.cr0 = ap (λ a. cut 64 (a % 2 ^ 64)) at.holds.2 ∙ raised.raised_whole in
      let admitted_load : is_cr0 value ≡ true = ap is_cr0 is ∙ raised.admitted in
      arrives at
      (load_turn laws o admitted facts t 37 mov_cr0_rax 3 at.guarded at.stands call_rows.row_37 refl
      value p.regs.general p.regs.flags (next_of p.regs 3)
      (λ tlb. load_row 3 p.regs p.control t.memory tlb at.stands.supervisor admitted_load))
      (next_rip p.regs 37 3 40 at.stands.rip refl) at.stands.uninterrupted refl (
        at.holds.0,
        at.holds.1,
        ap (λ v. wp_of (kept_in_cr0 v)) is ∙ raised.set,
        ap (λ a. wp_tested a == 0) at.holds.2 ∙ (lowered_cr0 p.control.cr0 at.guarded.control.cr0).found,
      )

  -- the test finds WP
  pub from_testing : IsAt o Testing s t → IsAt o Jumping s (after_turn t)
  from_testing at =
      let p : Processor = t.processor in
      let result : ℕ = bit_and (cut 32 (held p.regs.general (Reg 0) 32)) 0x10000 in
      let flags : ℕ = logic_flags 32 result p.regs.flags in
      arrives at
      (quiet_turn laws o admitted facts t 40 test_eax 5 at.guarded at.stands call_rows.row_40 refl
      p.regs.general flags (next_of p.regs 5)
      (λ tlb. test_effect 5 p.regs p.control t.memory tlb at.stands.supervisor))
      (next_rip p.regs 40 5 45 at.stands.rip refl)
      (interrupt_stays laws 32 result p.regs.flags ∙ at.stands.uninterrupted) refl
      (at.holds.0, at.holds.1, at.holds.2, zero_is laws 32 result p.regs.flags ∙ at.holds.3)

  -- so the jump back isn't taken
  pub from_jumping : IsAt o Jumping s t → IsAt o Restoring s (after_turn t)
  from_jumping at =
      let p : Processor = t.processor in
      arrives at
      (quiet_turn laws o admitted facts t 45 (jz (2 ^ 64 - 18)) 2 at.guarded at.stands call_rows.row_45 refl
      p.regs.general p.regs.flags (next_of p.regs 2)
      (λ tlb. jz_past 2 p.regs p.control t.memory tlb at.stands.supervisor (2 ^ 64 - 18)
      (zero_condition p.regs.flags at.holds.3)))
      (next_rip p.regs 45 2 47 at.stands.rip refl) at.stands.uninterrupted refl
      (at.holds.0, at.holds.1, at.holds.2)

  -- RSP comes back
  pub from_restoring : IsAt o Restoring s t → IsAt o Answering s (after_turn t)
  from_restoring at =
      let p : Processor = t.processor in
      let value : ℕ = cut 64 (held p.regs.general (Reg 10) 64) in
      let general : List ℕ = with_register p.regs.general 4 value in
      arrives at
      (quiet_turn laws o admitted facts t 47 (copy 4 10) 3 at.guarded at.stands call_rows.row_47 refl
      general p.regs.flags (next_of p.regs 3)
      (λ tlb. copy_effect 3 p.regs p.control t.memory tlb at.stands.supervisor 4 10))
      (next_rip p.regs 47 3 50 at.stands.rip refl) at.stands.uninterrupted refl (
        answer_stays 9 9 p.regs.general general at.holds.0
            (register_other p.regs.general 4 value 9 (λ e. absurd (omega arith)))
            (register_other p.regs.general 4 value 2 (λ e. absurd (omega arith))),
        copied p.regs 4 10 at.guarded.control.registers (omega arith) ∙ at.holds.1,
        at.holds.2,
      )

  -- RAX takes the answer
  pub from_answering : IsAt o Answering s t → IsAt o Returning s (after_turn t)
  from_answering at =
      let p : Processor = t.processor in
      let value : ℕ = cut 64 (held p.regs.general (Reg 9) 64) in
      let general : List ℕ = with_register p.regs.general 0 value in
      arrives at
      (quiet_turn laws o admitted facts t 50 (copy 0 9) 3 at.guarded at.stands call_rows.row_50 refl
      general p.regs.flags (next_of p.regs 3)
      (λ tlb. copy_effect 3 p.regs p.control t.memory tlb at.stands.supervisor 0 9))
      (next_rip p.regs 50 3 53 at.stands.rip refl) at.stands.uninterrupted refl (
        answer_stays 9 0 p.regs.general general at.holds.0
            (copied p.regs 0 9 at.guarded.control.registers (omega arith))
            (register_other p.regs.general 0 value 2 (λ e. absurd (omega arith))),
        register_other p.regs.general 0 value 4 (λ e. absurd (omega arith)) ∙ at.holds.1,
        at.holds.2,
      )
