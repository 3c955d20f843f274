-- A turn leads from a stage of a call to the next one, where its registers meet what holds there; and what a register
-- holds that was written.
use Rattle.std.proofs.Common.{◌≡◌, ◌≢◌, ℕ, ◌+◌, ◌^◌, ◌<◌, false, List, sym, ap, subst, ◌∙◌, arith}
use Rattle.std.specs.Prelude.{slice_index}
use Rattle.decode_fields.specs.declared.place.Place.TheVariants.{Reg}
use Rattle.x86_alu.specs.SignedNumbers.{bit, cut}
use Rattle.x86_regs.specs.declared.registers.Regs.{Regs}
use Rattle.x86_regs.specs.Combinations.{interrupt_flag}
use Rattle.x86_regs.specs.EffectsKept.{AreRegisters}
use Rattle.x86_regs.specs.Operands.{next_of, rax, rsp, with_register, wrapped}
use Rattle.x86_regs.specs.OperandOutcomes.{going_on}
use Rattle.x86_regs.specs.Registers.{held}
use Rattle.nk_body.specs.NestedRecord.{Nested}
use Rattle.nk_bits.specs.KernelLayout.{gate_address}
use Rattle.gate_state.specs.MachineStates.{MachineState, Opening, nested_of}
use Rattle.gate_state.proofs.CallThroughStages.{HoldsAt, IsAt, IsGoing, Stage, offset_of, turns_of}
use Rattle.gate_state.proofs.CallThroughTurn.{IsTurned}
use Rattle.gate_state.proofs.WindowKept.{register_same}

-- behind an instruction of this size
pub next_rip : (regs : Regs) (offset size next : ℕ) → regs.rip ≡ gate_address + offset
    → wrapped (gate_address + offset + size) ≡ gate_address + next → next_of regs size ≡ gate_address + next
next_rip regs offset size next rip behind = ap (λ r. wrapped (r + size)) rip ∙ behind

-- the next stage
pub arrives : {o : Opening} {stage next : Stage} {s t after : MachineState} {general : List ℕ} {flags rip cr0 : ℕ}
    → IsAt o stage s t → IsTurned o t after general flags rip cr0 → rip ≡ gate_address + offset_of next
    → bit flags interrupt_flag ≡ false → turns_of stage + 1 ≡ turns_of next
    → HoldsAt next s (going_on t.processor.regs general flags rip) cr0 (nested_of t) → IsAt o next s after
arrives {o} {stage} {next} {s} {t} {after} {general} {flags} {rip} {cr0} at turned there clear count holds = record {
  guarded = turned.guarded;
  stands = record {
    supervisor = ap (λ (r : Regs). r.cpl) turned.regs ∙ at.stands.supervisor;
    runs = turned.runs;
    uninterrupted = ap (λ (r : Regs). bit r.flags interrupt_flag) turned.regs ∙ clear;
    rip = ap (λ (r : Regs). r.rip) turned.regs ∙ there;
  };
  holds =
      subst (λ (nk : Nested). HoldsAt next s after.processor.regs after.processor.control.cr0 nk) (sym turned.nested)
      (subst (λ (c : ℕ). HoldsAt next s after.processor.regs c (nested_of t)) (sym turned.cr0_is)
      (subst (λ (r : Regs). HoldsAt next s r cr0 (nested_of t)) (sym turned.regs) holds));
  turns = omega (arith, turned.turns, at.turns, count);
}

-- a register after another was copied to it
pub copied : (regs : Regs) (to from : ℕ) → AreRegisters regs → to < 16
    → slice_index (with_register regs.general to (cut 64 (held regs.general (Reg from) 64))) to
    ≡ slice_index regs.general from
copied regs to from are few =
    let bound : slice_index regs.general from < 2 ^ 64 = are.bounds from in
    register_same regs.general to (cut 64 (held regs.general (Reg from) 64)) are.count few ∙ omega arith

-- the registers but RAX, RSP and R10 stay, where one of these is written
pub going_with : {s : MachineState} {regs : Regs} {nk : Nested} (general : List ℕ) (flags rip : ℕ) → IsGoing s regs nk
    → ((k : ℕ) → k ≢ rax → k ≢ rsp → k ≢ 10 → slice_index general k ≡ slice_index regs.general k)
    → IsGoing s (going_on regs general flags rip) nk
going_with general flags rip going same = record {
  nested = going.nested;
  others = λ k a b c. same k a b c ∙ going.others k a b c;
}
