-- The body leads from its stage of a call to the stage behind it: R9 has its answer, which is to the call that began.
use Rattle.std.proofs.Common.{◌≡◌, ◌≢◌, ℕ, ◌^◌, ◌<◌, true, false, List, length, length-set, refl, ap, ◌∙◌, arith}
use Rattle.std.specs.Prelude.{IfSome, Option, None, Some, not, ◌==◌, slice_index}
use Rattle.std.proofs.lemmas.Bool.{and_from, eq-eqb}
use Rattle.nk_bits.specs.declared.call.Answer.{Answer}
use Rattle.nk_bits.specs.Accesses.{wp_of}
use Rattle.x86_regs.specs.declared.registers.Regs.{Regs}
use Rattle.x86_regs.specs.Operands.{rdx, with_register}
use Rattle.nk_body.specs.NestedRecord.{Nested}
use Rattle.cpu_step.specs.Processor.{Processor}
use Rattle.cpu_step.specs.Turns.{enters_body, is_at_body}
use Rattle.gate_state.specs.GuardedStates.{IsGuarded}
use Rattle.gate_state.specs.MachineStates.{MachineState, Opening}
use Rattle.gate_state.specs.MachineSteps.{answer_in, asked_in, call_in, served, source_of, with_place}
use Rattle.gate_state.proofs.LowerLaws.{LowerLaws}
use Rattle.gate_state.proofs.CallThroughStages.{IsAt, IsGoing, Rereading, Serving}
use Rattle.gate_state.proofs.CallThroughTurn.{IsStanding}
use Rattle.gate_state.proofs.CallThroughWords.{register_other}
use Rattle.gate_state.proofs.WindowKept.{register_same}

-- the supervisor is at the body's place with WP clear
pub enters : (p : Processor) → IsStanding 27 p → wp_of p.control.cr0 ≡ false → enters_body p ≡ true
enters p stands clear =
    and_from (is_at_body p.regs) (not (wp_of p.control.cr0))
    (and_from (p.regs.cpl == 0) (p.regs.rip == 0xFFFFFF800000101B) (eq-eqb _ _ stands.supervisor)
    (eq-eqb _ _ stands.rip)) (ap not clear)

-- the registers hold the call that began
pub call_same : (s : MachineState) (regs : Regs) (nk : Nested) → IsGoing s regs nk → call_in regs ≡ call_in s.processor.regs
call_same s regs nk going =
    let number = going.others 7 (λ e. absurd (omega arith)) (λ e. absurd (omega arith))
    (λ e. absurd (omega arith)) in
    let first = going.others 6 (λ e. absurd (omega arith)) (λ e. absurd (omega arith))
    (λ e. absurd (omega arith)) in
    let second = going.others 2 (λ e. absurd (omega arith)) (λ e. absurd (omega arith))
    (λ e. absurd (omega arith)) in
    let third = going.others 1 (λ e. absurd (omega arith)) (λ e. absurd (omega arith))
    (λ e. absurd (omega arith)) in
    let fourth = going.others 8 (λ e. absurd (omega arith)) (λ e. absurd (omega arith))
    (λ e. absurd (omega arith)) in
    λ i. record { number = number i; a = first i; b = second i; c = third i; d = fourth i }

-- RDX with a place, or without: the other registers, and RDX itself
placed_other : (general : List ℕ) (place : Option ℕ) (k : ℕ) → k ≢ rdx
    → slice_index (with_place place general) k ≡ slice_index general k
placed_other general None k other = refl
placed_other general (Some place) k other = register_other general rdx place k other

placed_there : (general : List ℕ) (place : Option ℕ) → length general ≡ 16 → IfSome place (λ place. place < 2 ^ 64)
    → IfSome place (λ p. slice_index (with_place place general) rdx ≡ p)
placed_there general None count small = tt
placed_there general (Some place) count small =
    register_same general rdx place count (omega arith) ∙ omega (arith, small)

module _ (laws : LowerLaws) (o : Opening)
    (body : (s : MachineState) → enters_body s.processor ≡ true → IsGuarded o s → IsGuarded o (served s)) where
  pub from_serving : (s t : MachineState) → IsAt o Serving s t → IsAt o Rereading t (served t)
  unfolding served
  from_serving s t at =
      let p : Processor = t.processor in
      let answer : Answer = answer_in t in
      let general : List ℕ = with_register p.regs.general 9 answer.value in
      let count : length general ≡ 16 = length-set p.regs.general 9 _ ∙ at.guarded.control.registers.count in
      let held = register_same p.regs.general 9 answer.value at.guarded.control.registers.count (omega arith) in
      record {
        guarded = body t (enters p at.stands at.holds.2) at.guarded;
        stands = record {
          supervisor = at.stands.supervisor;
          runs = at.stands.runs;
          uninterrupted = at.stands.uninterrupted;
          rip = refl;
        };
        holds = (
          record {
            value = λ few.
                let small : answer.value < 2 ^ 64 =
                laws.call_leaves.value t.kinds p.control.root t.ledger t.memory (asked_in t) (source_of t) few in
                placed_other general answer.place 9 (λ e. absurd (omega arith)) ∙ held ∙ omega arith;
            place =
                placed_there general answer.place count
                (laws.call_leaves.place t.kinds p.control.root t.ledger t.memory (asked_in t) (source_of t));
          },
          placed_other general answer.place 10 (λ e. absurd (omega arith))
              ∙ register_other p.regs.general 9 answer.value 10 (λ e. absurd (omega arith)),
        );
        turns = refl;
      }
