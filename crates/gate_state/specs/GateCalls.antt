-- A call that is made through the gates with interrupts off: where it begins, and what it comes back with.
use Rattle.std.specs.Prelude.{◌≡◌, ℕ, ◌+◌, ◌^◌, ◌<◌, ◌≤◌, true, false, slice_index, List, IfSome, length}
use Rattle.nk_bits.specs.Accesses.{wp_of}
use Rattle.x86_alu.specs.SignedNumbers.{bit}
use Rattle.x86_regs.specs.Combinations.{interrupt_flag}
use Rattle.x86_regs.specs.Operands.{rax, rdx, rsp}
use Rattle.irq_plan.specs.declared.event.Event.{Event}
use Rattle.cpu_step.specs.Processor.{Processor}
use Rattle.cpu_step.specs.Turns.{enters_body}
use Rattle.nk_bits.specs.KernelLayout.{gate_address}
use Rattle.gate_state.specs.MachineStates.{MachineState, nested_of}
use Rattle.gate_state.specs.MachineSteps.{answer_in, call_in, move_of, state}
use Rattle.gate_state.specs.WholeMachine.{is_rest}

-- the supervisor stands behind the entry gate's CLI, at offset 2, with WP set
pub record IsCalling (p : Processor) : Type 0 where
  pub supervisor : p.regs.cpl ≡ 0
  pub runs : p.halted ≡ false
  pub rip : p.regs.rip ≡ gate_address + 2
  pub uninterrupted : bit p.regs.flags interrupt_flag ≡ false
  pub kept : wp_of p.control.cr0 ≡ true

-- the supervisor stands before the exit gate's POPFQ, at offset 53, with WP set: RSP is what it was at the beginning, RAX has
-- the answer of the body, which was to the call that the registers held at the beginning, over the record that was guarded
-- then, and RDX the place of a region, where one was allocated
pub record IsCallAnswered (before body after : MachineState) : Type 0 where
  pub rip : after.processor.regs.rip ≡ gate_address + 53
  pub kept : wp_of after.processor.control.cr0 ≡ true
  pub stack : slice_index after.processor.regs.general rsp ≡ slice_index before.processor.regs.general rsp
  pub call : call_in body.processor.regs ≡ call_in before.processor.regs
  pub nested : nested_of body ≡ nested_of before
  pub answer : slice_index after.processor.regs.general rax ≡ (answer_in body).value
  pub place : IfSome (answer_in body).place (λ place. slice_index after.processor.regs.general rdx ≡ place)

-- a body was run, six turns behind the beginning, and is answered
pub record IsServed (plan : List Event) (s : MachineState) (k : ℕ) : Type 0 where
  pub at : ℕ
  pub before : at < k
  pub turns : (state plan s at).turns ≡ s.turns + 6
  pub enters : enters_body (state plan s at).processor ≡ true
  pub answered : IsCallAnswered s (state plan s at) (state plan s k)

-- k steps later, whatever events of the plan stand between: after six turns the body is to run, after fourteen the call is
-- answered, and until then the machine doesn't rest. The answer is that of turns which a machine takes, below 2 ^ 32: each
-- call uses an identifier at most, and they have 64 bits
pub record IsCalledThrough (plan : List Event) (s : MachineState) (k : ℕ) : Type 0 where
  pub reaches : (state plan s k).turns ≡ s.turns + 6 → enters_body (state plan s k).processor ≡ true
  pub returns : s.turns < 2 ^ 32 → (state plan s k).turns ≡ s.turns + 14 → IsServed plan s k
  pub runs : (state plan s k).turns < s.turns + 14 → is_rest (move_of plan (state plan s k)) ≡ false

-- a state so many turns later, with at most as many steps beside as the plan has events
pub record ComesLater (plan : List Event) (s : MachineState) (turns : ℕ) : Type 0 where
  pub steps : ℕ
  pub few : steps ≤ turns + length plan
  pub there : (state plan s steps).turns ≡ s.turns + turns

-- a call comes back: there is a state six turns later, at which its body is to run, and one fourteen later, at which it is
-- answered
pub record IsCalledBack (plan : List Event) (s : MachineState) : Type 0 where
  pub body : ComesLater plan s 6
  pub back : ComesLater plan s 14
