-- What is no answer to a call that is made through the gates, each named by the sentence that it guards.
use Rattle.std.proofs.Common.{◌≡◌, ◌≢◌, ℕ, ◌+◌, ◌<◌, ◌≤◌, true, false, List, Some, slice_index, sym, subst, ◌∙◌, arith}
use Rattle.std.specs.Prelude.{IfSome, Option, length}
use Rattle.std.proofs.lemmas.Bool.{false≢true}
use Rattle.nk_bits.specs.Accesses.{wp_of}
use Rattle.nk_bits.specs.KernelLayout.{gate_address}
use Rattle.x86_regs.specs.Operands.{rax, rdx, rsp}
use Rattle.irq_plan.specs.declared.event.Event.{Event}
use Rattle.cpu_step.specs.Turns.{enters_body}
use Rattle.gate_state.specs.GateCalls.{ComesLater, IsCallAnswered, IsCalledBack, IsCalledThrough, IsServed}
use Rattle.gate_state.specs.MachineStates.{MachineState, nested_of}
use Rattle.gate_state.specs.MachineSteps.{answer_in, call_in, move_of, state}
use Rattle.gate_state.specs.WholeMachine.{is_rest}

module _ (before body after : MachineState) (it : IsCallAnswered before body after) where
  -- the gate is left at another place, or with WP clear, or with another stack
  another_exit : after.processor.regs.rip ≡ gate_address + 49 → ⊥
  another_exit is = let exit = it.rip in omega (arith, is, exit)

  unprotected_exit : wp_of after.processor.control.cr0 ≡ false → ⊥
  unprotected_exit clear = false≢true (sym clear ∙ it.kept)

  another_stack : slice_index after.processor.regs.general rsp ≢ slice_index before.processor.regs.general rsp → ⊥
  another_stack other = other it.stack

  -- the body heard another call, or heard it over another record
  another_call : call_in body.processor.regs ≢ call_in before.processor.regs → ⊥
  another_call other = other it.call

  another_record : nested_of body ≢ nested_of before → ⊥
  another_record other = other it.nested

  -- RAX or RDX has something else than the body's answer
  another_answer : slice_index after.processor.regs.general rax ≢ (answer_in body).value → ⊥
  another_answer other = other it.answer

  another_place : (place : ℕ) → (answer_in body).place ≡ Some place
      → slice_index after.processor.regs.general rdx ≢ place → ⊥
  another_place place is other =
      other (subst (λ (found : Option ℕ). IfSome found (λ p. slice_index after.processor.regs.general rdx ≡ p)) is it.place)

module _ (plan : List Event) (s : MachineState) (k : ℕ) where
  -- no body was run before
  without_a_body : ((at : ℕ) → at < k → enters_body (state plan s at).processor ≡ false) → IsServed plan s k → ⊥
  without_a_body none it = false≢true (sym (none it.at it.before) ∙ it.enters)

  -- or a turn later
  late_body : ((at : ℕ) → at < k → enters_body (state plan s at).processor ≡ true → (state plan s at).turns ≡ s.turns + 7)
      → IsServed plan s k → ⊥
  late_body late it =
      let sixth = it.turns in let seventh = late it.at it.before it.enters in omega (arith, sixth, seventh)

  -- or none of them left an answer
  unanswered_body : ((at : ℕ) → at < k → IsCallAnswered s (state plan s at) (state plan s k) → ⊥) → IsServed plan s k → ⊥
  unanswered_body none it = none it.at it.before it.answered

  module _ (it : IsCalledThrough plan s k) where
    -- six turns later there is no body to run
    no_body : (state plan s k).turns ≡ s.turns + 6 → enters_body (state plan s k).processor ≡ false → ⊥
    no_body sixth none = false≢true (sym none ∙ it.reaches sixth)

    -- fourteen turns later the call isn't answered
    no_answer : s.turns ≡ 0 → (state plan s k).turns ≡ s.turns + 14 → (IsServed plan s k → ⊥) → ⊥
    no_answer early last none = none (it.returns (omega (arith, early)) last)

    -- the machine rests in the thirteenth turn
    rest_within : (state plan s k).turns ≡ s.turns + 13 → is_rest (move_of plan (state plan s k)) ≡ true → ⊥
    rest_within within rests = false≢true (sym (it.runs (omega (arith, within))) ∙ rests)

-- a call that doesn't come back: so many turns are taken in no state, or only behind more steps
module _ (plan : List Event) (s : MachineState) where
  never_there : (turns : ℕ) → ((k : ℕ) → (state plan s k).turns ≢ s.turns + turns) → ComesLater plan s turns → ⊥
  never_there turns none it = none it.steps it.there

  there_too_late : (turns : ℕ)
      → ((k : ℕ) → (state plan s k).turns ≡ s.turns + turns → turns + length plan + 1 ≤ k) → ComesLater plan s turns → ⊥
  there_too_late turns late it = let more = late it.steps it.there in let few = it.few in omega (arith, more, few)

  never_at_the_body : ((k : ℕ) → (state plan s k).turns ≢ s.turns + 6) → IsCalledBack plan s → ⊥
  never_at_the_body none it = never_there 6 none it.body

  never_answered : ((k : ℕ) → (state plan s k).turns ≢ s.turns + 14) → IsCalledBack plan s → ⊥
  never_answered none it = never_there 14 none it.back
