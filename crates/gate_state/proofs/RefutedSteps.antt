-- Steps that don't count so, runs of quiet turns that lead elsewhere, and moments that no machine has, each named by the
-- sentence that it guards.
use Rattle.std.proofs.Common.{◌≡◌, ◌≢◌, ◌∙◌, ◌+◌, ℕ, false, List, length, inl, inr, sym, arith}
use Rattle.std.proofs.lemmas.Bool.{false≢true}
use Rattle.nk_bits.specs.Accesses.{wp_of}
use Rattle.irq_plan.specs.declared.event.Event.{Event}
use Rattle.cpu_step.specs.Processor.{Processor}
use Rattle.nk_body.specs.NestedRecord.{HoldsBooks, OwnState}
use Rattle.phys_mem.specs.MaskedMemory.{seen}
use Rattle.gate_state.specs.declared.moves.Move.TheVariants as move
use Rattle.gate_state.specs.declared.moves.Move.TheVariants.{Rest, Turn}
use Rattle.gate_state.specs.declared.seen.Seen.TheVariants.{Quiet}
use Rattle.gate_state.specs.MachineSteps.{move_of, seen_by}
use Rattle.gate_state.specs.MachineStates.{MachineState, Opening}
use Rattle.gate_state.specs.GuardedStates.{IsAdmitted, IsGuarded}
use Rattle.gate_state.specs.QuietSteps.{AreQuietSteps, IsHurried, IsQuietStep}
use Rattle.gate_state.specs.SafeStates.{IsSafe}
use Rattle.gate_state.specs.StepsTaken.{TakesOneEvent, TakesOneTurn}
use Rattle.gate_state.specs.WholeMachine.{IsWhole, WholeState}
use Rattle.gate_state.specs.WindowLeft.{ComesNearer, IsNearer, left}

-- a turn that counts as two, or as an event too; and an event that counts as a turn, or as none, or that the plan doesn't have
module _ (s after : MachineState) where
  two_turns : after.turns ≡ s.turns + 2 → TakesOneTurn s after → ⊥
  two_turns is it = let one = it.turns in omega (arith, is, one)

  turn_and_event : after.taken ≡ s.taken + 1 → TakesOneTurn s after → ⊥
  turn_and_event is it = let none = it.taken in omega (arith, is, none)

  module _ (plan : List Event) (it : TakesOneEvent plan s after) where
    event_and_turn : after.turns ≡ s.turns + 1 → ⊥
    event_and_turn is = let none = it.turns in omega (arith, is, none)

    event_again : after.taken ≡ s.taken → ⊥
    event_again is = let one = it.taken in omega (arith, is, one)

    event_past_the_plan : s.taken ≡ length plan → ⊥
    event_past_the_plan is = let left = it.left in omega (arith, is, left)

-- a quiet step is one of a machine that doesn't rest, shows nothing, and begins at a safe state
module _ (o : Opening) (plan : List Event) (s : MachineState) (it : IsQuietStep o plan s) where
  quiet_rest : move_of plan s ≡ Rest → ⊥
  quiet_rest is = let turn = it.turn in cc

  shown_quietly : seen_by Turn s ≢ Quiet → ⊥
  shown_quietly other = other it.quiet

  unsafe_quietly : (IsSafe o s → ⊥) → ⊥
  unsafe_quietly none = none it.safe

-- quiet turns lead to a state by that many steps, count as many turns and no event, and leave opening and source
module _ (plan : List Event) (limit : ℕ) (before after : WholeState) (it : IsHurried plan limit before after) where
  hurried_elsewhere : ((k : ℕ) → AreQuietSteps k before.opening plan before.state after.state → ⊥) → ⊥
  hurried_elsewhere none = none it.steps it.quiet

  uncounted_turns : ((k : ℕ) → AreQuietSteps k before.opening plan before.state after.state
      → after.state.turns ≢ before.state.turns + k) → ⊥
  uncounted_turns none = none it.steps it.quiet it.turns

  hurried_event : after.state.taken ≡ before.state.taken + 1 → ⊥
  hurried_event is = let none = it.taken in omega (arith, is, none)

  another_opening : after.opening ≢ before.opening → ⊥
  another_opening other = other it.opening

  another_source : after.source ≢ before.source → ⊥
  another_source other = other it.source

  -- not even from the limit on do they go past it
  past_the_limit : before.state.turns ≡ limit → after.state.turns ≡ limit + 1 → ⊥
  past_the_limit at past = let most = it.within (omega (arith, at)) in omega (arith, past, most)

-- neither a turn nor the body leaves WP clear with as many turns to go as before
module _ (before after : Processor) where
  turn_as_far : wp_of after.control.cr0 ≡ false → left after ≡ left before → IsNearer before after → ⊥
  turn_as_far clear same it =
      elim it [
        | inl kept ↦ false≢true (sym clear ∙ kept)
        | inr less ↦ absurd (omega (arith, same, less))
      ]

  body_as_far : left after ≡ left before → ComesNearer move.Serve before after → ⊥
  body_as_far same it = omega (arith, same, it)

-- no machine is held whose opening isn't admitted, whose state isn't guarded, whose memory isn't the one that is seen, or
-- which keeps other books or another root
module _ (o : Opening) (s : MachineState) (own : OwnState) (m : List ℕ) (it : IsWhole o s own m) where
  unadmitted : (IsAdmitted o → ⊥) → ⊥
  unadmitted none = none it.admitted

  unguarded : (IsGuarded o s → ⊥) → ⊥
  unguarded none = none it.guarded

  another_memory : s.memory ≢ seen m → ⊥
  another_memory other = other it.memory

  unheld_books : (HoldsBooks own m → ⊥) → ⊥
  unheld_books none = none it.kept

  another_root : own.root ≢ s.processor.control.root → ⊥
  another_root other = other it.root
