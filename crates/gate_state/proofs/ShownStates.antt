-- What a step from a guarded state shows, and the call of one.
use Rattle.std.proofs.Common.{ℕ, ◌^◌, ◌<◌, List, arith}
use Rattle.irq_plan.specs.declared.event.Event.{Event}
use Rattle.nk_body.specs.declared.call.Call.{Call}
use Rattle.nk_body.specs.CallRules.{Sourced}
use Rattle.x86_regs.specs.EffectsKept.{AreRegisters}
use Rattle.gate_state.specs.declared.moves.Move.{Move}
use Rattle.gate_state.specs.declared.moves.Move.TheVariants as move
use Rattle.gate_state.specs.GuardedStates.{IsGuarded}
use Rattle.gate_state.specs.MachineStates.{MachineState, Opening}
use Rattle.gate_state.specs.MachineSteps.{asked_in, move_of, seen_by, shown_by_turn, source_of, turn_of, wanted}
use Rattle.gate_state.specs.SafeStates.{TakesTurn}
use Rattle.gate_state.specs.ShownSteps.{IsShown, IsShownCall}
use Rattle.gate_state.specs.SourceBytes.{source_place}
use Rattle.gate_state.proofs.LowerLaws.{LowerLaws}
use Rattle.gate_state.proofs.RunsSafe.{IsMove, move_is, resting, serving, taking, turning}
use Rattle.gate_state.proofs.SourceReads.{source_bytes}

-- a step shows what its turn does, if it takes one
module _ (plan : List Event) (s : MachineState)
    (turns : TakesTurn s.processor → IsShown (shown_by_turn (turn_of s).stepped)) where
  shown_by : (m : Move) → IsMove plan s m → IsShown (seen_by m s)
  shown_by move.Serve (serving at) = tt
  shown_by (move.Take what) (taking event outside is) = tt
  shown_by move.Turn (turning takes) = turns takes
  shown_by move.Rest (resting outside waits_so) = tt

  pub seen_shown : IsShown (seen_by (move_of plan s) s)
  seen_shown = shown_by (move_of plan s) (move_is plan s)

-- a call: an answer may be an identifier, of which each turn uses at most one
pub call_shown : LowerLaws → (o : Opening) (s : MachineState) → IsGuarded o s → s.turns < 2 ^ 62 → IsShownCall s
call_shown laws o s guarded few =
    let root : ℕ = s.processor.control.root in
    let call : Call = asked_in s in
    let source : Sourced = source_of s in
    let registers : AreRegisters s.processor.regs = guarded.control.registers in
    record {
      number = registers.bounds 7;
      a = registers.bounds 6;
      b = registers.bounds 2;
      c = registers.bounds 1;
      d = registers.bounds 8;
      source = source_bytes s.memory root guarded.memory.are_bytes s.processor.tlb (source_place call) (wanted s);
      value = laws.call_leaves.value s.kinds root s.ledger s.memory call source (omega (arith, guarded.next, few));
      place = laws.call_leaves.place s.kinds root s.ledger s.memory call source;
    }
