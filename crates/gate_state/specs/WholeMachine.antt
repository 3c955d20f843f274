-- The machine with the opening that its run began from, as the three states own it.
use Rattle.std.specs.Prelude.{◌≡◌, ℕ, Bool, true, false, List}
use Rattle.phys_mem.specs.MaskedMemory.{seen}
use Rattle.nk_body.specs.NestedRecord.{HoldsBooks, OwnState}
use Rattle.irq_plan.specs.declared.event.Event.{Event}
use Rattle.gate_state.specs.declared.moves.Move.{Move}
use Rattle.gate_state.specs.declared.moves.Move.TheVariants as move
use Rattle.gate_state.specs.MachineStates.{MachineState, Opening}
use Rattle.nk_body.specs.CallRules.{bytes_read}
use Rattle.gate_state.specs.MachineSteps.{move_of, next, served, source_of}
use Rattle.gate_state.specs.GuardedStates.{IsAdmitted, IsGuarded}

-- with the bytes that were read last for a call
pub record WholeState : Type 0 where
  pub opening : Opening
  pub state : MachineState
  pub source : List ℕ

-- and with memory as it is, the books in it: what a machine holds. Which bytes the body leaves in the books' frames no
-- definition says, so a step is told of what is known
pub record HeldState : Type 0 where
  pub opening : Opening
  pub state : MachineState
  pub source : List ℕ
  pub real : List ℕ

abbrev pub known_of : HeldState → WholeState
known_of h = record { opening = h.opening; state = h.state; source = h.source }

-- what holds at each moment of opening and state, of what the nested kernel keeps outside memory, and of memory m with the
-- books in it: the state's memory is what is seen of m, and m holds the books, of which the state has kinds and ledger
pub record IsWhole (opening : Opening) (state : MachineState) (own : OwnState) (m : List ℕ) : Type 0 where
  pub admitted : IsAdmitted opening
  pub guarded : IsGuarded opening state
  pub memory : state.memory ≡ seen m
  pub kept : HoldsBooks own m
  pub root : own.root ≡ state.processor.control.root

-- the machine after a step, and after the body
abbrev pub next_whole : List Event → WholeState → WholeState
next_whole plan w = record w { state = next plan w.state }

abbrev pub served_whole : WholeState → WholeState
served_whole w = record w { state = served w.state; source = bytes_read (source_of w.state) }

-- and after the step from any state: the body alone reads bytes
abbrev pub source_after : Move → WholeState → List ℕ
source_after move.Serve w = bytes_read (source_of w.state)
source_after _ w = w.source

abbrev pub stepped_whole : List Event → WholeState → WholeState
stepped_whole plan w = record w { state = next plan w.state; source = source_after (move_of plan w.state) w }

-- no step is left
abbrev pub is_rest : Move → Bool
is_rest move.Rest = true
is_rest _ = false
