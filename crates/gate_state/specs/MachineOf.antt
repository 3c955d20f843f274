-- The machine, whichever of the three states it is in, and where the processor stands in each.
use Rattle.std.specs.Prelude.{◌≡◌, ◌≢◌, ℕ, true, false, List}
use Rattle.nk_bits.specs.Accesses.{wp_of}
use Rattle.cpu_step.specs.Processor.{Processor}
use Rattle.gate_state.specs.declared.machine.Machine.{Machine}
use Rattle.gate_state.specs.declared.machine.Machine.TheVariants.{Outer, Gate, Nested}
use Rattle.gate_state.specs.GateWindow.{IsAtPoint}
use Rattle.gate_state.specs.GuardedStates.{IsAdmitted, IsGuarded}
use Rattle.gate_state.specs.MachineStates.{MachineState, Opening}
use Rattle.gate_state.specs.WholeMachine.{WholeState, known_of}

abbrev pub whole_of : Machine → WholeState
whole_of (Outer machine) = known_of machine
whole_of (Gate machine) = known_of machine
whole_of (Nested machine) = known_of machine

-- memory as it is, the books in it
abbrev pub real_of : Machine → List ℕ
real_of (Outer machine) = machine.real
real_of (Gate machine) = machine.real
real_of (Nested machine) = machine.real

-- the outer kernel's: WP is set
abbrev pub IsOuter : Processor → Type 0
IsOuter p = wp_of p.control.cr0 ≡ true

-- in the gates: WP is clear, and the supervisor stands at a gate point that isn't the body's place
pub record IsInGates (p : Processor) : Type 0 where
  pub clear : wp_of p.control.cr0 ≡ false
  pub offset : ℕ
  pub point : IsAtPoint offset p
  pub elsewhere : offset ≢ 27

-- at the nested kernel's body: WP is clear, and the supervisor stands at the body's place
pub record IsAtBody (p : Processor) : Type 0 where
  pub clear : wp_of p.control.cr0 ≡ false
  pub point : IsAtPoint 27 p

-- what holds of a machine at hand: the image of its run was admitted, its state has the invariant, and its processor stands
-- where this says
pub record IsStanding (IsPlace : Processor → Type 0) (opening : Opening) (state : MachineState) : Type 0 where
  pub admitted : IsAdmitted opening
  pub guarded : IsGuarded opening state
  pub place : IsPlace state.processor

-- and of one in any of the three states
abbrev pub IsOf : Machine → Type 0
IsOf (Outer machine) = IsStanding IsOuter machine.opening machine.state
IsOf (Gate machine) = IsStanding IsInGates machine.opening machine.state
IsOf (Nested machine) = IsStanding IsAtBody machine.opening machine.state
