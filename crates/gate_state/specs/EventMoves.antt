-- What is said of a move: of the event that it takes, and whether it is the body's.
use Rattle.std.specs.Prelude.{◌≡◌, ⊤, Bool, true, false}
use Rattle.irq_plan.specs.declared.event.What.{What}
use Rattle.gate_state.specs.declared.moves.Move.{Move}
use Rattle.gate_state.specs.declared.moves.Move.TheVariants as move

-- said of that event, where the step takes one
abbrev pub IfTaken : Move → (What → Type 0) → Type 0
IfTaken (move.Take what) P = P what
IfTaken _ P = ⊤

-- the move is the body's where the body is to run, and nowhere else
abbrev pub IsBodyBy : Bool → Move → Type 0
IsBodyBy enters move.Serve = enters ≡ true
IsBodyBy enters _ = enters ≡ false
