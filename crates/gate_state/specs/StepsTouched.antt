-- Which frames a step of the machine may have changed, and what that says of memory as it is, the books in it.
use Rattle.std.specs.Prelude.{◌≡◌, ◌≢◌, ◌⊎◌, ⊤, ℕ, ◌+◌, ◌-◌, ◌/◌, ◌≤◌, nat_le, if◌then◌else◌, List, length, Option, Some, None}
use Rattle.phys_mem.specs.Memory.{byte_at}
use Rattle.cpu_step.specs.declared.touched.Touched.{Touched}
use Rattle.cpu_step.specs.declared.touched.Touched.TheVariants as touched
use Rattle.cpu_step.specs.FramesTouched.{turn_touched}
use Rattle.cpu_step.specs.Turns.{enters_body}
use Rattle.region_book.specs.RegionCalls.{fits_in}
use Rattle.region_book.specs.RegionRecords.{Book, RegionRecord, byte_place, region_of}
use Rattle.nk_body.specs.declared.call.Call.{Call}
use Rattle.nk_body.specs.declared.call.Call.TheVariants.{DeclareTable, RemoveTable, Write, WriteEntry}
use Rattle.gate_state.specs.declared.moves.Move.{Move}
use Rattle.gate_state.specs.declared.moves.Move.TheVariants as move
use Rattle.gate_state.specs.declared.seen.Seen.TheVariants as seen
use Rattle.gate_state.specs.declared.seen.Step.{Step}
use Rattle.gate_state.specs.declared.seen.Step.TheVariants as step
use Rattle.gate_state.specs.declared.touched.StepTouched.{StepTouched}
use Rattle.gate_state.specs.declared.touched.StepTouched.TheVariants.{Nothing, Frames, Body, Any}
use Rattle.gate_state.specs.MachineStates.{MachineState}
use Rattle.gate_state.specs.MachineSteps.{asked_in}

-- a byte lies outside what was touched
abbrev pub LiesOutside : StepTouched → ℕ → Type 0
LiesOutside Nothing p = ⊤
LiesOutside (Frames one two) p = (p / 4096 ≢ one) × (p / 4096 ≢ two)
LiesOutside (Body below one two) p = (below ≤ p / 4096) × ((p / 4096 ≢ one) × (p / 4096 ≢ two))
LiesOutside Any p = ⊥

-- between two memories every byte outside what was touched is as it was
abbrev pub KeepsOutside : StepTouched → List ℕ → List ℕ → Type 0
KeepsOutside it before after = (p : ℕ) → LiesOutside it p → byte_at after p ≡ byte_at before p

-- what a turn touched, as the processor tells it; a delivery pushes to the trap stack, frame 3
abbrev pub of_turn : Touched → StepTouched
of_turn touched.Nothing = Nothing
of_turn (touched.Frames one two) = Frames one two
of_turn touched.Any = Frames 3 3

-- how many frames are the nested kernel's own, the first ones of memory: behind 64 of them stand 16 bytes for each frame
abbrev pub own_frames : ℕ → ℕ
own_frames frames = 64 + (frames + 255) / 256

-- a write in a region: the frames of its first byte and of its last one, unless another page lies between them
abbrev pub touched_in : ℕ → Option RegionRecord → ℕ → ℕ → StepTouched
touched_in below None offset last = Body below 0 0
touched_in below (Some r) offset last =
    if nat_le (last / 4096) (offset / 4096 + 1) then Body below (byte_place r offset / 4096) (byte_place r last / 4096)
    else Any

abbrev pub touched_by_write : ℕ → Book → ℕ → ℕ → ℕ → StepTouched
touched_by_write below book region offset count =
    if fits_in book region offset count then touched_in below (region_of book region) offset (offset + count - 1)
    else Body below 0 0

-- a call: the nested kernel's own frames, and those that the call names
abbrev pub touched_by_call : ℕ → Book → Call → StepTouched
touched_by_call frames book (DeclareTable level frame) = Body (own_frames frames) frame frame
touched_by_call frames book (WriteEntry table index value) = Body (own_frames frames) table table
touched_by_call frames book (RemoveTable frame) = Body (own_frames frames) frame frame
touched_by_call frames book (Write region offset place count) =
    touched_by_write (own_frames frames) book region offset count
touched_by_call frames book _ = Body (own_frames frames) 0 0

-- what the step from a state with this memory is told to touch
abbrev pub touched_by_move : Move → MachineState → List ℕ → StepTouched
touched_by_move move.Serve s m = touched_by_call (length m / 4096) s.ledger.book (asked_in s)
touched_by_move (move.Take what) s m = Nothing
touched_by_move move.Turn s m = of_turn (turn_touched s.processor m)
touched_by_move move.Rest s m = Nothing

-- what a step from this state touches if it shows something: nothing, or else what its call says, or what a delivery pushes to
abbrev pub touched_if_shown : MachineState → List ℕ → StepTouched
touched_if_shown s m =
    if enters_body s.processor then touched_by_call (length m / 4096) s.ledger.book (asked_in s) else Frames 3 3

abbrev pub ShowsWithin : Step → StepTouched → StepTouched → Type 0
ShowsWithin step.Rested it most = ⊤
ShowsWithin (step.Seen seen.Quiet) it most = ⊤
ShowsWithin _ it most = (it ≡ Nothing) ⊎ (it ≡ most)
