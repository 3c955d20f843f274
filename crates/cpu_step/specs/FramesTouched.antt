-- Which frames a turn may have changed, and what that says of memory.
use Rattle.std.specs.Prelude.{◌≡◌, ◌≢◌, ⊤, ℕ, ◌/◌, false, if◌then◌else◌, List, Option, Some, None, Result, Ok, Err}
use Rattle.phys_mem.specs.Memory.{byte_at}
use Rattle.x86_regs.specs.declared.effects.Effect.{Effect}
use Rattle.x86_regs.specs.declared.effects.Write.{Write}
use Rattle.x86_regs.specs.declared.faults.Fault.{Fault}
use Rattle.cpu_step.specs.Processor.{Processor, deliverable}
use Rattle.cpu_step.specs.Turns.{instructed, instruction_made, is_at_body}
use Rattle.cpu_step.specs.declared.stepped.Stepped.{Stepped}
use Rattle.cpu_step.specs.declared.stepped.Stepped.TheVariants as stepped
use Rattle.cpu_step.specs.declared.touched.Touched.{Touched}
use Rattle.cpu_step.specs.declared.touched.Touched.TheVariants.{Nothing, Frames, Any}

-- a byte lies outside what was touched
abbrev pub IsUntouched : Touched → ℕ → Type 0
IsUntouched Nothing p = ⊤
IsUntouched (Frames one two) p = (p / 4096 ≢ one) × (p / 4096 ≢ two)
IsUntouched Any p = ⊥

-- between two memories every byte outside what was touched is as it was
abbrev pub StaysOutside : Touched → List ℕ → List ℕ → Type 0
StaysOutside touched before after = (p : ℕ) → IsUntouched touched p → byte_at after p ≡ byte_at before p

-- what a write touches: the frames of its first byte and of its first byte on the second page
abbrev pub touched_of : Option Write → Touched
touched_of (Some write) = Frames (write.target.first / 4096) (write.target.second / 4096)
touched_of None = Nothing

-- and a turn that shows this: one that ends in a delivery pushes, or may
abbrev pub touched_by : Stepped → Option Write → Touched
touched_by (stepped.Delivered it) write = Any
touched_by stepped.Shutdown write = Any
touched_by _ write = touched_of write

-- so does a fault
abbrev pub effect_touched : Result Effect Fault → Stepped → Touched
effect_touched (Ok effect) shown = touched_by shown effect.write
effect_touched (Err it) shown = Any

-- the turn of an instruction, or at the body's place
unfoldable pub instruction_touched : Processor → List ℕ → Touched
instruction_touched p m =
    if is_at_body p.regs then Any else effect_touched (instruction_made p m).answer (instructed p m).stepped

-- the delivery of a vector, if one is due, or an instruction
abbrev pub touched_unless : Option ℕ → Processor → List ℕ → Touched
touched_unless (Some vector) p m = Any
touched_unless None p m = instruction_touched (record p { shielded = false }) m

-- what a turn is told to touch
unfoldable pub turn_touched : Processor → List ℕ → Touched
turn_touched p m = touched_unless (deliverable p) p m
