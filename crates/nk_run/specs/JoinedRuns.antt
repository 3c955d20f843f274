-- Modules in the runs of the image that has them: their code stays where it was put.
use Rattle.std.specs.Prelude.{◌≡◌, ℕ, ◌+◌, ◌*◌, ◌/◌, ◌%◌, ◌<◌, List, slice_get, slice_index, Some}
use Rattle.phys_mem.specs.Memory.{byte_at}
use Rattle.irq_plan.specs.declared.event.Event.{Event}
use Rattle.irq_plan.specs.PlannedEvents.{IsPlan}
use Rattle.boot_map.specs.Division.{IsLayout, division_of}
use Rattle.boot_map.specs.KernelSlot.{IsCodePage}
use Rattle.gate_state.specs.MachineOpening.{opening_state}
use Rattle.gate_state.specs.MachineStates.{Opening}
use Rattle.gate_state.specs.MachineSteps.{state}
use Rattle.code_modules.specs.JoinedParts.{JoinedPart}

-- the page of an address is one of the image's that may be executed, and in its frame this byte stands at the address
pub record IsCodeByte (o : Opening) (m : List ℕ) (va byte : ℕ) : Type 0 where
  pub frame : ℕ
  pub page : IsCodePage o.image o.frames (va / 4096) frame
  pub stands : byte_at m (4096 * frame + va % 4096) ≡ byte

-- so does each byte of these modules, and each zero behind one on its pages
abbrev pub HoldsCode : Opening → List JoinedPart → List ℕ → Type 0
HoldsCode o modules m =
    (i k : ℕ) (part : JoinedPart) → slice_get modules i ≡ Some part → k < part.memory_size
    → IsCodeByte o m (part.address + k) (slice_index part.bytes k)

-- and in every state of every run of the file: from each opening of it that has room, with any input, under any plan
abbrev pub KeepsCode : List JoinedPart → List ℕ → Type 0
KeepsCode modules file =
    (o : Opening) (input : List ℕ) (plan : List Event) (k : ℕ) → o.image ≡ file
    → IsLayout o.image (division_of o.image o.frames) → IsPlan plan
    → HoldsCode o modules (state plan (opening_state o input) k).memory
