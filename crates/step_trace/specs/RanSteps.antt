-- How the addresses at which instructions began are gathered, step by step.
use Rattle.std.specs.Prelude.{◌≡◌, ℕ, ◌<◌, ◌/◌, ◌==◌, Bool, true, false, List, All, Option, None, Some, Result, OnOk}
use Rattle.std.specs.List.{list_any}
use Rattle.std.specs.BTreeSet.{insert_key}
use Rattle.std.specs.Ordering.{nat_cmp}
use Rattle.irq_plan.specs.declared.event.Event.{Event}
use Rattle.elf_image.specs.Pages.{is_executable}
use Rattle.gate_state.specs.declared.seen.Seen.TheVariants as seen
use Rattle.gate_state.specs.declared.seen.Step.{Step}
use Rattle.gate_state.specs.declared.seen.Step.TheVariants as step
use Rattle.gate_state.specs.MachineStates.{MachineState}
use Rattle.gate_state.specs.MachineSteps.{state}
use Rattle.step_trace.specs.AddressesRan.{HasBegun, IsWholeRun, begun_in}

-- of a step that was taken: an event, a call and rest begin no instruction
abbrev pub begun_of : Step → Option ℕ → Option ℕ
begun_of (step.Seen seen.Event) begins = None
begun_of (step.Seen _) begins = begins
begun_of _ begins = None

-- an address more, where it is the image's code
abbrev pub with_code : Bool → ℕ → List ℕ → List ℕ
with_code true address addresses = insert_key nat_cmp addresses address
with_code false address addresses = addresses

abbrev pub with_begun : List ℕ → Option ℕ → List ℕ → List ℕ
with_begun image None addresses = addresses
with_begun image (Some address) addresses = with_code (is_executable image (address / 4096)) address addresses

-- the addresses of so many steps, in whatever order
pub record AreNoted (image : List ℕ) (steps : ℕ) (plan : List Event) (first : MachineState) (addresses : List ℕ) : Type 0 where
  pub are_code : All (λ address. is_executable image (address / 4096) ≡ true) addresses
  pub are_begun : All (HasBegun steps plan first) addresses
  pub all : (step address : ℕ) → step < steps → begun_in plan (state plan first step) ≡ Some address
      → is_executable image (address / 4096) ≡ true → list_any (λ x. address == x) addresses ≡ true

-- a run was gone through, to its end or as far as there was memory
pub record IsGone {A E : Type 0} (image : List ℕ) (turns : ℕ) (plan : List Event) (first : MachineState) (addresses : List ℕ)
    (gone : Result A E) : Type 0 where
  pub steps : ℕ
  pub whole : OnOk gone (IsWholeRun turns plan first steps)
  pub noted : AreNoted image steps plan first addresses
