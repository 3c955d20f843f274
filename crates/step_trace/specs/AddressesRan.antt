-- The addresses of an image at which instructions began in a run, and the text that tells them.
use Rattle.std.specs.Prelude.{◌≡◌, ℕ, ◌<◌, ◌/◌, ◌==◌, true, false, is_none, if◌then◌else◌, ⊤, List, [], ◌∷◌, ◌++◌, codes, All, Option, None, Some, Result, Err}
use Rattle.std.specs.List.{list_any}
use Rattle.std.specs.List.Sorted.{IsStrictlySortedBy}
use Rattle.std.specs.Ordering.{nat_cmp}
use Rattle.irq_plan.specs.declared.event.Event.{Event}
use Rattle.elf_image.specs.Pages.{is_executable}
use Rattle.cpu_step.specs.Processor.{Processor, deliverable}
use Rattle.report_text.specs.RunLines.{hex_16}
use Rattle.gate_state.specs.declared.moves.Move.{Move}
use Rattle.gate_state.specs.declared.moves.Move.TheVariants as move
use Rattle.gate_state.specs.MachineStates.{MachineState}
use Rattle.gate_state.specs.MachineSteps.{move_of, state}
use Rattle.step_trace.specs.declared.ends.TraceFault.{TraceFault}
use Rattle.step_trace.specs.declared.ends.TraceFault.TheVariants as fault
use Rattle.step_trace.specs.Traces.{is_there}
use Rattle.step_trace.specs.TracesPut.{IsTaken}

-- where the instruction of a turn begins; none does where a vector is delivered in its place
abbrev pub begins_at : Processor → Option ℕ
begins_at p = if is_none (deliverable p) then Some p.regs.rip else None

-- and of the step from a state: only a turn executes an instruction
abbrev pub begun_by : Move → Processor → Option ℕ
begun_by move.Turn p = begins_at p
begun_by _ p = None

abbrev pub begun_in : List Event → MachineState → Option ℕ
begun_in plan s = begun_by (move_of plan s) s.processor

-- an instruction began there in one of the first so many steps of a run
pub record HasBegun (steps : ℕ) (plan : List Event) (first : MachineState) (address : ℕ) : Type 0 where
  pub step : ℕ
  pub within : step < steps
  pub begun : begun_in plan (state plan first step) ≡ Some address

-- these are the addresses in pages of the image that may be executed at which an instruction began in those steps: each once,
-- ascending, and all of them
pub record AreRan (image : List ℕ) (steps : ℕ) (plan : List Event) (first : MachineState) (addresses : List ℕ) : Type 0 where
  pub ascend : IsStrictlySortedBy nat_cmp addresses
  pub are_code : All (λ address. is_executable image (address / 4096) ≡ true) addresses
  pub are_begun : All (HasBegun steps plan first) addresses
  pub all : (step address : ℕ) → step < steps → begun_in plan (state plan first step) ≡ Some address
      → is_executable image (address / 4096) ≡ true → list_any (λ x. address == x) addresses ≡ true

-- a line for each
abbrev pub ran_text : List ℕ → List ℕ
ran_text [] = []
ran_text (address ∷ addresses) = hex_16 address ++ (codes "\n" ++ ran_text addresses)

-- so many steps are the whole run: behind them, and not before, as many turns were taken as it may have, or no step is left
pub record IsWholeRun (turns : ℕ) (plan : List Event) (first : MachineState) (steps : ℕ) : Type 0 where
  pub there : is_there turns plan (state plan first steps) ≡ true
  pub not_before : (k : ℕ) → k < steps → is_there turns plan (state plan first k) ≡ false

-- where memory wasn't wanting
abbrev pub UnlessNoMemory : {A : Type 0} → Result A TraceFault → Type 0 → Type 0
UnlessNoMemory (Err fault.NoMemory) P = ⊤
UnlessNoMemory _ P = P

-- the text of a run's addresses was taken, or its beginning was
pub record IsRanTaken {O A : Type 0} (taken : O → Option (List ℕ)) (faults : O → ℕ) (old new : O)
    (image : List ℕ) (turns : ℕ) (plan : List Event) (first : MachineState) (put : Result A TraceFault) : Type 0 where
  pub steps : ℕ
  pub whole : UnlessNoMemory put (IsWholeRun turns plan first steps)
  pub addresses : List ℕ
  pub ran : AreRan image steps plan first addresses
  pub is_taken : IsTaken taken faults old new (ran_text addresses) put
