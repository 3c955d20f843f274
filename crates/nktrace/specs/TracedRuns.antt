-- How a trace answers, and what tells where instructions began: as the top call does where the run may not begin, and else by
-- the trace of the run, or by the addresses.
use Rattle.std.specs.Prelude.{◌≡◌, ℕ, ◌⊎◌, List, Option, ⊤, Result, Ok, Err}
use Rattle.irq_plan.specs.declared.event.Event.{Event}
use Rattle.boot_map.specs.Division.{Division}
use Rattle.gate_state.specs.MachineOpening.{opening_state}
use Rattle.gate_state.specs.MachineStates.{MachineState}
use Rattle.file_scan.specs.ShelfChanges.{Change, Files, ShelfState}
use Rattle.step_trace.specs.declared.asked.Shown.{Shown}
use Rattle.step_trace.specs.declared.ends.TraceFault.{TraceFault}
use Rattle.step_trace.specs.declared.ends.TraceFault.TheVariants as fault
use Rattle.step_trace.specs.AddressesRan.{IsRanTaken}
use Rattle.step_trace.specs.TracesPut.{IsTraceTaken}
use Rattle.nk_run.specs.Lines.{no_memory_line}
use Rattle.nk_run.specs.Witness.{SinkState}
use Rattle.nk_run.specs.Outcome.{Answer}
use Rattle.nk_run.specs.RunsBegun.{IsAnswerPut, IsRefusedRun, MayRun}

-- the run doesn't begin: status and text are those of the top call
pub record IsTraceRefused (words : List (List ℕ)) (shelf : Change ShelfState) (sink : Change SinkState) (status : ℕ) : Type 0 where
  pub answer : Answer
  pub refused : IsRefusedRun words shelf answer
  pub put : IsAnswerPut sink answer status

-- the status of a trace that was put: it is whole; or a fault of the sink cut it; or memory for a line was wanting
abbrev pub status_of : {A : Type 0} → Result A TraceFault → ℕ
status_of (Ok done) = 0
status_of (Err (fault.Cut it)) = 4
status_of (Err fault.NoMemory) = 5

-- there was no memory for the machine or for a second memory beside it, which a line says
abbrev pub IsNoMemoryPut : Change SinkState → ℕ → Type 0
IsNoMemoryPut sink status = IsAnswerPut sink (record { status = 5; text = no_memory_line }) status

-- the trace of a run of at most so many turns from a state on was put
pub record IsTracePut (shown : Shown) (steps : ℕ) (plan : List Event) (first : MachineState) (sink : Change SinkState) (status : ℕ)
    : Type 0 where
  pub put : Result ⊤ TraceFault
  pub trace : IsTraceTaken (λ (s : SinkState). s.taken) (λ (s : SinkState). s.faults) sink.before sink.after shown steps plan first put
  pub status_is : status ≡ status_of put

-- the run may begin, and its trace was put, from the state that the run of the top call begins at; or there was no memory
pub record IsTraceShown (shown : Shown) (words : List (List ℕ)) (told : Option Files) (sink : Change SinkState) (status : ℕ) : Type 0 where
  pub steps : ℕ
  pub image : List ℕ
  pub layout : Division
  pub input : List ℕ
  pub plan : List Event
  pub may : MayRun words told steps image layout input plan
  pub put : IsTracePut shown steps plan (opening_state (record { image = image; frames = layout.frames }) input) sink status
      ⊎ IsNoMemoryPut sink status

abbrev pub IsTraced : Shown → List (List ℕ) → Change ShelfState → Change SinkState → ℕ → Type 0
IsTraced shown words shelf sink status =
    IsTraceRefused words shelf sink status ⊎ IsTraceShown shown words shelf.before.files sink status

-- the addresses at which instructions began in a run of at most so many turns from a state on were put
pub record IsRanPut (image : List ℕ) (turns : ℕ) (plan : List Event) (first : MachineState) (sink : Change SinkState) (status : ℕ)
    : Type 0 where
  pub put : Result ⊤ TraceFault
  pub ran : IsRanTaken (λ (s : SinkState). s.taken) (λ (s : SinkState). s.faults) sink.before sink.after image turns plan first put
  pub status_is : status ≡ status_of put

-- the run may begin, and the addresses were put, from the state that the run of the top call begins at; or there was no memory
pub record IsRanShown (words : List (List ℕ)) (told : Option Files) (sink : Change SinkState) (status : ℕ) : Type 0 where
  pub steps : ℕ
  pub image : List ℕ
  pub layout : Division
  pub input : List ℕ
  pub plan : List Event
  pub may : MayRun words told steps image layout input plan
  pub put : IsRanPut image steps plan (opening_state (record { image = image; frames = layout.frames }) input) sink status
      ⊎ IsNoMemoryPut sink status

abbrev pub IsRanTold : List (List ℕ) → Change ShelfState → Change SinkState → ℕ → Type 0
IsRanTold words shelf sink status =
    IsTraceRefused words shelf sink status ⊎ IsRanShown words shelf.before.files sink status
