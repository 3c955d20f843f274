-- What a trace leaves of a sink: its whole text, or, where it was cut or memory for a line was wanting, the beginning of that of
-- the steps so far.
use Rattle.std.specs.Prelude.{ℕ, ◌≤◌, List, Option, IsSome, Result, OnErr, OnOk}
use Rattle.std.specs.Io.KnownBytes.{Appends}
use Rattle.irq_plan.specs.declared.event.Event.{Event}
use Rattle.nk_host.specs.Taken.{AppendsPrefix}
use Rattle.gate_state.specs.MachineStates.{MachineState}
use Rattle.step_trace.specs.declared.asked.Shown.{Shown}
use Rattle.step_trace.specs.declared.ends.TraceEnd.{TraceEnd}
use Rattle.step_trace.specs.declared.ends.TraceFault.{TraceFault}
use Rattle.step_trace.specs.TraceFaults.{FailsBy}
use Rattle.step_trace.specs.Traces.{IsTrace}

-- a text was taken whole, or a part from its beginning was: by what the sink's type tells of a value, the bytes taken and the
-- count of faults, from the old value to the new one
pub record IsTaken {O A : Type 0} (taken : O → Option (List ℕ)) (faults : O → ℕ) (old new : O) (text : List ℕ)
    (put : Result A TraceFault) : Type 0 where
  pub never_falls : faults old ≤ faults new
  pub failed : FailsBy (faults old) (faults new) put
  pub all : OnOk put (Appends (taken old) (taken new) text)
  pub some : OnErr put (AppendsPrefix (taken old) (taken new) text)

-- the trace of a run was taken so, and it is whole where all of it was
pub record IsTraceTaken {O A : Type 0} (taken : O → Option (List ℕ)) (faults : O → ℕ) (old new : O)
    (shown : Shown) (steps : ℕ) (plan : List Event) (first : MachineState) (put : Result A TraceFault) : Type 0 where
  pub why : Option TraceEnd
  pub text : List ℕ
  pub trace : IsTrace shown steps plan first why text
  pub is_taken : IsTaken taken faults old new text put
  pub whole : OnOk put (IsSome why)
