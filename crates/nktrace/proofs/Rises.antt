-- What status a text gives that was put, or was cut, and a trace, or addresses, that were put as a sink's type tells it.
use Rattle.std.proofs.Common.{◌≡◌, ℕ, inl, inr, List, Option, Result, Ok, Err}
use Rattle.std.specs.Prelude.{MatchResult, ⊤}
use Rattle.irq_plan.specs.declared.event.Event.{Event}
use Rattle.nk_host.specs.TextPuts.{IsTextPut}
use Rattle.gate_state.specs.MachineStates.{MachineState}
use Rattle.step_trace.specs.declared.asked.Shown.{Shown}
use Rattle.step_trace.specs.declared.ends.TraceFault.{TraceFault}
use Rattle.step_trace.specs.AddressesRan.{IsRanTaken}
use Rattle.step_trace.specs.TracesPut.{IsTraceTaken}
use Rattle.nk_run.specs.Lines.{no_memory_line}
use Rattle.nk_run.specs.Witness.{sink_change}
use Rattle.nktrace.specs.TracedRuns.{IsNoMemoryPut, IsRanPut, IsTracePut, status_of}

-- the line of a want was put, or was cut
pub want_put : {O A E : Type 0} (taken : O → Option (List ℕ)) (faults : O → ℕ) (old new : O) (put : Result A E) (status : ℕ)
    → IsTextPut taken faults old new no_memory_line put → MatchResult put (λ _. status ≡ 5) (λ _. status ≡ 4)
    → IsNoMemoryPut (sink_change taken faults old new) status
want_put taken faults old new (Ok _) status put is = inl (is, put.all)
want_put taken faults old new (Err _) status put is = inr (is, put.failed, put.some)

-- a trace that a sink took
pub trace_put : {O : Type 0} (taken : O → Option (List ℕ)) (faults : O → ℕ) (old new : O) (shown : Shown) (steps : ℕ) (plan : List Event)
    (first : MachineState) (put : Result ⊤ TraceFault) (status : ℕ)
    → IsTraceTaken taken faults old new shown steps plan first put → status ≡ status_of put
    → IsTracePut shown steps plan first (sink_change taken faults old new) status
trace_put taken faults old new shown steps plan first put status it is = record {
  put = put;
  trace = record {
    why = it.why;
    text = it.text;
    trace = it.trace;
    is_taken = record {
      never_falls = it.is_taken.never_falls;
      failed = it.is_taken.failed;
      all = it.is_taken.all;
      some = it.is_taken.some;
    };
    whole = it.whole;
  };
  status_is = is;
}

-- addresses that a sink took
pub ran_put : {O : Type 0} (taken : O → Option (List ℕ)) (faults : O → ℕ) (old new : O) (image : List ℕ) (turns : ℕ) (plan : List Event)
    (first : MachineState) (put : Result ⊤ TraceFault) (status : ℕ)
    → IsRanTaken taken faults old new image turns plan first put → status ≡ status_of put
    → IsRanPut image turns plan first (sink_change taken faults old new) status
ran_put taken faults old new image turns plan first put status it is = record {
  put = put;
  ran = record {
    steps = it.steps;
    whole = it.whole;
    addresses = it.addresses;
    ran = it.ran;
    is_taken = record {
      never_falls = it.is_taken.never_falls;
      failed = it.is_taken.failed;
      all = it.is_taken.all;
      some = it.is_taken.some;
    };
  };
  status_is = is;
}
