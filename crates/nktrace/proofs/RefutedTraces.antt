-- What a trace doesn't answer, each named by the sentence that it guards.
use Rattle.std.proofs.Common.{◌≡◌, ℕ, ◌≤◌, true, false, List, Option, None, Some, inl, inr, arith, Result, Ok, Err, OnOk}
use Rattle.std.specs.Prelude.{IsSome, ⊤}
use Rattle.nk_host.specs.FaultCounts.{RoseTo}
use Rattle.irq_plan.specs.declared.event.Event.{Event}
use Rattle.byte_scanner.specs.declared.encoding.Found.{Found}
use Rattle.byte_scanner.specs.FirstFound.{first_found}
use Rattle.boot_map.specs.Division.{Division}
use Rattle.command_words.specs.declared.command_line.Command.TheVariants.{Run, Scan}
use Rattle.command_words.specs.CommandLine.{command_of}
use Rattle.gate_state.specs.MachineStates.{MachineState}
use Rattle.file_scan.specs.ShelfChanges.{Change, Files}
use Rattle.step_trace.specs.declared.asked.Shown.{Shown}
use Rattle.step_trace.specs.declared.ends.TraceFault.{TraceFault}
use Rattle.step_trace.specs.declared.ends.TraceFault.TheVariants.{Cut, NoMemory}
use Rattle.nk_run.specs.Outcome.{Answer}
use Rattle.nk_run.specs.RunsBegun.{IsNoRun, MayRun}
use Rattle.nk_run.specs.Witness.{SinkState}
use Rattle.step_trace.specs.TraceFaults.{FailsBy}
use Rattle.nktrace.specs.TracedRuns.{IsTracePut, IsNoMemoryPut, status_of}

-- a trace doesn't end with the status of a refused image, of words out of form, or of a file that wasn't read
no_such_status : (put : Result ⊤ TraceFault) (status : ℕ) → 1 ≤ status → status ≤ 3 → status ≡ status_of put → ⊥
no_such_status (Ok done) status low high is = absurd (omega (arith, is, low))
no_such_status (Err (Cut it)) status low high is = absurd (omega (arith, is, high))
no_such_status (Err NoMemory) status low high is = absurd (omega (arith, is, high))

refused_behind_its_beginning : (shown : Shown) (steps : ℕ) (plan : List Event) (first : MachineState) (sink : Change SinkState) (status : ℕ)
    → 1 ≤ status → status ≤ 3 → IsTracePut shown steps plan first sink status → ⊥
refused_behind_its_beginning shown steps plan first sink status low high it = no_such_status it.put status low high it.status_is

no_memory_at_0 : (sink : Change SinkState) → IsNoMemoryPut sink 0 → ⊥
no_memory_at_0 sink (inl line) = absurd (omega (arith, line.0))
no_memory_at_0 sink (inr cut) = absurd (omega (arith, cut.0))

-- nor is it cut where the sink's count didn't rise
no_fault : (put : Result ⊤ TraceFault) (before after : ℕ) → (RoseTo before after → ⊥) → FailsBy before after put → 4 ≡ status_of put → ⊥
no_fault (Ok done) before after quiet failed is = absurd (omega (arith, is))
no_fault (Err (Cut it)) before after quiet failed is = quiet failed
no_fault (Err NoMemory) before after quiet failed is = absurd (omega (arith, is))

cut_without_a_fault : (shown : Shown) (steps : ℕ) (plan : List Event) (first : MachineState) (sink : Change SinkState)
    → (RoseTo sink.before.faults sink.after.faults → ⊥) → IsTracePut shown steps plan first sink 4 → ⊥
cut_without_a_fault shown steps plan first sink quiet it =
    no_fault it.put sink.before.faults sink.after.faults quiet it.trace.is_taken.failed it.status_is

-- with status 0 it says why it ends
whole_by : {A : Type 0} (put : Result ⊤ TraceFault) (why : Option A) → 0 ≡ status_of put → OnOk put (IsSome why) → why ≡ None → ⊥
whole_by (Ok done) None is whole none = let no : false ≡ true = whole in cc
whole_by (Ok done) (Some why) is whole none = cc
whole_by (Err (Cut it)) why is whole none = absurd (omega (arith, is))
whole_by (Err NoMemory) why is whole none = absurd (omega (arith, is))

part_at_0 : (shown : Shown) (steps : ℕ) (plan : List Event) (first : MachineState) (sink : Change SinkState)
    → (it : IsTracePut shown steps plan first sink 0) → it.trace.why ≡ None → ⊥
part_at_0 shown steps plan first sink it none = whole_by it.put it.trace.why it.status_is it.trace.whole none

module _ (words : List (List ℕ)) (told : Option Files) (steps : ℕ) (image : List ℕ) (layout : Division) (input : List ℕ) (plan : List Event) where
  -- words without a form begin no run
  formless : command_of words ≡ None → MayRun words told steps image layout input plan → ⊥
  formless none it = let asked = it.asked in cc

  -- nor do those of `scan`
  scanned : command_of words ≡ Some Scan → MayRun words told steps image layout input plan → ⊥
  scanned other it = let asked = it.asked in cc

  -- nor does an image that holds a protected encoding
  unclean : (found : Found) → first_found image ≡ Some found → MayRun words told steps image layout input plan → ⊥
  unclean found there it = let clean = it.clean in cc

-- words of a run aren't answered as misused
run_is_misused : (words : List (List ℕ)) (answer : Answer) (steps frames : ℕ) → command_of words ≡ Some (Run steps frames) → IsNoRun words answer → ⊥
run_is_misused words answer steps frames asked it = it.no_run steps frames asked
