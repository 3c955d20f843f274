-- The rest of a trace from a state on, and what one step adds to it.
use Rattle.std.specs.Prelude.{◌≡◌, ℕ, ◌<◌, List, ◌++◌, codes, decimal, Option, None, IsSome, Result, Ok, OnOk, ⊤}
use Rattle.irq_plan.specs.declared.event.Event.{Event}
use Rattle.cpu_step.specs.Processor.{Processor}
use Rattle.report_text.specs.RunLines.{hex_16}
use Rattle.gate_state.specs.declared.machine.Machine.{Machine}
use Rattle.gate_state.specs.MachineOf.{real_of, whole_of}
use Rattle.gate_state.specs.WholeMachine.{HeldState, known_of}
use Rattle.step_trace.specs.declared.asked.Shown.{Shown}
use Rattle.step_trace.specs.declared.ends.TraceEnd.{TraceEnd}
use Rattle.step_trace.specs.declared.ends.TraceFault.{TraceFault}
use Rattle.step_trace.specs.declared.steps.Followed.{Followed}
use Rattle.step_trace.specs.declared.steps.Followed.TheVariants as followed
use Rattle.step_trace.specs.StepLines.{is_wanted, line_of, stand_in}
use Rattle.step_trace.specs.StepTexts.{stand_name}
use Rattle.step_trace.specs.StepsLeft.{steps_left}
use Rattle.step_trace.specs.ToldSteps.{kept_lists}
use Rattle.step_trace.specs.TracesPut.{IsTaken}
use Rattle.step_trace.specs.Traces.{AreSteps, EndsWith, IsNextHeld, ending_before, ending_behind, ending_text, last_of, lines_text, text_where}

-- the state of a machine, with memory as it is
abbrev pub held_of : Machine → HeldState
held_of machine = record {
  opening = (whole_of machine).opening;
  state = (whole_of machine).state;
  source = (whole_of machine).source;
  real = real_of machine;
}

-- what a line begins with
abbrev pub head_text : ℕ → Processor → List ℕ
head_text turns p = decimal turns ++ (codes " " ++ (stand_name (stand_in p) ++ (codes " " ++ (decimal p.regs.cpl ++ (codes " " ++ hex_16 p.regs.rip)))))

-- the text of a step where its line is shown
abbrev pub step_shown : Shown → List Event → HeldState → HeldState → List ℕ
step_shown shown plan h next = text_where (is_wanted shown (line_of plan h next)) (line_of plan h next)

-- the text of a trace from a state on, where it ends there for this reason, if it does
pub record IsRest (shown : Shown) (steps : ℕ) (plan : List Event) (here : Option TraceEnd) (h : HeldState) (why : Option TraceEnd)
    (text : List ℕ) : Type 0 where
  pub later : List HeldState
  pub follow : AreSteps plan h later
  pub ends : EndsWith shown steps plan here later why
  pub text_is : text ≡ lines_text shown plan h later ++ ending_text why (last_of h later).state.turns

-- the rest of a trace from a state on was taken
pub record IsRestTaken {O A : Type 0} (taken : O → Option (List ℕ)) (faults : O → ℕ) (old new : O)
    (shown : Shown) (steps : ℕ) (plan : List Event) (here : Option TraceEnd) (h : HeldState) (put : Result A TraceFault) : Type 0 where
  pub why : Option TraceEnd
  pub text : List ℕ
  pub rest : IsRest shown steps plan here h why text
  pub is_taken : IsTaken taken faults old new text put
  pub whole : OnOk put (IsSome why)

-- a step was taken, and its line, if it is shown; the trace ends neither before it nor at the address behind it
pub record IsStepTaken {O : Type 0} (taken : O → Option (List ℕ)) (faults : O → ℕ) (old new : O)
    (shown : Shown) (steps : ℕ) (plan : List Event) (h next : HeldState) : Type 0 where
  pub goes : ending_before shown steps plan h.state ≡ None
  pub follows : IsNextHeld plan h next
  pub on : ending_behind shown steps plan next.state ≡ ending_before shown steps plan next.state
  pub nearer : steps_left steps plan (known_of next) < steps_left steps plan (known_of h)
  pub is_taken : IsTaken {A = ⊤} taken faults old new (step_shown shown plan h next) (Ok tt)

-- what follows a state: the rest was taken, or a step was, with what is kept of walks and memory behind it
abbrev pub IsFollowedBy : {O : Type 0} → (O → Option (List ℕ)) → (O → ℕ) → O → O → Shown → ℕ → List Event → HeldState → List ℕ → Followed → Type 0
IsFollowedBy taken faults old new shown steps plan h copy (followed.Ended put) =
    IsRestTaken taken faults old new shown steps plan (ending_before shown steps plan h.state) h put
IsFollowedBy taken faults old new shown steps plan h copy (followed.Goes machine kept) =
    IsStepTaken taken faults old new shown steps plan h (held_of machine)
    × ((kept_lists kept ≡ (whole_of machine).state.processor.tlb) × (copy ≡ real_of machine))
