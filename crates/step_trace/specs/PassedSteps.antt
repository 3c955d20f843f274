-- Steps that a trace goes through and shows nothing of: turns between those that show something, where it is kept to
-- deliveries, calls, events or bytes of the console.
use Rattle.std.specs.Prelude.{◌≡◌, ℕ, ◌<◌, ◌≤◌, ◌⊎◌, ◌+◌, ◌++◌, Bool, true, false, List, [], Option, Some, None, ⊤, Ok}
use Rattle.irq_plan.specs.declared.event.Event.{Event}
use Rattle.phys_mem.specs.MaskedMemory.{seen}
use Rattle.gate_state.specs.declared.seen.Step.{Step}
use Rattle.gate_state.specs.MachineSteps.{move_of, step_by}
use Rattle.gate_state.specs.WholeMachine.{HeldState, WholeState, known_of}
use Rattle.step_trace.specs.declared.asked.Kind.{Kind}
use Rattle.step_trace.specs.declared.asked.Kind.TheVariants as kind
use Rattle.step_trace.specs.declared.asked.Shown.{Shown}
use Rattle.step_trace.specs.declared.ends.TraceEnd.{TraceEnd}
use Rattle.step_trace.specs.declared.passing.Passed.{Passed}
use Rattle.step_trace.specs.declared.passing.Passed.TheVariants as passed
use Rattle.step_trace.specs.RestsOfTraces.{IsRest, IsRestTaken, held_of}
use Rattle.step_trace.specs.StepsLeft.{steps_left}
use Rattle.step_trace.specs.ToldSteps.{are_kinds_told}
use Rattle.step_trace.specs.Traces.{IsNextHeld, ending_before, ending_behind, is_past}
use Rattle.step_trace.specs.TracesPut.{IsTaken}

-- a trace shows no turn that shows nothing
abbrev pub passes_kind : Kind → Bool
passes_kind kind.Call = true
passes_kind kind.Delivery = true
passes_kind kind.Event = true
passes_kind kind.Console = true
passes_kind _ = false

abbrev pub passes : Option Kind → Bool
passes (Some kind) = passes_kind kind
passes None = false

-- so many turns may be taken behind this many before a state is looked at: up to the last that the trace has, and one alone
-- where it ends at addresses
pub record IsLookedAt (shown : Shown) (steps turns limit : ℕ) : Type 0 where
  pub left : turns ≤ limit
  pub most : limit ≤ steps
  pub inside : (n : ℕ) → n < limit → is_past shown.to n ≡ false
  pub near : (shown.until.items ≡ []) ⊎ (limit ≤ turns + 1)

-- a state, with memory as it may be there
abbrev pub held_with : WholeState → List ℕ → HeldState
held_with w m = record { opening = w.opening; state = w.state; source = w.source; real = m }

-- the rest of a trace from a state on to which a step led that showed nothing, so that no line tells what the books hold there
pub record IsRestBehind (shown : Shown) (steps : ℕ) (plan : List Event) (w : WholeState) (why : Option TraceEnd) (text : List ℕ)
    : Type 0 where
  pub real : List ℕ
  pub seen_is : seen real ≡ w.state.memory
  pub rest : IsRest shown steps plan (ending_behind shown steps plan w.state) (held_with w real) why text

-- from one such state to another no line is shown, and the trace ends at none before the last
pub record ArePassed (shown : Shown) (steps : ℕ) (plan : List Event) (w last : WholeState) : Type 0 where
  pub leads : (why : Option TraceEnd) (text : List ℕ) → IsRestBehind shown steps plan last why text
      → IsRestBehind shown steps plan w why text
  pub opening : last.opening ≡ w.opening
  pub left : steps_left steps plan last ≤ steps_left steps plan w

-- the step from a state at which the trace doesn't end
pub record IsStepFrom (shown : Shown) (steps : ℕ) (plan : List Event) (h : HeldState) (it : Step) (next : HeldState) : Type 0 where
  pub goes : ending_before shown steps plan h.state ≡ None
  pub follows : IsNextHeld plan h next
  pub is : it ≡ step_by (move_of plan h.state) h.state
  pub nearer : steps_left steps plan (known_of next) < steps_left steps plan (known_of h)

-- the steps from one state to another were taken, with what is shown of them; the trace ends at none before the last
pub record AreTaken {O : Type 0} (taken : O → Option (List ℕ)) (faults : O → ℕ) (old new : O)
    (shown : Shown) (steps : ℕ) (plan : List Event) (h next : HeldState) : Type 0 where
  pub text : List ℕ
  pub leads : (why : Option TraceEnd) (rest : List ℕ)
      → IsRest shown steps plan (ending_before shown steps plan next.state) next why rest
      → IsRest shown steps plan (ending_before shown steps plan h.state) h why (text ++ rest)
  pub opening : next.opening ≡ h.opening
  pub nearer : steps_left steps plan (known_of next) < steps_left steps plan (known_of h)
  pub is_taken : IsTaken {A = ⊤} taken faults old new text (Ok tt)

-- what follows a state where steps are passed over: the rest was taken; or the steps to another state were
abbrev pub IsPassedBy : {O : Type 0} → (O → Option (List ℕ)) → (O → ℕ) → O → O → Shown → ℕ → List Event → HeldState → Passed → Type 0
IsPassedBy taken faults old new shown steps plan h (passed.Ended put) =
    IsRestTaken taken faults old new shown steps plan (ending_before shown steps plan h.state) h put
IsPassedBy taken faults old new shown steps plan h (passed.Goes machine) =
    AreTaken taken faults old new shown steps plan h (held_of machine)

-- a step that is shown no line of
abbrev pub IsSilent : Shown → Step → Type 0
IsSilent shown it = are_kinds_told shown.only false it false ≡ false

-- the step from a state at which the trace doesn't end, which is shown no line of
pub record IsSilentFrom (shown : Shown) (steps : ℕ) (plan : List Event) (h next : HeldState) : Type 0 where
  pub it : Step
  pub from : IsStepFrom shown steps plan h it next
  pub silent : IsSilent shown it
