-- Where a debugger stops on its way through a run, forwards and backwards, and why.
use Rattle.std.specs.Prelude.{◌≡◌, ℕ, suc, ◌-◌, ◌<◌, ◌==◌, ◌||◌, Bool, true, false, not, if◌then◌else◌, List, [], ◌∷◌, Option, Some, None}
use Rattle.std.specs.Str.{bytes_eq}
use Rattle.gate_state.specs.declared.moves.Move.{Move}
use Rattle.gate_state.specs.declared.moves.Move.TheVariants as move
use Rattle.gate_state.specs.declared.seen.Seen.TheVariants as seen
use Rattle.gate_state.specs.declared.seen.Step.{Step}
use Rattle.gate_state.specs.declared.seen.Step.TheVariants as step
use Rattle.gate_state.specs.MachineStates.{MachineState}
use Rattle.gate_state.specs.MachineSteps.{move_of, step_by}
use Rattle.cpu_step.specs.Processor.{Processor}
use Rattle.step_trace.specs.AddressesRan.{begins_at}
use Rattle.memory_sights.specs.Sights.{bytes_seen}
use Rattle.run_moments.specs.declared.stops.Catches.{Catches}
use Rattle.run_moments.specs.declared.stops.Stop.{Stop}
use Rattle.run_moments.specs.declared.stops.Stop.TheVariants as stop
use Rattle.run_moments.specs.declared.stops.Stops.{Stops}
use Rattle.run_moments.specs.declared.stops.Watch.{Watch}
use Rattle.run_moments.specs.Moments.{IsInRun, RunParts, is_over, state_at}

-- the address at which the step from a state begins: that of its instruction, or of the nested kernel's body; none where the
-- plan's event is taken, a vector is delivered, or no step is left
abbrev pub begins_by : Move → Processor → Option ℕ
begins_by move.Turn p = begins_at p
begins_by move.Serve p = Some p.regs.rip
begins_by _ p = None

-- a breakpoint stands there
abbrev pub stands_among : List ℕ → ℕ → Bool
stands_among [] address = false
stands_among (it ∷ later) address = it == address || stands_among later address

abbrev pub breaks_by : List ℕ → Option ℕ → Bool
breaks_by addresses None = false
breaks_by addresses (Some address) = stands_among addresses address

unfoldable pub breaks_at : Stops → RunParts → ℕ → Bool
breaks_at stops run k =
    let s = state_at run k in breaks_by stops.breakpoints.items (begins_by (move_of run.plan s) s.processor)

-- the first watchpoint that sees other bytes behind a step than before it
abbrev pub is_changed : MachineState → MachineState → Watch → Bool
is_changed s after watch =
    not (bytes_eq (bytes_seen s watch.address watch.count) (bytes_seen after watch.address watch.count))

abbrev pub changed_by : List Watch → MachineState → MachineState → Option Stop
changed_by [] s after = None
changed_by (watch ∷ later) s after =
    if is_changed s after watch then Some (stop.Watched watch.address) else changed_by later s after

-- a step is of a kind that is caught
abbrev pub is_caught : Catches → Step → Bool
is_caught catches (step.Seen (seen.Console byte)) = catches.console
is_caught catches (step.Seen (seen.Delivered it)) = catches.deliveries
is_caught catches (step.Seen seen.Event) = catches.events
is_caught catches (step.Called it) = catches.calls
is_caught catches _ = false

abbrev pub stop_if : Bool → Stop → Option Stop
stop_if true it = Some it
stop_if false it = None

-- the first reason that there is
abbrev pub or_else : Option Stop → Option Stop → Option Stop
or_else (Some it) later = Some it
or_else None later = later

-- why the step from behind k steps stops a debugger, if it does
unfoldable pub stop_on : Stops → RunParts → ℕ → Option Stop
stop_on stops run k =
    let s = state_at run k in
    or_else (changed_by stops.watches.items s (state_at run (suc k)))
    (stop_if (is_caught stops.catches (step_by (move_of run.plan s) s)) stop.Caught)

-- forwards a debugger stops before a step that begins at a breakpoint, behind one that stops it, and where the run is over
unfoldable pub stop_ahead : Stops → RunParts → ℕ → Option Stop
stop_ahead stops run k =
    or_else (stop_if (breaks_at stops run k) stop.Breakpoint)
    (or_else (stop_on stops run (k - 1)) (stop_if (is_over run k) stop.Ended))

pub record IsNextStop (stops : Stops) (run : RunParts) (from to : ℕ) (why : Stop) : Type 0 where
  pub ahead : from < to
  pub reached : IsInRun run to
  pub stop : stop_ahead stops run to ≡ Some why
  pub first : (k : ℕ) → from < k → k < to → stop_ahead stops run k ≡ None

-- backwards it stops before a step that begins at a breakpoint, before one that stops it, and at the beginning
unfoldable pub stop_behind : Stops → RunParts → ℕ → Option Stop
stop_behind stops run k =
    or_else (stop_if (breaks_at stops run k) stop.Breakpoint)
    (or_else (stop_on stops run k) (stop_if (k == 0) stop.Begun))

pub record IsStopBefore (stops : Stops) (run : RunParts) (from to : ℕ) (why : Stop) : Type 0 where
  pub behind : to < from
  pub stop : stop_behind stops run to ≡ Some why
  pub last : (k : ℕ) → to < k → k < from → stop_behind stops run k ≡ None
