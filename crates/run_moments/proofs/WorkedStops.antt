-- Stops worked out: which reason comes first, which steps are caught, and where a step begins.
use Rattle.std.proofs.Common.{◌≡◌, ◌≢◌, ℕ, ◌-◌, ◌==◌, Bool, true, false, [], ◌∷◌, Option, None, Some, refl, ap}
use Rattle.irq_plan.specs.declared.event.What.{What}
use Rattle.cpu_step.specs.Processor.{Processor}
use Rattle.gate_state.specs.declared.moves.Move.TheVariants as move
use Rattle.gate_state.specs.declared.seen.Called.{Called}
use Rattle.gate_state.specs.declared.seen.Seen.TheVariants as seen
use Rattle.gate_state.specs.declared.seen.Step.TheVariants as step
use Rattle.gate_state.specs.MachineStates.{MachineState}
use Rattle.run_moments.specs.declared.stops.Catches.{Catches}
use Rattle.run_moments.specs.declared.stops.Stop.{Stop}
use Rattle.run_moments.specs.declared.stops.Stop.TheVariants as stop
use Rattle.run_moments.specs.declared.stops.Stops.{Stops}
use Rattle.run_moments.specs.declared.stops.Watch.{Watch}
use Rattle.run_moments.specs.Moments.{RunParts, is_over}
use Rattle.run_moments.specs.Stops.{begins_by, breaks_at, changed_by, is_caught, is_changed, or_else, stop_ahead, stop_behind, stop_if, stop_on}

-- an event and rest begin at no address, the body at RIP
event_at_none : (what : What) (p : Processor) → begins_by (move.Take what) p ≡ None
event_at_none what p = refl

rest_at_none : (p : Processor) → begins_by move.Rest p ≡ None
rest_at_none p = refl

body_at_rip : (p : Processor) → begins_by move.Serve p ≡ Some p.regs.rip
body_at_rip p = refl

-- each kind of step is caught by its own catch alone
abbrev calls_alone : Catches
calls_alone = record { calls = true; deliveries = false; events = false; console = false }

caught_call : (it : Called) → is_caught calls_alone (step.Called it) ≡ true
caught_call it = refl

uncaught : (byte : ℕ) → (is_caught calls_alone (step.Seen seen.Event) ≡ false)
    × (is_caught calls_alone (step.Seen (seen.Console byte)) ≡ false) × (is_caught calls_alone (step.Seen seen.Quiet) ≡ false)
    × (is_caught calls_alone step.Rested ≡ false)
uncaught byte = (refl, refl, refl, refl)

-- of two watchpoints that see other bytes the first is told
first_watched : (s after : MachineState) (one other : Watch) → is_changed s after one ≡ true
    → changed_by (one ∷ other ∷ []) s after ≡ Some (stop.Watched one.address)
first_watched s after one other is = search

second_watched : (s after : MachineState) (one other : Watch) → is_changed s after one ≡ false → is_changed s after other ≡ true
    → changed_by (one ∷ other ∷ []) s after ≡ Some (stop.Watched other.address)
second_watched s after one other same is = search

-- a breakpoint comes first
pub break_ahead : (stops : Stops) (run : RunParts) (k : ℕ) → breaks_at stops run k ≡ true
    → stop_ahead stops run k ≡ Some stop.Breakpoint
unfolding stop_ahead
break_ahead stops run k is = ap (λ b. or_else (stop_if b stop.Breakpoint) (or_else (stop_on stops run (k - 1)) (stop_if (is_over run k) stop.Ended))) is

pub break_behind : (stops : Stops) (run : RunParts) (k : ℕ) → breaks_at stops run k ≡ true
    → stop_behind stops run k ≡ Some stop.Breakpoint
unfolding stop_behind
break_behind stops run k is = ap (λ b. or_else (stop_if b stop.Breakpoint) (or_else (stop_on stops run k) (stop_if (k == 0) stop.Begun))) is

-- then what the step before did, and last of all the end
pub ended_ahead : (stops : Stops) (run : RunParts) (k : ℕ) → breaks_at stops run k ≡ false → stop_on stops run (k - 1) ≡ None
    → is_over run k ≡ true → stop_ahead stops run k ≡ Some stop.Ended
unfolding stop_ahead
ended_ahead stops run k here on over =
    λ i. or_else (stop_if (here i) stop.Breakpoint) (or_else (on i) (stop_if (over i) stop.Ended))

by_parts : (breaks : Bool) (on : Option Stop)
    → or_else (stop_if breaks stop.Breakpoint) (or_else on (stop_if true stop.Begun)) ≡ None → ⊥
by_parts true on none = absurd (cc)
by_parts false (Some why) none = absurd (cc)
by_parts false None none = absurd (cc)

-- the beginning stops a debugger on its way back, whatever stands there
pub some_at_begin : (stops : Stops) (run : RunParts) → stop_behind stops run 0 ≢ None
unfolding stop_behind
some_at_begin stops run none = by_parts (breaks_at stops run 0) (stop_on stops run 0) none
