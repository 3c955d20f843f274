-- How a debugger's stops are met on the way: what it kept of watched bytes, and the steps that it takes at a time.
use Rattle.std.specs.Prelude.{◌≡◌, ℕ, suc, ◌+◌, ◌-◌, ◌<◌, ◌≤◌, ◌⊎◌, Bool, true, false, not, if◌then◌else◌, List, [], ◌∷◌, length, Option, Some, None}
use Rattle.std.specs.Str.{bytes_eq}
use Rattle.arrayvec.specs.ArrayVec.{ArrayVec}
use Rattle.gate_state.specs.declared.seen.Step.{Step}
use Rattle.gate_state.specs.MachineStates.{MachineState}
use Rattle.memory_sights.specs.Sights.{bytes_seen}
use Rattle.run_moments.specs.declared.behind.Found.{Found}
use Rattle.run_moments.specs.declared.stops.Catches.{Catches}
use Rattle.run_moments.specs.declared.stops.Stop.{Stop}
use Rattle.run_moments.specs.declared.stops.Stop.TheVariants as stop
use Rattle.run_moments.specs.declared.stops.Stops.{Stops}
use Rattle.run_moments.specs.declared.stops.Watch.{Watch}
use Rattle.run_moments.specs.Moments.{IsInRun, RunParts, is_over}
use Rattle.run_moments.specs.Stops.{is_caught, stop_ahead, stop_behind, stop_on}

-- the bytes of each watchpoint at a state
abbrev pub glances_of : MachineState → Watch → ArrayVec ℕ
glances_of s watch = record { items = bytes_seen s watch.address watch.count }

abbrev pub all_seen : List Watch → MachineState → List (ArrayVec ℕ)
all_seen [] s = []
all_seen (watch ∷ later) s = glances_of s watch ∷ all_seen later s

-- the first watchpoint that sees other bytes at a state than those that were kept
abbrev pub differs_by : List Watch → List (ArrayVec ℕ) → MachineState → Option Stop
differs_by (watch ∷ later) (kept ∷ others) s =
    if not (bytes_eq kept.items (glances_of s watch).items) then Some (stop.Watched watch.address) else differs_by later others s
differs_by _ _ s = None

-- a step that was told is caught; quick turns never are
abbrev pub shows_step : Catches → Option Step → Bool
shows_step catches None = false
shows_step catches (Some it) = is_caught catches it

-- some steps were taken, and the last stops a debugger for this reason, if it does; where there are others before, these don't,
-- and there are no breakpoints
pub record IsPassed (stops : Stops) (run : RunParts) (from to : ℕ) (why : Option Stop) : Type 0 where
  pub ahead : from < to
  pub on : why ≡ stop_on stops run (to - 1)
  pub before : (k : ℕ) → from ≤ k → suc k < to → stop_on stops run k ≡ None
  pub alone : (to ≡ suc from) ⊎ (stops.breakpoints.items ≡ [])

-- a debugger came to a moment, and stops there for this reason, if it does; it did at none before
pub record IsComeAhead (stops : Stops) (run : RunParts) (from to : ℕ) (why : Option Stop) : Type 0 where
  pub ahead : from < to
  pub most : to ≤ run.turns + length run.plan
  pub reached : IsInRun run to
  pub stop : why ≡ stop_ahead stops run to
  pub before : (k : ℕ) → from < k → k < to → stop_ahead stops run k ≡ None
  pub going : why ≡ None → is_over run to ≡ false

-- the last stop on the way over steps, of which the last begins behind so many
abbrev pub found_by : ℕ → Bool → Option Stop → Bool → Option Found
found_by at true on begun = Some (record { at = at; why = stop.Breakpoint })
found_by at false (Some why) begun = Some (record { at = at; why = why })
found_by at false None true = Some (record { at = 0; why = stop.Begun })
found_by at false None false = None

-- where there is one, and where there is none
pub record IsFoundAt (stops : Stops) (run : RunParts) (from to : ℕ) (it : Found) : Type 0 where
  pub least : from ≤ it.at
  pub below : it.at < to
  pub stop : stop_behind stops run it.at ≡ Some it.why
  pub last : (k : ℕ) → it.at < k → k < to → stop_behind stops run k ≡ None

pub record IsFoundNowhere (stops : Stops) (run : RunParts) (from to : ℕ) : Type 0 where
  pub behind : 0 < from
  pub none : (k : ℕ) → from ≤ k → k < to → stop_behind stops run k ≡ None

abbrev pub IsFound : Stops → RunParts → ℕ → ℕ → Option Found → Type 0
IsFound stops run from to (Some it) = IsFoundAt stops run from to it
IsFound stops run from to None = IsFoundNowhere stops run from to
