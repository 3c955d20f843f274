-- How a run goes on from one of its moments: by quick turns, or by one step.
use Rattle.std.specs.Prelude.{◌≡◌, ℕ, suc, ◌+◌, ◌<◌, ◌≤◌, Option, None, Some}
use Rattle.gate_state.specs.declared.moves.Move.TheVariants as move
use Rattle.gate_state.specs.declared.seen.Seen.TheVariants as seen
use Rattle.gate_state.specs.declared.seen.Step.{Step}
use Rattle.gate_state.specs.MachineSteps.{move_of, seen_by, step_by}
use Rattle.run_moments.specs.Moments.{RunParts, state_at}

-- between two moments each step is a turn that shows nothing
pub record IsQuietAt (run : RunParts) (k : ℕ) : Type 0 where
  pub turn : move_of run.plan (state_at run k) ≡ move.Turn
  pub quiet : seen_by move.Turn (state_at run k) ≡ seen.Quiet

abbrev pub AreQuietBetween : RunParts → ℕ → ℕ → Type 0
AreQuietBetween run from to = (k : ℕ) → from ≤ k → k < to → IsQuietAt run k

-- some such steps were taken, and no more than leave so many turns in all; or one step was, which is told
pub record AreQuickSteps (run : RunParts) (limit from to : ℕ) : Type 0 where
  pub some : from < to
  pub quiet : AreQuietBetween run from to
  pub within : to + (state_at run from).turns ≤ limit + from

pub record IsOneStep (run : RunParts) (from to : ℕ) (it : Step) : Type 0 where
  pub one : to ≡ suc from
  pub step : it ≡ step_by (move_of run.plan (state_at run from)) (state_at run from)

abbrev pub IsAdvanced : RunParts → ℕ → ℕ → ℕ → Option Step → Type 0
IsAdvanced run limit from to None = AreQuickSteps run limit from to
IsAdvanced run limit from to (Some it) = IsOneStep run from to it
