-- How far an advance goes, and how turns rise on a way.
use Rattle.std.proofs.Common.{◌≡◌, ℕ, zero, suc, ◌+◌, ◌-◌, ◌<◌, ◌≤◌, ◌⊎◌, true, List, Option, None, Some, ap, arith, ⊎_elim}
use Rattle.std.proofs.lemmas.Bool.{cases_lt}
use Rattle.irq_plan.specs.declared.event.Event.{Event}
use Rattle.gate_state.specs.declared.moves.Move.{Move}
use Rattle.gate_state.specs.declared.moves.Move.TheVariants as move
use Rattle.gate_state.specs.declared.seen.Step.{Step}
use Rattle.gate_state.specs.MachineStates.{MachineState}
use Rattle.gate_state.specs.MachineSteps.{move_of, next}
use Rattle.gate_state.specs.StepsTaken.{CountsSteps}
use Rattle.run_moments.specs.AdvancedMoments.{IsAdvanced}
use Rattle.run_moments.specs.Moments.{IsComeBehind, IsFirstBehind, IsInRun, RunParts, is_over, state_at}
use Rattle.run_moments.proofs.Ways.{Counts, state_behind}

-- an advance takes a step, and no more than these
pub advanced_on : (run : RunParts) (limit from to : ℕ) (told : Option Step) → IsAdvanced run limit from to told → from < to
advanced_on run limit from to None it = it.some
advanced_on run limit from to (Some step) it = omega (arith, it.one)

pub advanced_within : (run : RunParts) (limit from to left : ℕ) (told : Option Step) → IsAdvanced run limit from to told
    → limit ≤ (state_at run from).turns + left → 0 < left → to ≤ from + left
advanced_within run limit from to left None it most some = omega (arith, it.within, most)
advanced_within run limit from to left (Some step) it most some = omega (arith, it.one, some)

-- a step takes one turn at most
pub record IsRise (before after : ℕ) : Type 0 where
  pub least : before ≤ after
  pub most : after ≤ before + 1

rises_by : (plan : List Event) (m : Move) (s after : MachineState) → CountsSteps plan m s after → IsRise s.turns after.turns
rises_by plan move.Serve s after counts = record { least = omega (arith, counts.turns); most = omega (arith, counts.turns) }
rises_by plan (move.Take what) s after counts = record { least = omega (arith, counts.turns); most = omega (arith, counts.turns) }
rises_by plan move.Turn s after counts = record { least = omega (arith, counts.turns); most = omega (arith, counts.turns) }
rises_by plan move.Rest s after counts =
    let same : after.turns ≡ s.turns = ap (λ (x : MachineState). x.turns) counts in
    record { least = omega (arith, same); most = omega (arith, same) }

rises : Counts → (run : RunParts) (k : ℕ) → IsRise (state_at run k).turns (state_at run (suc k)).turns
rises counts run k =
    let s = state_at run k in
    let rise = rises_by run.plan (move_of run.plan s) s (next run.plan s) (counts run.plan s) in
    let same : (state_at run (suc k)).turns ≡ (next run.plan s).turns = ap (λ (x : MachineState). x.turns) (state_behind run k) in
    record { least = omega (arith, rise.least, same); most = omega (arith, rise.most, same) }

-- so do so many steps
pub record IsRiseBy (n before after : ℕ) : Type 0 where
  pub least : before ≤ after
  pub most : after ≤ before + n

rise_from : Counts → (run : RunParts) (from n : ℕ) → IsRiseBy n (state_at run from).turns (state_at run (from + n)).turns
rise_from counts run from zero =
    let same : (state_at run (from + 0)).turns ≡ (state_at run from).turns = ap (λ (k : ℕ). (state_at run k).turns) (omega arith) in
    record { least = omega (arith, same); most = omega (arith, same) }
rise_from counts run from (suc n) =
    let before = rise_from counts run from n in
    let rise = rises counts run (from + n) in
    let same : (state_at run (from + suc n)).turns ≡ (state_at run (suc (from + n))).turns =
    ap (λ (k : ℕ). (state_at run k).turns) (omega arith) in
    record { least = omega (arith, before.least, rise.least, same); most = omega (arith, before.most, rise.most, same) }

pub rise_between : Counts → (run : RunParts) (from to : ℕ) → from ≤ to
    → IsRiseBy (to - from) (state_at run from).turns (state_at run to).turns
rise_between counts run from to on =
    let all = rise_from counts run from (to - from) in
    let same : (state_at run (from + (to - from))).turns ≡ (state_at run to).turns =
    ap (λ (k : ℕ). (state_at run k).turns) (omega (arith, on)) in
    record { least = omega (arith, all.least, same); most = omega (arith, all.most, same) }

-- fewer turns than so many were taken up to here, and so they were up to there
pub fewer_before : Counts → (run : RunParts) (turns to : ℕ) → (state_at run to).turns < turns → (k : ℕ) → k < to
    → (state_at run k).turns < turns
fewer_before counts run turns to few k below =
    let rise = rise_between counts run k to (omega (arith, below)) in
    omega (arith, rise.least, few)

pub fewer_on : Counts → (run : RunParts) (turns from to taken : ℕ) → taken ≡ (state_at run from).turns → taken < turns
    → to ≤ from + (turns - taken) → (k : ℕ) → k < to → (state_at run k).turns < turns
fewer_on counts run turns from to taken is few within k below =
    ⊎_elim
    (λ (before : k < from). fewer_before counts run turns from (omega (arith, is, few)) k before)
    (λ (behind : from ≤ k). (let rise = rise_between counts run from k behind in omega (arith, rise.most, is, few, within, below, behind)))
    (cases_lt k from)

-- the ends of a way
pub behind_there : (run : RunParts) (steps to : ℕ) → IsInRun run to → to ≡ steps → IsComeBehind run steps to
behind_there run steps to reached is = record {
  reached = reached;
  within = omega (arith, is);
  there = λ before. absurd (omega (arith, is, before));
}

pub behind_over : (run : RunParts) (steps to : ℕ) → IsInRun run to → to ≤ steps → is_over run to ≡ true → IsComeBehind run steps to
behind_over run steps to reached within over = record { reached = reached; within = within; there = λ before. over }

pub first_behind : (run : RunParts) (turns to : ℕ) → IsInRun run to → (turns ≤ (state_at run to).turns) ⊎ (is_over run to ≡ true)
    → ((k : ℕ) → k < to → (state_at run k).turns < turns) → IsFirstBehind run turns to
first_behind run turns to reached there first = record { reached = reached; there = there; first = first }
