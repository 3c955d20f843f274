-- A call comes back: each step is a turn or an event, and the machine doesn't rest, so that as many turns are taken within as
-- many steps as the turns and the plan's events are.
use Rattle.std.proofs.Common.{◌≡◌, ◌⊎◌, ℕ, zero, suc, ◌+◌, ◌<◌, ◌≤◌, false, List, sym, subst, arith, inl, inr}
use Rattle.std.specs.Prelude.{length}
use Rattle.std.proofs.lemmas.Bool.{cases_lt, false≢true}
use Rattle.irq_plan.specs.declared.event.Event.{Event}
use Rattle.gate_state.specs.declared.moves.Move.{Move}
use Rattle.gate_state.specs.declared.moves.Move.TheVariants as move
use Rattle.gate_state.specs.GateCalls.{ComesLater, IsCalledBack, IsCalledThrough}
use Rattle.gate_state.specs.MachineStates.{MachineState}
use Rattle.gate_state.specs.MachineSteps.{move_of, next, state}
use Rattle.gate_state.specs.StepsTaken.{CountsSteps, TakesOneTurn}
use Rattle.gate_state.specs.WholeMachine.{is_rest}
use Rattle.gate_state.proofs.CallThrough.{first_state, last_step}
use Rattle.gate_state.proofs.RunsSafe.{step_counts}

-- behind k steps not so many turns were taken yet: each step was a turn or an event
record IsGoing (plan : List Event) (s : MachineState) (total k : ℕ) (t : MachineState) : Type 0 where
  below : t.turns < s.turns + total
  sum : t.turns + t.taken ≡ s.turns + s.taken + k
  events : t.taken ≤ s.taken + length plan

-- within k steps they were
record ComesWithin (plan : List Event) (s : MachineState) (total k : ℕ) : Type 0 where
  steps : ℕ
  few : steps ≤ k
  there : (state plan s steps).turns ≡ s.turns + total

one_turn : (plan : List Event) (s : MachineState) (total k : ℕ) (t after : MachineState) → TakesOneTurn t after
    → IsGoing plan s total k t → (after.turns ≡ s.turns + total) ⊎ IsGoing plan s total (suc k) after
one_turn plan s total k t after counts going = elim (cases_lt (t.turns + 1) (s.turns + total)) [
  | inl below ↦ inr (record {
    below = omega (arith, below, counts.turns);
    sum = omega (arith, going.sum, counts.turns, counts.taken);
    events = omega (arith, going.events, counts.taken);
  })
  | inr past ↦ inl (omega (arith, past, going.below, counts.turns))
]

one_step : (plan : List Event) (s : MachineState) (total k : ℕ) (m : Move) (t after : MachineState) → is_rest m ≡ false
    → CountsSteps plan m t after → IsGoing plan s total k t
    → (after.turns ≡ s.turns + total) ⊎ IsGoing plan s total (suc k) after
one_step plan s total k move.Serve t after runs counts going = one_turn plan s total k t after counts going
one_step plan s total k (move.Take what) t after runs counts going = inr (record {
  below = omega (arith, going.below, counts.turns);
  sum = omega (arith, going.sum, counts.turns, counts.taken);
  events = omega (arith, counts.taken, counts.left);
})
one_step plan s total k move.Turn t after runs counts going = one_turn plan s total k t after counts going
one_step plan s total k move.Rest t after runs counts going = absurd (false≢true (sym runs))

module _ (plan : List Event) (s : MachineState) (total : ℕ) (some : 0 < total)
    (runs : (k : ℕ) → (state plan s k).turns < s.turns + total → is_rest (move_of plan (state plan s k)) ≡ false) where
  goes : (k : ℕ) → ComesWithin plan s total k ⊎ IsGoing plan s total k (state plan s k)
  goes zero =
      inr (subst (IsGoing plan s total 0) (sym (first_state plan s))
      (record { below = omega (arith, some); sum = omega arith; events = omega arith }))
  goes (suc k) = elim (goes k) [
    | inl it ↦ inl (record { steps = it.steps; few = omega (arith, it.few); there = it.there })
    | inr going ↦ elim (one_step plan s total k (move_of plan (state plan s k)) (state plan s k) (next plan (state plan s k))
        (runs k going.below) (step_counts plan (state plan s k)) going) [
          | inl there ↦ inl (record {
            steps = suc k;
            few = omega arith;
            there = subst (λ (x : MachineState). x.turns ≡ s.turns + total) (sym (last_step plan s k)) there;
          })
          | inr on ↦ inr (subst (IsGoing plan s total (suc k)) (sym (last_step plan s k)) on)
        ]
  ]

  pub comes_later : ComesLater plan s total
  comes_later = elim (goes (total + length plan)) [
    | inl it ↦ record { steps = it.steps; few = it.few; there = it.there }
    | inr going ↦ absurd (omega (arith, going.below, going.sum, going.events))
  ]

pub called_back : (plan : List Event) (s : MachineState) → ((k : ℕ) → IsCalledThrough plan s k) → IsCalledBack plan s
called_back plan s through = record {
  body = comes_later plan s 6 (omega arith) (λ k few. (through k).runs (omega (arith, few)));
  back = comes_later plan s 14 (omega arith) (λ k few. (through k).runs few);
}
