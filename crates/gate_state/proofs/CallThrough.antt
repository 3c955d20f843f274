-- A call that is made through the gates with IF clear comes to the body after six turns and comes back after fourteen,
-- whatever events of the plan stand between.
use Rattle.std.proofs.Common.{◌≡◌, ◌⊎◌, ℕ, zero, suc, ◌+◌, ◌^◌, ◌<◌, ◌≤◌, true, false, List, refl, sym, subst, ◌∙◌, arith, inl, inr}
use Rattle.std.specs.Prelude.{◌==◌}
use Rattle.std.proofs.lemmas.Bool.{false≢true}
use Rattle.nk_bits.specs.declared.kind.Kind.{Kind}
use Rattle.irq_plan.specs.declared.event.Event.{Event}
use Rattle.irq_plan.specs.PlannedEvents.{IsPlan}
use Rattle.cpu_step.specs.Turns.{enters_body}
use Rattle.gate_state.specs.GateCalls.{IsCalledThrough, IsCallAnswered, IsCalling, IsServed}
use Rattle.gate_state.specs.GuardedStates.{AreKinds, IsAdmitted, IsGuarded}
use Rattle.gate_state.specs.MachineStates.{MachineState, Opening, nested_of}
use Rattle.gate_state.specs.MachineSteps.{after_event, after_turn, next, served, state}
use Rattle.gate_state.proofs.LowerLaws.{LowerLaws}
use Rattle.gate_state.proofs.TurnFacts.{TurnFacts}
use Rattle.gate_state.proofs.CallThroughBack.{from_answering, from_jumping, from_raising, from_rereading, from_restoring, from_setting, from_testing}
use Rattle.gate_state.proofs.CallThroughBody.{call_same, enters, from_serving}
use Rattle.gate_state.proofs.CallThroughGoing.{from_clearing, from_closing, from_keeping, from_masking, from_reading, from_stacking}
use Rattle.gate_state.proofs.CallThroughMoves.{by_event_or_turn, by_serving, no_rest, turns_grow}
use Rattle.gate_state.proofs.CallThroughStages.{IsAt, Stage, Answering, Clearing, Closing, Jumping, Keeping, Masking, Raising, Reading, Rereading, Restoring, Returning, Serving, Setting, Stacking, Testing, event_stays, is_behind, offset_of, turns_of}
use Rattle.gate_state.proofs.CallThroughTurn.{away_from_body, no_body, no_wait}

-- a state of a call that began in s, k steps later: at one of the stages up to the body; at one behind it, and the body ran
-- after fewer steps; or past them
record IsGoingOn (o : Opening) (s t : MachineState) : Type 0 where
  stage : Stage
  before : is_behind stage ≡ false
  at : IsAt o stage s t

record IsComingBack (o : Opening) (plan : List Event) (s : MachineState) (k : ℕ) (t : MachineState) : Type 0 where
  body : ℕ
  below : body < k
  ran : IsAt o Serving s (state plan s body)
  stage : Stage
  behind : is_behind stage ≡ true
  at : IsAt o stage (state plan s body) t

abbrev IsUnderway : Opening → List Event → MachineState → ℕ → MachineState → Type 0
IsUnderway o plan s k t = IsGoingOn o s t ⊎ IsComingBack o plan s k t ⊎ (s.turns + 14 < t.turns)

-- the first stage
begins : (o : Opening) (s : MachineState) → IsGuarded o s → IsCalling s.processor → IsAt o Keeping s s
begins o s guarded calling = record {
  guarded = guarded;
  stands = record {
    supervisor = calling.supervisor;
    runs = calling.runs;
    uninterrupted = calling.uninterrupted;
    rip = calling.rip;
  };
  holds = (record { nested = refl; others = λ k a b c. refl }, refl);
  turns = omega arith;
}

-- how many turns the stages take
turns_before : (stage : Stage) → is_behind stage ≡ false → turns_of stage ≤ 6
turns_before Keeping before = omega arith
turns_before Reading before = omega arith
turns_before Masking before = omega arith
turns_before Clearing before = omega arith
turns_before Closing before = omega arith
turns_before Stacking before = omega arith
turns_before Serving before = omega arith
turns_before _ before = absurd (false≢true (sym before))

turns_behind : (stage : Stage) → is_behind stage ≡ true → 1 ≤ turns_of stage
turns_behind Rereading behind = omega arith
turns_behind Raising behind = omega arith
turns_behind Setting behind = omega arith
turns_behind Testing behind = omega arith
turns_behind Jumping behind = omega arith
turns_behind Restoring behind = omega arith
turns_behind Answering behind = omega arith
turns_behind Returning behind = omega arith
turns_behind _ behind = absurd (false≢true behind)

-- six turns lead to the body
at_six : (o : Opening) (s t : MachineState) (stage : Stage) → is_behind stage ≡ false → IsAt o stage s t
    → t.turns ≡ s.turns + 6 → enters_body t.processor ≡ true
at_six o s t Serving before at six = enters t.processor at.stands at.holds.2
at_six o s t Restoring before at six = absurd (false≢true (sym before))
at_six o s t _ before at six = absurd (omega (arith, at.turns, six))

-- and eight more back
at_fourteen : (o : Opening) (s u t : MachineState) (stage : Stage) → is_behind stage ≡ true → IsAt o Serving s u
    → IsAt o stage u t → u.ledger.book.next < 2 ^ 63 → t.turns ≡ s.turns + 14 → IsCallAnswered s u t
at_fourteen o s u t Returning behind ran at few done = record {
  rip = at.stands.rip;
  kept = at.holds.2;
  stack = at.holds.1 ∙ ran.holds.1;
  call = call_same s u.processor.regs (nested_of u) ran.holds.0;
  nested = ran.holds.0.nested;
  answer = at.holds.0.value few;
  place = at.holds.0.place;
}
at_fourteen o s u t _ behind ran at few done = absurd (omega (arith, at.turns, ran.turns, done))

-- one step more is the step from the last state
pub last_step : (plan : List Event) (s : MachineState) (k : ℕ) → state plan s (suc k) ≡ next plan (state plan s k)
unfolding state
last_step plan s zero = refl
last_step plan s (suc k) = last_step plan (next plan s) k

pub first_state : (plan : List Event) (s : MachineState) → state plan s zero ≡ s
unfolding state
first_state plan s = refl

module _ (laws : LowerLaws) (o : Opening) (admitted : IsAdmitted o)
    (facts : (ks : List Kind) → AreKinds o ks → TurnFacts o ks)
    (body : (s : MachineState) → enters_body s.processor ≡ true → IsGuarded o s → IsGuarded o (served s))
    (plan : List Event) (s : MachineState) (planned : IsPlan plan) where
  -- at a stage but the body's, an event leaves the stage, and a turn leads on
  goes_on : (P : MachineState → Type 0) (stage : Stage) (u t : MachineState) → IsAt o stage u t
      → (offset_of stage == 27) ≡ false → ((after : MachineState) → IsAt o stage u after → P after) → P (after_turn t)
      → P (next plan t)
  goes_on P stage u t at other stays turn =
      by_event_or_turn plan t P planned
      (no_body t.processor (away_from_body (offset_of stage) t.processor at.stands.rip other))
      (no_wait t.processor at.stands.runs)
      (λ what plannable. stays (after_event what t) (event_stays laws o admitted stage u t what plannable at)) turn

  module _ (k : ℕ) where
    abbrev t : MachineState
    t = state plan s k

    abbrev Later : MachineState → Type 0
    Later after = IsUnderway o plan s (suc k) after

    -- up to the body
    goes : (stage next_stage : Stage) → is_behind stage ≡ false → is_behind next_stage ≡ false
        → (offset_of stage == 27) ≡ false → IsAt o stage s t → IsAt o next_stage s (after_turn t) → Later (next plan t)
    goes stage next_stage before still other at turn =
        goes_on Later stage s t at other (λ after there. inl (record { stage = stage; before = before; at = there }))
        (inl (record { stage = next_stage; before = still; at = turn }))

    from_going : (stage : Stage) → is_behind stage ≡ false → IsAt o stage s t → Later (next plan t)
    from_going Keeping b at = goes Keeping Reading b refl refl at (from_keeping laws o admitted facts s t at)
    from_going Reading b at = goes Reading Masking b refl refl at (from_reading laws o admitted facts s t at)
    from_going Masking b at = goes Masking Clearing b refl refl at (from_masking laws o admitted facts s t at)
    from_going Clearing b at = goes Clearing Closing b refl refl at (from_clearing laws o admitted facts s t at)
    from_going Closing b at = goes Closing Stacking b refl refl at (from_closing laws o admitted facts s t at)
    from_going Stacking b at = goes Stacking Serving b refl refl at (from_stacking laws o admitted facts s t at)
    from_going Serving b at =
        subst Later (sym (by_serving plan t (enters t.processor at.stands at.holds.2)))
        (inr (inl (record {
          body = k;
          below = omega arith;
          ran = at;
          stage = Rereading;
          behind = refl;
          at = from_serving laws o body s t at;
        })))
    from_going _ b at = absurd (false≢true (sym b))

    -- behind it
    module _ (n : ℕ) (below : n < k) (ran : IsAt o Serving s (state plan s n)) where
      abbrev u : MachineState
      u = state plan s n

      back : (stage : Stage) (after : MachineState) → is_behind stage ≡ true → IsAt o stage u after → Later after
      back stage after behind at =
          inr (inl (record { body = n; below = omega (arith, below); ran = ran; stage = stage; behind = behind; at = at }))

      comes : (stage next_stage : Stage) → is_behind stage ≡ true → is_behind next_stage ≡ true
          → (offset_of stage == 27) ≡ false → IsAt o stage u t → IsAt o next_stage u (after_turn t) → Later (next plan t)
      comes stage next_stage behind still other at turn =
          goes_on Later stage u t at other (λ after there. back stage after behind there)
          (back next_stage (after_turn t) still turn)

      past_return : IsAt o Returning u t → Later (after_turn t)
      unfolding after_turn
      past_return at = inr (inr (omega (arith, at.turns, ran.turns)))

      from_coming : (stage : Stage) → is_behind stage ≡ true → IsAt o stage u t → Later (next plan t)
      from_coming Rereading b at = comes Rereading Raising b refl refl at (from_rereading laws o admitted facts u t at)
      from_coming Raising b at = comes Raising Setting b refl refl at (from_raising laws o admitted facts u t at)
      from_coming Setting b at = comes Setting Testing b refl refl at (from_setting laws o admitted facts u t at)
      from_coming Testing b at = comes Testing Jumping b refl refl at (from_testing laws o admitted facts u t at)
      from_coming Jumping b at = comes Jumping Restoring b refl refl at (from_jumping laws o admitted facts u t at)
      from_coming Restoring b at = comes Restoring Answering b refl refl at (from_restoring laws o admitted facts u t at)
      from_coming Answering b at = comes Answering Returning b refl refl at (from_answering laws o admitted facts u t at)
      from_coming Returning b at =
          goes_on Later Returning u t at refl (λ after there. back Returning after b there) (past_return at)
      from_coming _ b at = absurd (false≢true b)

    next_underway : IsUnderway o plan s k t → Later (next plan t)
    next_underway (inl going) = from_going going.stage going.before going.at
    next_underway (inr (inl coming)) = from_coming coming.body coming.below coming.ran coming.stage coming.behind coming.at
    next_underway (inr (inr past)) = inr (inr (omega (arith, past, turns_grow plan t)))

  goes_through : (k : ℕ) → IsGuarded o s → IsCalling s.processor → IsUnderway o plan s k (state plan s k)
  goes_through zero guarded calling = inl (record { stage = Keeping; before = refl; at = begins_here guarded calling })
    where
      begins_here : IsGuarded o s → IsCalling s.processor → IsAt o Keeping s (state plan s zero)
      begins_here guarded calling = subst (IsAt o Keeping s) (sym (first_state plan s)) (begins o s guarded calling)
  goes_through (suc k) guarded calling =
      subst (IsUnderway o plan s (suc k)) (sym (last_step plan s k)) (next_underway k (goes_through k guarded calling))

  served_there : (k n : ℕ) → n < k → IsAt o Serving s (state plan s n) → (stage : Stage) → is_behind stage ≡ true
      → IsAt o stage (state plan s n) (state plan s k) → s.turns < 2 ^ 32 → (state plan s k).turns ≡ s.turns + 14
      → IsServed plan s k
  served_there k n below ran stage behind at few done = record {
    at = n;
    before = below;
    turns = ran.turns;
    enters = enters (state plan s n).processor ran.stands ran.holds.2;
    answered =
        at_fourteen o s (state plan s n) (state plan s k) stage behind ran at
        (omega (arith, ran.guarded.next, ran.turns, few)) done;
  }

  underway_called : (k : ℕ) → IsUnderway o plan s k (state plan s k) → IsCalledThrough plan s k
  underway_called k (inl going) = record {
    reaches = at_six o s (state plan s k) going.stage going.before going.at;
    returns = λ few done. absurd (omega (arith, going.at.turns, turns_before going.stage going.before, done));
    runs = λ early. no_rest plan (state plan s k) (no_wait (state plan s k).processor going.at.stands.runs);
  }
  underway_called k (inr (inl coming)) = record {
    reaches = λ six.
        absurd (omega (arith, coming.at.turns, coming.ran.turns, turns_behind coming.stage coming.behind, six));
    returns = served_there k coming.body coming.below coming.ran coming.stage coming.behind coming.at;
    runs = λ early. no_rest plan (state plan s k) (no_wait (state plan s k).processor coming.at.stands.runs);
  }
  underway_called k (inr (inr past)) = record {
    reaches = λ six. absurd (omega (arith, past, six));
    returns = λ few done. absurd (omega (arith, past, done));
    runs = λ early. absurd (omega (arith, past, early));
  }

  pub called_through : (k : ℕ) → IsGuarded o s → IsCalling s.processor → IsCalledThrough plan s k
  called_through k guarded calling = underway_called k (goes_through k guarded calling)
