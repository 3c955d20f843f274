-- The next stop ahead, and the last one before, from those of the steps that were passed.
use Rattle.std.proofs.Common.{pos_of_ne-zero, true≢false, unwrap_or, ◌≡◌, ℕ, suc, ◌+◌, ◌-◌, ◌<◌, ◌≤◌, Bool, true, false, ◌==◌, List, [], length, Option, None, Some, refl, sym, ap, subst, ◌∙◌, arith, ⊎_elim}
use Rattle.std.proofs.lemmas.Bool.{cases_lt, eqb-false, eqb-true, ne_eqb}
use Rattle.gate_state.specs.MachineSteps.{move_of}
use Rattle.run_moments.specs.declared.behind.Found.{Found}
use Rattle.run_moments.specs.declared.stops.Stop.{Stop}
use Rattle.run_moments.specs.declared.stops.Stop.TheVariants as stop
use Rattle.run_moments.specs.declared.stops.Stops.{Stops}
use Rattle.run_moments.specs.Moments.{IsComeBehind, IsInRun, RunParts, is_over, state_at}
use Rattle.run_moments.specs.Stops.{IsNextStop, IsStopBefore, begins_by, breaks_at, breaks_by, or_else, stop_ahead, stop_behind, stop_if, stop_on}
use Rattle.run_moments.specs.StopsMet.{IsComeAhead, IsFound, IsFoundAt, IsPassed, found_by}

-- where there are no breakpoints, none stands anywhere
none_breaks : (addresses : List ℕ) (begins : Option ℕ) → addresses ≡ [] → breaks_by addresses begins ≡ false
none_breaks addresses None none = refl
none_breaks addresses (Some address) none = ap (λ l. breaks_by l (Some address)) none

no_breaks : (stops : Stops) (run : RunParts) (k : ℕ) → stops.breakpoints.items ≡ [] → breaks_at stops run k ≡ false
unfolding breaks_at
no_breaks stops run k none =
    none_breaks stops.breakpoints.items (begins_by (move_of run.plan (state_at run k)) (state_at run k).processor) none

-- what stops ahead, and behind
ahead_by : (stops : Stops) (run : RunParts) (k : ℕ) (breaks over : Bool) (on : Option Stop) → breaks ≡ breaks_at stops run k
    → on ≡ stop_on stops run (k - 1) → over ≡ is_over run k
    → or_else (stop_if breaks stop.Breakpoint) (or_else on (stop_if over stop.Ended)) ≡ stop_ahead stops run k
unfolding stop_ahead
ahead_by stops run k breaks over on breaks_is on_is over_is =
    λ i. or_else (stop_if (breaks_is i) stop.Breakpoint) (or_else (on_is i) (stop_if (over_is i) stop.Ended))

behind_by : (stops : Stops) (run : RunParts) (k : ℕ) (breaks begun : Bool) (on : Option Stop) → breaks ≡ breaks_at stops run k
    → on ≡ stop_on stops run k → begun ≡ (k == 0)
    → or_else (stop_if breaks stop.Breakpoint) (or_else on (stop_if begun stop.Begun)) ≡ stop_behind stops run k
unfolding stop_behind
behind_by stops run k breaks begun on breaks_is on_is begun_is =
    λ i. or_else (stop_if (breaks_is i) stop.Breakpoint) (or_else (on_is i) (stop_if (begun_is i) stop.Begun))

-- the run isn't over where a debugger doesn't stop
over_none : (breaks over : Bool) (on : Option Stop)
    → or_else (stop_if breaks stop.Breakpoint) (or_else on (stop_if over stop.Ended)) ≡ None → over ≡ false
over_none breaks false on none = refl
over_none true true on none = absurd (cc)
over_none false true None none = absurd (cc)
over_none false true (Some why) none = absurd (cc)

-- steps that were passed lead to a moment ahead
pub come_ahead : (stops : Stops) (run : RunParts) (from to : ℕ) (on why : Option Stop) (breaks over : Bool)
    → IsPassed stops run from to on → IsInRun run to → to ≤ run.turns + length run.plan → breaks ≡ breaks_at stops run to
    → over ≡ is_over run to → why ≡ or_else (stop_if breaks stop.Breakpoint) (or_else on (stop_if over stop.Ended))
    → IsComeAhead stops run from to why
come_ahead stops run from to on why breaks over passed reached most breaks_is over_is is = record {
  ahead = passed.ahead;
  most = most;
  reached = reached;
  stop = is ∙ ahead_by stops run to breaks over on breaks_is passed.on over_is;
  before = λ k ahead below.
      ⊎_elim
      (λ (one : to ≡ suc from). absurd (omega (arith, one, ahead, below)))
      (λ (none : stops.breakpoints.items ≡ []).
      sym (ahead_by stops run k false false None (sym (no_breaks stops run k none))
      (sym (passed.before (k - 1) (omega (arith, ahead)) (omega (arith, ahead, below)))) (sym (reached k below))))
      passed.alone;
  going = λ none. sym over_is ∙ over_none breaks over on (sym is ∙ none);
}

-- the way on to the next stop
pub record IsOnWay (stops : Stops) (run : RunParts) (from k : ℕ) : Type 0 where
  pub on : from ≤ k
  pub going : is_over run k ≡ false
  pub none : (j : ℕ) → from < j → j ≤ k → stop_ahead stops run j ≡ None

pub begins_way : (stops : Stops) (run : RunParts) (from : ℕ) → is_over run from ≡ false → IsOnWay stops run from from
begins_way stops run from going = record {
  on = omega arith;
  going = going;
  none = λ j ahead most. absurd (omega (arith, ahead, most));
}

none_on : (stops : Stops) (run : RunParts) (from k to : ℕ) (why : Option Stop) → IsOnWay stops run from k
    → IsComeAhead stops run k to why → (j : ℕ) → from < j → j < to → stop_ahead stops run j ≡ None
none_on stops run from k to why way come j ahead below =
    ⊎_elim (λ (behind : k < j). come.before j behind below) (λ (most : j ≤ k). way.none j ahead most) (cases_lt k j)

pub way_on : (stops : Stops) (run : RunParts) (from k to : ℕ) (why : Option Stop) → IsOnWay stops run from k
    → IsComeAhead stops run k to why → why ≡ None → IsOnWay stops run from to
way_on stops run from k to why way come none = record {
  on = omega (arith, way.on, come.ahead);
  going = come.going none;
  none = λ j ahead most.
      ⊎_elim
      (λ (below : j < to). none_on stops run from k to why way come j ahead below)
      (λ (least : to ≤ j). subst (λ (n : ℕ). stop_ahead stops run n ≡ None) (omega (arith, least, most)) (sym come.stop ∙ none))
      (cases_lt j to);
}

pub way_ends : (stops : Stops) (run : RunParts) (from k to : ℕ) (why : Option Stop) (it : Stop) → IsOnWay stops run from k
    → IsComeAhead stops run k to why → why ≡ Some it → IsNextStop stops run from to it
way_ends stops run from k to why it way come is = record {
  ahead = omega (arith, way.on, come.ahead);
  reached = come.reached;
  stop = sym come.stop ∙ is;
  first = none_on stops run from k to why way come;
}

-- a moment that isn't the beginning
later_moment : (k : ℕ) → 0 < k → false ≡ (k == 0)
later_moment k some = sym (ne_eqb k 0 (λ (is : k ≡ 0). omega (arith, is, some)))

-- whether a breakpoint stands where the first of them begins is whether one does where the last does, or none stops
last_breaks : (stops : Stops) (run : RunParts) (from to : ℕ) (on : Option Stop) (breaks : Bool) → IsPassed stops run from to on
    → breaks ≡ breaks_at stops run from → breaks ≡ breaks_at stops run (to - 1)
last_breaks stops run from to on breaks passed is =
    ⊎_elim
    (λ (one : to ≡ suc from). is ∙ ap (breaks_at stops run) (omega (arith, one)))
    (λ (none : stops.breakpoints.items ≡ []). is ∙ no_breaks stops run from none ∙ sym (no_breaks stops run (to - 1) none))
    passed.alone

at_last : (stops : Stops) (run : RunParts) (from to : ℕ) (why : Stop) → from < to → stop_behind stops run (to - 1) ≡ Some why
    → IsFoundAt stops run from to (record { at = to - 1; why = why })
at_last stops run from to why ahead is = record {
  least = omega (arith, ahead);
  below = omega (arith, ahead);
  stop = is;
  last = λ k behind below. absurd (omega (arith, behind, below));
}

-- where nothing stops on any of them, none stops before either
nothing_on : (stops : Stops) (run : RunParts) (from to : ℕ) → IsPassed stops run from to None → (k : ℕ) → from ≤ k → k < to
    → stop_on stops run k ≡ None
nothing_on stops run from to passed k least below =
    ⊎_elim
    (λ (inside : suc k < to). passed.before k least inside)
    (λ (most : to ≤ suc k). ap (stop_on stops run) (omega (arith, most, below)) ∙ sym passed.on)
    (cases_lt (suc k) to)

nothing_breaks : (stops : Stops) (run : RunParts) (from to : ℕ) → IsPassed stops run from to None → false ≡ breaks_at stops run from
    → (k : ℕ) → from ≤ k → k < to → false ≡ breaks_at stops run k
nothing_breaks stops run from to passed is k least below =
    ⊎_elim
    (λ (one : to ≡ suc from). is ∙ ap (breaks_at stops run) (omega (arith, one, least, below)))
    (λ (none : stops.breakpoints.items ≡ []). sym (no_breaks stops run k none))
    passed.alone

nothing_behind : (stops : Stops) (run : RunParts) (from to : ℕ) → IsPassed stops run from to None → false ≡ breaks_at stops run from
    → (k : ℕ) → 0 < k → from ≤ k → k < to → stop_behind stops run k ≡ None
nothing_behind stops run from to passed is k some least below =
    sym (behind_by stops run k false false None (nothing_breaks stops run from to passed is k least below)
    (sym (nothing_on stops run from to passed k least below)) (later_moment k some))

first_moment : (k : ℕ) → true ≡ (k == 0) → k ≡ 0
first_moment k is = eqb-true k 0 (sym is)

not_first : (k : ℕ) → false ≡ (k == 0) → 0 < k
not_first k is = pos_of_ne-zero (eqb-false k 0 (sym is))

-- the beginning alone stops there
begun_alone : (stops : Stops) (run : RunParts) (from to : ℕ) → IsPassed stops run from to None → false ≡ breaks_at stops run from
    → from ≡ 0 → IsFoundAt stops run from to (record { at = 0; why = stop.Begun })
begun_alone stops run from to passed is first = record {
  least = omega (arith, first);
  below = omega (arith, passed.ahead);
  stop = sym (behind_by stops run 0 false true None
      (nothing_breaks stops run from to passed is 0 (omega (arith, first)) (omega (arith, passed.ahead)))
      (sym (nothing_on stops run from to passed 0 (omega (arith, first)) (omega (arith, passed.ahead)))) refl);
  last = λ k behind below. nothing_behind stops run from to passed is k behind (omega (arith, first)) below;
}

-- what is found of the steps that were passed
pub found_at : (stops : Stops) (run : RunParts) (from to : ℕ) (on : Option Stop) (breaks begun : Bool)
    → IsPassed stops run from to on → breaks ≡ breaks_at stops run from → begun ≡ (from == 0)
    → IsFound stops run from to (found_by (to - 1) breaks on begun)
found_at stops run from to on true begun passed breaks_is begun_is =
    at_last stops run from to stop.Breakpoint passed.ahead
    (sym (behind_by stops run (to - 1) true (to - 1 == 0) on (last_breaks stops run from to on true passed breaks_is) passed.on refl))
found_at stops run from to (Some why) false begun passed breaks_is begun_is =
    at_last stops run from to why passed.ahead
    (sym (behind_by stops run (to - 1) false (to - 1 == 0) (Some why) (last_breaks stops run from to (Some why) false passed breaks_is)
    passed.on refl))
found_at stops run from to None false true passed breaks_is begun_is =
    begun_alone stops run from to passed breaks_is (first_moment from begun_is)
found_at stops run from to None false false passed breaks_is begun_is = record {
  behind = not_first from begun_is;
  none = λ k least below. nothing_behind stops run from to passed breaks_is k
      (omega (arith, not_first from begun_is, least)) least below;
}

-- the last one of all
pub last_on : (stops : Stops) (run : RunParts) (from to : ℕ) (found : Option Found) (last : Found)
    → (0 < from → IsStopBefore stops run from last.at last.why) → from < to → IsFound stops run from to found
    → IsStopBefore stops run to (unwrap_or found last).at (unwrap_or found last).why
last_on stops run from to (Some it) last before on found = record { behind = found.below; stop = found.stop; last = found.last }
last_on stops run from to None last before on found =
    let so = before found.behind in
    record {
      behind = omega (arith, so.behind, on);
      stop = so.stop;
      last = λ k behind below.
          ⊎_elim
          (λ (inside : k < from). so.last k behind inside)
          (λ (least : from ≤ k). found.none k least below)
          (cases_lt k from);
    }

-- and the way to it leads there, since the run comes further
pub came_back : (stops : Stops) (run : RunParts) (from at to : ℕ) (why : Stop) → IsStopBefore stops run from at why
    → IsInRun run from → IsComeBehind run at to → IsStopBefore stops run from to why
came_back stops run from at to why before reached behind =
    ⊎_elim
    (λ (short : to < at). absurd (true≢false
    (sym (behind.there short) ∙ reached to (omega (arith, behind.within, before.behind)))))
    (λ (least : at ≤ to). subst (λ (k : ℕ). IsStopBefore stops run from k why) (omega (arith, least, behind.within)) before)
    (cases_lt to at)
