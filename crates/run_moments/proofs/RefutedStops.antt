-- What is no moment that was gone to, and no stop ahead or before, each named by what is wrong with it.
use Rattle.std.proofs.Common.{◌≡◌, ◌≢◌, ℕ, ◌<◌, ◌≤◌, true, false, true≢false, Option, None, Some, sym, ◌∙◌, arith, ⊎_elim}
use Rattle.run_moments.specs.declared.stops.Stop.{Stop}
use Rattle.run_moments.specs.declared.stops.Stops.{Stops}
use Rattle.run_moments.specs.Moments.{IsComeBehind, IsFirstBehind, RunParts, is_over, state_at}
use Rattle.run_moments.specs.Stops.{IsNextStop, IsStopBefore, stop_ahead, stop_behind}

-- a run isn't over before a moment that it comes to
over_before : (run : RunParts) (k : ℕ) → is_over run k ≡ true → is_over run k ≡ false → ⊥
over_before run k over going = true≢false (sym over ∙ going)

module _ (run : RunParts) (to : ℕ) where
  -- the moment behind so many steps
  behind_an_end : (steps k : ℕ) → IsComeBehind run steps to → k < to → is_over run k ≡ true → ⊥
  behind_an_end steps k it below over = over_before run k over (it.reached k below)

  too_far : (steps : ℕ) → IsComeBehind run steps to → steps < to → ⊥
  too_far steps it beyond = absurd (omega (arith, it.within, beyond))

  too_short : (steps : ℕ) → IsComeBehind run steps to → to < steps → is_over run to ≡ false → ⊥
  too_short steps it short going = over_before run to (it.there short) going

  -- the first moment at which so many turns were taken
  turn_behind_an_end : (turns k : ℕ) → IsFirstBehind run turns to → k < to → is_over run k ≡ true → ⊥
  turn_behind_an_end turns k it below over = over_before run k over (it.reached k below)

  turn_too_short : (turns : ℕ) → IsFirstBehind run turns to → (state_at run to).turns < turns → is_over run to ≡ false → ⊥
  turn_too_short turns it few going =
      ⊎_elim (λ (there : turns ≤ (state_at run to).turns). absurd (omega (arith, there, few)))
      (λ (over : is_over run to ≡ true). over_before run to over going) it.there

  turn_too_far : (turns k : ℕ) → IsFirstBehind run turns to → k < to → turns ≤ (state_at run k).turns → ⊥
  turn_too_far turns k it below there = absurd (omega (arith, it.first k below, there))

-- what stops isn't passed over, and what doesn't stop is no stop
some_none : (why : Stop) (o : Option Stop) → o ≡ Some why → o ≡ None → ⊥
some_none why (Some it) is none = absurd (cc)
some_none why None is none = absurd (cc)

other_reason : (why it : Stop) (o : Option Stop) → o ≡ Some why → o ≡ Some it → why ≢ it → ⊥
other_reason why it o is same other = other (cc)

module _ (stops : Stops) (run : RunParts) (from to : ℕ) (why : Stop) where
  -- the next stop ahead
  stays : IsNextStop stops run from to why → to ≤ from → ⊥
  stays it most = absurd (omega (arith, it.ahead, most))

  ahead_of_an_end : (k : ℕ) → IsNextStop stops run from to why → k < to → is_over run k ≡ true → ⊥
  ahead_of_an_end k it below over = over_before run k over (it.reached k below)

  ahead_at_no_stop : IsNextStop stops run from to why → stop_ahead stops run to ≡ None → ⊥
  ahead_at_no_stop it none = some_none why (stop_ahead stops run to) it.stop none

  ahead_for_another_reason : (other : Stop) → IsNextStop stops run from to why → stop_ahead stops run to ≡ Some other → why ≢ other → ⊥
  ahead_for_another_reason other it is = other_reason why other (stop_ahead stops run to) it.stop is

  ahead_over_a_stop : (k : ℕ) (passed : Stop) → IsNextStop stops run from to why → from < k → k < to
      → stop_ahead stops run k ≡ Some passed → ⊥
  ahead_over_a_stop k passed it ahead below is = some_none passed (stop_ahead stops run k) is (it.first k ahead below)

  -- the last one before
  not_behind : IsStopBefore stops run from to why → from ≤ to → ⊥
  not_behind it least = absurd (omega (arith, it.behind, least))

  before_at_no_stop : IsStopBefore stops run from to why → stop_behind stops run to ≡ None → ⊥
  before_at_no_stop it none = some_none why (stop_behind stops run to) it.stop none

  before_for_another_reason : (other : Stop) → IsStopBefore stops run from to why → stop_behind stops run to ≡ Some other → why ≢ other
      → ⊥
  before_for_another_reason other it is = other_reason why other (stop_behind stops run to) it.stop is

  before_over_a_stop : (k : ℕ) (passed : Stop) → IsStopBefore stops run from to why → to < k → k < from
      → stop_behind stops run k ≡ Some passed → ⊥
  before_over_a_stop k passed it behind below is = some_none passed (stop_behind stops run k) is (it.last k behind below)
