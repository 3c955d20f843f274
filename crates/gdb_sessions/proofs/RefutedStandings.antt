-- What a question doesn't make of a standing, part by part.
use Rattle.std.proofs.Common.{◌≡◌, ◌≤◌, ◌<◌, ◌+◌, ℕ, suc, true, false, List, [], length, slice_index_or, codes, sym, ap, ◌∙◌, arith, true≢false}
use Rattle.gdb_questions.specs.declared.order.CatchKind.TheVariants.{Calls}
use Rattle.gdb_questions.specs.declared.order.Order.TheVariants as order
use Rattle.gdb_questions.specs.declared.question.Question.TheVariants as question
use Rattle.run_moments.specs.declared.stops.Catches.{Catches}
use Rattle.run_moments.specs.declared.stops.Stop.{Stop}
use Rattle.run_moments.specs.declared.stops.Stop.TheVariants as stop
use Rattle.run_moments.specs.declared.stops.Stops.{Stops}
use Rattle.run_moments.specs.declared.stops.Watch.{Watch}
use Rattle.run_moments.specs.Moments.{MomentOf, RunParts, is_over, state_at}
use Rattle.gdb_sessions.specs.Standings.{AreStopsAfter, IsBegun, IsGoneAhead, IsGoneBack, IsGoneToStep, IsGoneToTurn, IsQuestionAnswered, IsSteppedBack, IsSteppedOn, Standing, breakpoints_after, watches_after}

-- whether a debugger stopped since it took a step
abbrev is_stepped : Stop → ℕ
is_stepped stop.Stepped = 1
is_stepped _ = 0

-- a step on
stays_though_going : (before after : MomentOf) (why : Stop) → is_over before.run before.steps ≡ false
    → after.steps ≡ before.steps → IsSteppedOn before after why → ⊥
stays_though_going before after why going same it = omega (arith, same, (it.one going).0)

goes_though_over : (before after : MomentOf) (why : Stop) → is_over before.run before.steps ≡ true
    → after.steps ≡ before.steps + 1 → IsSteppedOn before after why → ⊥
goes_though_over before after why over more it = omega (arith, more, (it.over over).0)

steps_into_another_run : (before after : MomentOf) (why : Stop) → after.run.turns ≡ suc before.run.turns
    → IsSteppedOn before after why → ⊥
steps_into_another_run before after why more it = omega (arith, more, ap (λ (run : RunParts). run.turns) it.run)

-- on to the next stop
no_way_ahead : (stops : Stops) (before after : MomentOf) (why : Stop) → is_over before.run before.steps ≡ false
    → after.steps ≤ before.steps → IsGoneAhead stops before after why → ⊥
no_way_ahead stops before after why going least it = omega (arith, least, (it.next going).ahead)

ahead_of_the_end : (stops : Stops) (before after : MomentOf) (why : Stop) → is_over before.run before.steps ≡ true
    → before.steps < after.steps → IsGoneAhead stops before after why → ⊥
ahead_of_the_end stops before after why over more it = omega (arith, more, (it.over over).0)

ahead_in_another_run : (stops : Stops) (before after : MomentOf) (why : Stop) → after.run.turns ≡ suc before.run.turns
    → IsGoneAhead stops before after why → ⊥
ahead_in_another_run stops before after why more it = omega (arith, more, ap (λ (run : RunParts). run.turns) it.run)

-- a step back
not_behind : (before after : MomentOf) (why : Stop) → 0 < before.steps → before.steps ≤ after.steps
    → IsSteppedBack before after why → ⊥
not_behind before after why some least it = omega (arith, some, least, (it.one some).0.within)

behind_the_beginning : (before after : MomentOf) (why : Stop) → before.steps ≡ 0 → after.steps ≡ 1
    → IsSteppedBack before after why → ⊥
behind_the_beginning before after why none one it = omega (arith, one, (it.begun none).0)

back_in_another_run : (before after : MomentOf) (why : Stop) → after.run.turns ≡ suc before.run.turns
    → IsSteppedBack before after why → ⊥
back_in_another_run before after why more it = omega (arith, more, ap (λ (run : RunParts). run.turns) it.run)

-- back to the stop before
no_way_back : (stops : Stops) (before after : MomentOf) (why : Stop) → 0 < before.steps → before.steps ≤ after.steps
    → IsGoneBack stops before after why → ⊥
no_way_back stops before after why some least it = omega (arith, least, (it.last some).behind)

back_from_the_beginning : (stops : Stops) (before after : MomentOf) (why : Stop) → before.steps ≡ 0 → after.steps ≡ 1
    → IsGoneBack stops before after why → ⊥
back_from_the_beginning stops before after why none one it = omega (arith, one, (it.begun none).0)

stop_in_another_run : (stops : Stops) (before after : MomentOf) (why : Stop) → after.run.turns ≡ suc before.run.turns
    → IsGoneBack stops before after why → ⊥
stop_in_another_run stops before after why more it = omega (arith, more, ap (λ (run : RunParts). run.turns) it.run)

-- to a turn, and to a step
a_turn_too_late : (turns k : ℕ) (before after : MomentOf) (why : Stop) → k < after.steps
    → turns ≤ (state_at before.run k).turns → IsGoneToTurn turns before after why → ⊥
a_turn_too_late turns k before after why below there it = omega (arith, there, it.there.first k below)

to_a_turn_of_another_run : (turns : ℕ) (before after : MomentOf) (why : Stop) → after.run.turns ≡ suc before.run.turns
    → IsGoneToTurn turns before after why → ⊥
to_a_turn_of_another_run turns before after why more it = omega (arith, more, ap (λ (run : RunParts). run.turns) it.run)

to_a_turn_and_ended : (turns : ℕ) (before after : MomentOf) → IsGoneToTurn turns before after stop.Ended → ⊥
to_a_turn_and_ended turns before after it = omega (arith, ap is_stepped it.why_is)

a_step_too_far : (steps : ℕ) (before after : MomentOf) (why : Stop) → steps < after.steps
    → IsGoneToStep steps before after why → ⊥
a_step_too_far steps before after why more it = omega (arith, more, it.there.within)

to_a_step_of_another_run : (steps : ℕ) (before after : MomentOf) (why : Stop) → after.run.turns ≡ suc before.run.turns
    → IsGoneToStep steps before after why → ⊥
to_a_step_of_another_run steps before after why more it = omega (arith, more, ap (λ (run : RunParts). run.turns) it.run)

to_a_step_and_ended : (steps : ℕ) (before after : MomentOf) → IsGoneToStep steps before after stop.Ended → ⊥
to_a_step_and_ended steps before after it = omega (arith, ap is_stepped it.why_is)

-- what stops a debugger
a_breakpoint_not_set : (address : ℕ) (before after : Stops) → after.breakpoints.items ≡ []
    → AreStopsAfter before (question.SetBreak address) after → before.breakpoints.items ≡ [] → ⊥
a_breakpoint_not_set address before after none it was =
    omega (
      arith,
      ap length (sym none ∙ it.breakpoints
          ∙ ap (λ (xs : List ℕ). breakpoints_after xs (question.SetBreak address)) was),
    )

a_watchpoint_not_set : (address : ℕ) (before after : Stops) → after.watches.items ≡ [] → before.watches.items ≡ []
    → AreStopsAfter before (question.SetWatch address 8) after → ⊥
a_watchpoint_not_set address before after none was it =
    omega (
      arith,
      ap length (sym none ∙ it.watches
          ∙ ap (λ (xs : List Watch). watches_after xs (question.SetWatch address 8)) was),
    )

calls_not_caught : (before after : Stops) → after.catches.calls ≡ false
    → AreStopsAfter before (question.Monitor (order.Catch Calls)) after → ⊥
calls_not_caught before after not_caught it =
    true≢false (sym (ap (λ (catches : Catches). catches.calls) it.catches) ∙ not_caught)

-- a question that asks for no move
moved_unasked : (before after : Standing) (reply : List ℕ) → after.moment.steps ≡ suc before.moment.steps
    → IsQuestionAnswered before question.Registers after reply → ⊥
moved_unasked before after reply more it = omega (arith, more, ap (λ (m : MomentOf). m.steps) it.gone.0)

caught_unasked : (before after : Standing) (reply : List ℕ) → before.stops.catches.calls ≡ false
    → after.stops.catches.calls ≡ true → IsQuestionAnswered before question.Registers after reply → ⊥
caught_unasked before after reply was is it =
    true≢false (sym is ∙ ap (λ (catches : Catches). catches.calls) it.stops.catches ∙ was)

another_reply : (before after : Standing) → IsQuestionAnswered before question.Attached after (codes "0") → ⊥
another_reply before after it = omega (arith, ap (λ (l : List ℕ). slice_index_or l 0 0) it.reply_is)

-- a beginning
begun_behind_a_step : (run : RunParts) (it : Standing) → it.moment.steps ≡ 1 → IsBegun run it → ⊥
begun_behind_a_step run it one begun = omega (arith, one, begun.steps)

begun_in_another_run : (run : RunParts) (it : Standing) → it.moment.run.turns ≡ suc run.turns → IsBegun run it → ⊥
begun_in_another_run run it more begun = omega (arith, more, ap (λ (parts : RunParts). parts.turns) begun.run_is)

begun_with_a_breakpoint : (run : RunParts) (it : Standing) → length it.stops.breakpoints.items ≡ 1 → IsBegun run it → ⊥
begun_with_a_breakpoint run it one begun = omega (arith, one, ap length begun.breakpoints)

begun_with_a_watchpoint : (run : RunParts) (it : Standing) → length it.stops.watches.items ≡ 1 → IsBegun run it → ⊥
begun_with_a_watchpoint run it one begun = omega (arith, one, ap length begun.watches)

begun_catching : (run : RunParts) (it : Standing) → it.stops.catches.console ≡ true → IsBegun run it → ⊥
begun_catching run it caught begun =
    true≢false (sym caught ∙ ap (λ (catches : Catches). catches.console) begun.catches)

begun_at_the_end : (run : RunParts) (it : Standing) → it.why ≡ stop.Ended → IsBegun run it → ⊥
begun_at_the_end run it ended begun = omega (arith, ap is_stepped (sym ended ∙ begun.why))
