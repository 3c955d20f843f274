-- Where a debugger stands in a run, and what a question makes of that.
use Rattle.std.specs.Prelude.{◌≡◌, ℕ, ◌+◌, ◌-◌, ◌<◌, ◌≤◌, ◌==◌, ◌&&◌, true, false, not, nat_le, if◌then◌else◌, List, [], ◌∷◌, ◌++◌, All, filter}
use Rattle.gdb_questions.specs.declared.order.CatchKind.{CatchKind}
use Rattle.gdb_questions.specs.declared.order.CatchKind.TheVariants as kind
use Rattle.gdb_questions.specs.declared.order.Order.TheVariants as order
use Rattle.gdb_questions.specs.declared.question.Question.{Question}
use Rattle.gdb_questions.specs.declared.question.Question.TheVariants as question
use Rattle.run_moments.specs.declared.stops.Catches.{Catches}
use Rattle.run_moments.specs.declared.stops.Stop.{Stop}
use Rattle.run_moments.specs.declared.stops.Stop.TheVariants as stop
use Rattle.run_moments.specs.declared.stops.Stops.{Stops}
use Rattle.run_moments.specs.declared.stops.Watch.{Watch}
use Rattle.run_moments.specs.Moments.{IsComeBehind, IsFirstBehind, MomentOf, RunParts, is_over}
use Rattle.run_moments.specs.Stops.{IsNextStop, IsStopBefore}
use Rattle.gdb_replies.specs.QuestionReplies.{reply_text}

-- at a moment, with what stops it, and why it stopped last
pub record Standing : Type 0 where
  pub moment : MomentOf
  pub stops : Stops
  pub why : Stop

-- a step on, unless the run is over
pub record IsSteppedOn (before after : MomentOf) (why : Stop) : Type 0 where
  pub run : after.run ≡ before.run
  pub over : is_over before.run before.steps ≡ true → (after.steps ≡ before.steps) × (why ≡ stop.Ended)
  pub one : is_over before.run before.steps ≡ false → (after.steps ≡ before.steps + 1) × (why ≡ stop.Stepped)

-- on to the next stop, unless the run is over
pub record IsGoneAhead (stops : Stops) (before after : MomentOf) (why : Stop) : Type 0 where
  pub run : after.run ≡ before.run
  pub over : is_over before.run before.steps ≡ true → (after.steps ≡ before.steps) × (why ≡ stop.Ended)
  pub next : is_over before.run before.steps ≡ false → IsNextStop stops before.run before.steps after.steps why

-- a step back, and back to the stop before, unless it is the beginning
pub record IsSteppedBack (before after : MomentOf) (why : Stop) : Type 0 where
  pub run : after.run ≡ before.run
  pub begun : before.steps ≡ 0 → (after.steps ≡ 0) × (why ≡ stop.Begun)
  pub one : 0 < before.steps → IsComeBehind before.run (before.steps - 1) after.steps × (why ≡ stop.Stepped)

pub record IsGoneBack (stops : Stops) (before after : MomentOf) (why : Stop) : Type 0 where
  pub run : after.run ≡ before.run
  pub begun : before.steps ≡ 0 → (after.steps ≡ 0) × (why ≡ stop.Begun)
  pub last : 0 < before.steps → IsStopBefore stops before.run before.steps after.steps why

-- to the first moment with so many turns, and behind so many steps
pub record IsGoneToTurn (turns : ℕ) (before after : MomentOf) (why : Stop) : Type 0 where
  pub run : after.run ≡ before.run
  pub there : IsFirstBehind before.run turns after.steps
  pub why_is : why ≡ stop.Stepped

pub record IsGoneToStep (steps : ℕ) (before after : MomentOf) (why : Stop) : Type 0 where
  pub run : after.run ≡ before.run
  pub there : IsComeBehind before.run steps after.steps
  pub why_is : why ≡ stop.Stepped

-- where a question asks a debugger to go; every other leaves it where it is
abbrev pub IsGone : Question → Stops → MomentOf → Stop → MomentOf → Stop → Type 0
IsGone question.StepOn stops before was after why = IsSteppedOn before after why
IsGone question.GoOn stops before was after why = IsGoneAhead stops before after why
IsGone question.StepBack stops before was after why = IsSteppedBack before after why
IsGone question.GoBack stops before was after why = IsGoneBack stops before after why
IsGone (question.Monitor (order.GoToTurn turns)) stops before was after why = IsGoneToTurn turns before after why
IsGone (question.Monitor (order.GoToStep steps)) stops before was after why = IsGoneToStep steps before after why
IsGone _ stops before was after why = (after ≡ before) × (why ≡ was)

-- breakpoints, watchpoints of one byte to eight, and what is caught, as a question changes them
abbrev pub breakpoints_after : List ℕ → Question → List ℕ
breakpoints_after addresses (question.SetBreak address) = addresses ++ address ∷ []
breakpoints_after addresses (question.ClearBreak address) = filter (λ it. not (it == address)) addresses
breakpoints_after addresses _ = addresses

abbrev pub watches_after : List Watch → Question → List Watch
watches_after watches (question.SetWatch address count) =
    if nat_le 1 count && nat_le count 8 then watches ++ record { address = address; count = count } ∷ [] else watches
watches_after watches (question.ClearWatch address count) =
    filter (λ it. not (it.address == address && it.count == count)) watches
watches_after watches _ = watches

abbrev pub with_kind : Catches → CatchKind → Catches
with_kind catches kind.Calls = record catches { calls = true }
with_kind catches kind.Deliveries = record catches { deliveries = true }
with_kind catches kind.Events = record catches { events = true }
with_kind catches kind.Console = record catches { console = true }

abbrev pub catches_after : Catches → Question → Catches
catches_after catches (question.Monitor (order.Catch it)) = with_kind catches it
catches_after catches (question.Monitor order.CatchNone) =
    record { calls = false; deliveries = false; events = false; console = false }
catches_after catches _ = catches

pub record AreStopsAfter (before : Stops) (it : Question) (after : Stops) : Type 0 where
  pub breakpoints : after.breakpoints.items ≡ breakpoints_after before.breakpoints.items it
  pub watches : after.watches.items ≡ watches_after before.watches.items it
  pub catches : after.catches ≡ catches_after before.catches it

-- a question was answered: the debugger went where it asks, its stops are as it says, and the reply is that of the moment
pub record IsQuestionAnswered (before : Standing) (it : Question) (after : Standing) (reply : List ℕ) : Type 0 where
  pub gone : IsGone it before.stops before.moment before.why after.moment after.why
  pub stops : AreStopsAfter before.stops it after.stops
  pub reply_is : reply ≡ reply_text after.moment after.stops.catches after.why it

-- each watchpoint sees at most eight bytes
abbrev pub AreWatches : List Watch → Type 0
AreWatches watches = All (λ watch. watch.count ≤ 8) watches

-- at a run's beginning, with nothing that stops it
pub record IsBegun (run : RunParts) (it : Standing) : Type 0 where
  pub run_is : it.moment.run ≡ run
  pub steps : it.moment.steps ≡ 0
  pub breakpoints : it.stops.breakpoints.items ≡ []
  pub watches : it.stops.watches.items ≡ []
  pub catches : it.stops.catches ≡ record { calls = false; deliveries = false; events = false; console = false }
  pub why : it.why ≡ stop.Stepped
