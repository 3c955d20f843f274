-- Runs, joins and files that the top call's promises leave no room for, each named by the sentence that it guards.
use Rattle.std.proofs.Common.{◌≡◌, ◌≢◌, ℕ, ◌+◌, ◌*◌, ◌/◌, ◌%◌, ◌<◌, ◌≤◌, false, List, length, None, Some, Option, Err, Result, inl, inr, sym, subst, ◌∙◌, arith}
use Rattle.std.specs.Prelude.{All, IfSome, IsOk, IsSome, IsSomeAnd, slice_get, slice_index, ◌⊎◌}
use Rattle.std.proofs.lemmas.Bool.{false≢true}
use Rattle.nk_host.specs.Told.{IfTold}
use Rattle.phys_mem.specs.Memory.{byte_at}
use Rattle.irq_plan.specs.declared.event.Event.{Event}
use Rattle.irq_plan.specs.PlanFile.{plan_of}
use Rattle.irq_plan.specs.PlannedEvents.{IsPlan}
use Rattle.elf_image.specs.Pages.{is_executable}
use Rattle.boot_map.specs.Division.{IsLayout, division_of}
use Rattle.boot_map.specs.KernelSlot.{IsCodePage}
use Rattle.gate_state.specs.AnyVector.{DeliversAny}
use Rattle.gate_state.specs.GateCalls.{IsCalledBack, IsCalledThrough, IsCalling}
use Rattle.gate_state.specs.GuardedStates.{IsGuarded}
use Rattle.gate_state.specs.MachineOpening.{opening_state}
use Rattle.gate_state.specs.MachineStates.{MachineState, Opening, nested_of}
use Rattle.gate_state.specs.MachineSteps.{calls, made_by_all, state}
use Rattle.gate_state.specs.SafeStates.{IsSafe}
use Rattle.gate_state.specs.WindowLeft.{IsShortWindow}
use Rattle.replay_core.specs.ReplayedCalls.{replay_of}
use Rattle.asm_text.specs.AssembledText.{assembled_of}
use Rattle.code_modules.specs.JoinedImage.{IsJoined}
use Rattle.code_modules.specs.JoinedParts.{CodeModule, JoinedPart, modules_behind}
use Rattle.command_words.specs.declared.command_line.Role.{Role}
use Rattle.command_words.specs.declared.command_line.Role.TheVariants.{Input, ModuleList, Plan}
use Rattle.command_words.specs.declared.command_line.Command.{Command}
use Rattle.command_words.specs.declared.command_line.Command.TheVariants.{Run}
use Rattle.command_words.specs.CommandLine.{IsAsked, command_of, name_in}
use Rattle.file_scan.specs.ShelfChanges.{Change, Files, ShelfState}
use Rattle.nk_run.specs.declared.ending.Ending.{Ending}
use Rattle.nk_run.specs.Clauses.{HasCodeAt, HasEnd, HasJournal, HasModules, HasSafeRun, IsDoable, IsFaultless, IsGoodJournal, IsGoodList, IsGoodPlan, IsGoodText, IsSafeRun, IsUnread, IsWholeJoin, NameRose, Promises}
use Rattle.nk_run.specs.JoinedRuns.{IsCodeByte}
use Rattle.nk_run.specs.JournalLaw.{IsJournal, IsReplayedRun}
use Rattle.nk_run.specs.Lines.{longest_module}
use Rattle.nk_run.specs.Outcome.{checks_of, events_in, file_in, first_verdict, join_in, modules_named, opened, opening_in, passes, IsReached}
use Rattle.nk_run.specs.RunStates.{EndsAfter, ending_at, run_length}
use Rattle.nk_run.specs.Witness.{Witness}
use Rattle.nk_run.proofs.Told.{told_at}

-- a run that goes on, and one that ended before
module _ (n steps : ℕ) (plan : List Event) (s : MachineState) (it : EndsAfter n steps plan s) where
  going_on : ending_at steps plan (state plan s n) ≡ None → ⊥
  going_on none = false≢true (subst (λ (e : Option Ending). IsSome e) none it.there)

  ended_before : (k : ℕ) (reason : Ending) → k < n → ending_at steps plan (state plan s k) ≡ Some reason → ⊥
  ended_before k reason early ended = let none = it.not_before k early in cc

-- a run of which a state, or what the states are together, isn't what is safe
module _ (plan : List Event) (o : Opening) (input : List ℕ) (k : ℕ) (it : IsSafeRun plan o input) where
  unsafe_state : (IsSafe o (state plan (opening_state o input) k) → ⊥) → ⊥
  unsafe_state none = none (it.safe k)

  unguarded_state : (IsGuarded o (state plan (opening_state o input) k) → ⊥) → ⊥
  unguarded_state none = none (it.guarded k)

  undelivered_vector : (DeliversAny (state plan (opening_state o input) k) → ⊥) → ⊥
  undelivered_vector none = none (it.delivers k)

  record_of_other_calls : nested_of (state plan (opening_state o input) k)
      ≢ made_by_all (nested_of (opening_state o input)) (calls plan (opening_state o input) k) → ⊥
  record_of_other_calls other = other (it.nested k)

  unanswered_call : (n : ℕ) → IsCalling (state plan (opening_state o input) n).processor
      → (IsCalledThrough plan (state plan (opening_state o input) n) k → ⊥) → ⊥
  unanswered_call n calling none = none (it.called n k calling)

  lost_call : (n : ℕ) → IsCalling (state plan (opening_state o input) n).processor
      → (IsCalledBack plan (state plan (opening_state o input) n) → ⊥) → ⊥
  lost_call n calling none = none (it.comes_back n calling)

  long_window : (IsShortWindow plan (opening_state o input) → ⊥) → ⊥
  long_window none = none it.window

-- modules that aren't joined, a byte of a module that is another in some state of some run, and code in another frame
module _ (b : List ℕ) (modules : List CodeModule) (file : List ℕ) (it : IsWholeJoin b modules file) where
  unjoined : (IsJoined b modules file → ⊥) → ⊥
  unjoined none = none it.joined

  lost_byte : (o : Opening) (input : List ℕ) (plan : List Event) (step i k : ℕ) (part : JoinedPart) → o.image ≡ file
      → IsLayout o.image (division_of o.image o.frames) → IsPlan plan → slice_get (modules_behind b modules) i ≡ Some part
      → k < part.memory_size
      → (IsCodeByte o (state plan (opening_state o input) step).memory (part.address + k) (slice_index part.bytes k) → ⊥) → ⊥
  lost_byte o input plan step i k part is room planned listed within none =
      none (it.kept o input plan step is room planned i k part listed within)

module _ (o : Opening) (m : List ℕ) (va byte : ℕ) where
  outside_the_code : ((frame : ℕ) → IsCodePage o.image o.frames (va / 4096) frame → ⊥) → IsCodeByte o m va byte → ⊥
  outside_the_code none it = none it.frame it.page

  another_byte : ((frame : ℕ) → byte_at m (4096 * frame + va % 4096) ≢ byte) → IsCodeByte o m va byte → ⊥
  another_byte other it = other it.frame it.stands

-- a file that no command has, whose count didn't rise, or that isn't reached
module _ (words : List (List ℕ)) (shelf : Change ShelfState) (role : Role) (it : IsUnread words shelf role) where
  unasked : (IsAsked words role → ⊥) → ⊥
  unasked none = none it.asked

  without_a_count : (NameRose words shelf role → ⊥) → ⊥
  without_a_count none = none it.rose

  unreached : (files : Files) (command : Command) → shelf.before.files ≡ Some files → command_of words ≡ Some command
      → (IsReached role (checks_of command files words) → ⊥) → ⊥
  unreached files command told asked none =
      none (subst (λ (c : Option Command). IsSomeAnd c (λ command. IsReached role (checks_of command files words))) asked
      (told_at shelf.before.files (λ held. IsSomeAnd (command_of words) (λ command. IsReached role (checks_of command held words)))
      files told it.reached))

-- files that are longer than 64 MiB, or not in form
long_listing : (address : ℕ) (b : List ℕ) → length b ≡ 67108865 → HasCodeAt address b → ⊥
long_listing address b is it = let within = it.within in omega (arith, is, within)

listed_data : (address : ℕ) (b : List ℕ) → is_executable b (address / 4096) ≡ false → HasCodeAt address b → ⊥
listed_data address b none it = false≢true (sym none ∙ it.code)

long_text : (b : List ℕ) → length b ≡ 67108865 → IsGoodText b → ⊥
long_text b is it = let within = it.within in omega (arith, is, within)

line_without_code : (b : List ℕ) (number : ℕ) → assembled_of b ≡ Err number → IsGoodText b → ⊥
line_without_code b number is it = false≢true (subst (λ (r : Result (List ℕ) ℕ). IsOk r) is it.coded)

long_plan : (b : List ℕ) → length b ≡ 67108865 → IsGoodPlan b → ⊥
long_plan b is it = let within = it.within in omega (arith, is, within)

line_without_event : (b : List ℕ) (number : ℕ) → plan_of b ≡ Err number → IsGoodPlan b → ⊥
line_without_event b number is it = false≢true (subst (λ (r : Result (List Event) ℕ). IsOk r) is it.formed)

long_journal : (o : Opening) (b : List ℕ) → length b ≡ 67108865 → IsGoodJournal o b → ⊥
long_journal o b is it = let within = it.within in omega (arith, is, within)

wrong_journal : (o : Opening) (b : List ℕ) (number : ℕ) → (replay_of b (opened o)).bad ≡ Some number → IsGoodJournal o b → ⊥
wrong_journal o b number is it = let none = it.right in cc

long_list : (b : List ℕ) → length b ≡ 67108865 → IsGoodList b → ⊥
long_list b is it = let within = it.within in omega (arith, is, within)

modules_without_a_list : (words : List (List ℕ)) (files : Files) → files (name_in words ModuleList) ≡ None
    → HasModules words files → ⊥
modules_without_a_list words files none it =
    subst (λ (held : Option (List ℕ)). IsSomeAnd held IsGoodList) none it.list

modules_that_do_not_fit : (words : List (List ℕ)) (files : Files) → (IsOk (join_in files words) → ⊥) → HasModules words files → ⊥
modules_that_do_not_fit words files none it = none it.joined

long_module : (words : List (List ℕ)) (files : Files)
    → (All (λ it. IsSomeAnd (files it.name) (λ m. length m ≤ longest_module)) (modules_named files words) → ⊥)
    → HasModules words files → ⊥
long_module words files none it = none it.held

-- a run's line that isn't right
wrong_line : (o : Opening) (input : List ℕ) (plan : List Event) (steps number : ℕ)
    → (IsReplayedRun o input plan steps → ⊥) → IsJournal o input plan steps → ⊥
wrong_line o input plan steps number none it = none it.replayed

-- what isn't promised of a run whose checks pass: that a state of it isn't safe, that it doesn't end where its text says, and
-- that its text isn't a journal
module _ (seen : Witness) (status steps frames : ℕ) (files : Files) (told : seen.shelf.before.files ≡ Some files)
    (asked : command_of seen.words ≡ Some (Run steps frames)) (it : Promises seen status) where
  of_run : (P : Command → Files → Type 0) → IfTold seen.shelf.before.files (λ held. IfSome (command_of seen.words) (λ command. P command held))
      → P (Run steps frames) files
  of_run P all =
      subst (λ (c : Option Command). IfSome c (λ command. P command files)) asked
      (told_at seen.shelf.before.files (λ held. IfSome (command_of seen.words) (λ command. P command held)) files told all)

  abbrev events : List Event
  events = events_in (plan_of (file_in files seen.words Plan))

  abbrev first : MachineState
  first = opening_state (opening_in files seen.words frames) (file_in files seen.words Input)

  unsafe_run : (k : ℕ) → first_verdict (checks_of (Run steps frames) files seen.words) ≡ passes
      → (IsSafe (opening_in files seen.words frames) (state events first k) → ⊥) → ⊥
  unsafe_run k passed none =
      none ((of_run (λ command held. HasSafeRun command seen.words held) it.run_safe passed).safe k)

  endless_run : ending_at steps events (state events first (run_length steps events first)) ≡ None → ⊥
  endless_run none =
      going_on (run_length steps events first) steps events first
      (of_run (λ command held. HasEnd command seen.words held) it.run_ends) none

  unreplayed_run : first_verdict (checks_of (Run steps frames) files seen.words) ≡ passes
      → (IsJournal (opening_in files seen.words frames) (file_in files seen.words Input) events steps → ⊥) → ⊥
  unreplayed_run passed none = none (of_run (λ command held. HasJournal command seen.words held) it.run_replayed passed)

-- what can be done isn't refused where there is no fault
refused_though_doable : (seen : Witness) (files : Files) → seen.shelf.before.files ≡ Some files
    → IsSomeAnd (command_of seen.words) (λ command. IsDoable command seen.words files) → IsFaultless seen → Promises seen 1 → ⊥
refused_though_doable seen files told doable faultless it =
    elim (told_at seen.shelf.before.files
    (λ held. IsSomeAnd (command_of seen.words) (λ command. IsDoable command seen.words held) → IsFaultless seen
    → (1 ≡ 0) ⊎ (1 ≡ 5)) files told it.done doable faultless) [
      | inl done ↦ omega (arith, done)
      | inr want ↦ omega (arith, want)
    ]
