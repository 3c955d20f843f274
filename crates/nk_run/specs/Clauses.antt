-- What the top call promises, in the order of the record `Promises` at the end: each promise is over what the call saw
-- and its status.
use Rattle.std.specs.Prelude.{◌≡◌, ℕ, ◌/◌, ◌≤◌, true, ◌⊎◌, List, [], length, Option, None, Some, MatchOption, IfSome, IsSome, IsSomeAnd, IsOk, ⊤}
use Rattle.std.specs.List.{All}
use Rattle.std.specs.Io.KnownBytes.{Appends}
use Rattle.nk_host.specs.FaultCounts.{Rose, RoseTo}
use Rattle.nk_host.specs.Files.{IsFileOfBytes}
use Rattle.nk_host.specs.Taken.{AppendsPrefix}
use Rattle.nk_host.specs.Told.{IfTold}
use Rattle.elf_image.specs.Pages.{is_executable}
use Rattle.elf_image.specs.Rows.{first_fault}
use Rattle.irq_plan.specs.declared.event.Event.{Event}
use Rattle.irq_plan.specs.PlanFile.{plan_of}
use Rattle.irq_plan.specs.PlannedEvents.{IsPlan}
use Rattle.boot_map.specs.Division.{IsLayout, division_of, need}
use Rattle.gate_state.specs.AnyVector.{DeliversAny}
use Rattle.gate_state.specs.GateCalls.{IsCalledBack, IsCalledThrough, IsCalling}
use Rattle.gate_state.specs.GuardedStates.{IsGuarded}
use Rattle.gate_state.specs.MachineOpening.{opening_state}
use Rattle.gate_state.specs.MachineStates.{Opening, nested_of}
use Rattle.gate_state.specs.MachineSteps.{calls, made_by_all, state}
use Rattle.replay_core.specs.ReplayedCalls.{replay_of}
use Rattle.image_maker.specs.MadeImage.{image_of_number}
use Rattle.asm_text.specs.AssembledText.{assembled_of}
use Rattle.code_modules.specs.JoinedImage.{IsJoined}
use Rattle.code_modules.specs.JoinedParts.{CodeModule, modules_behind}
use Rattle.code_modules.specs.ModuleList.{list_of}
use Rattle.gate_state.specs.SafeStates.{IsSafe}
use Rattle.gate_state.specs.WindowLeft.{IsShortWindow}
use Rattle.command_words.specs.declared.command_line.Role.{Role}
use Rattle.command_words.specs.declared.command_line.Role.TheVariants.{Image, Input, Plan, Journal, ModuleList, Module, Text}
use Rattle.command_words.specs.declared.command_line.Command.{Command}
use Rattle.command_words.specs.declared.command_line.Command.TheVariants.{Scan, Map, Run, Replay, Make, Work, Join, Audit, Assemble, Listing}
use Rattle.command_words.specs.CommandLine.{command_of, name_in, IsAsked}
use Rattle.file_scan.specs.GoodImages.{IsGoodImage, longest_file}
use Rattle.file_scan.specs.ShelfChanges.{Change, Files, ShelfState}
use Rattle.nk_run.specs.JoinedRuns.{KeepsCode}
use Rattle.nk_run.specs.JournalLaw.{IsJournal}
use Rattle.nk_run.specs.Lines.{longest_module, no_memory_line, unread_line, usage_line}
use Rattle.nk_run.specs.RunStates.{EndsAfter, run_length}
use Rattle.nk_run.specs.Witness.{SinkState, Witness}
use Rattle.nk_run.specs.Outcome.{checks_of, events_in, file_in, first_verdict, join_in, module_name, modules_in, modules_named, opened, opening_in, outcome, passes, size_in, text_of, IsReached}

-- the name is that of a role's file: a module's stands in the list, where it is in form, and every name counts as one
-- where files aren't told; any other stands among the words
abbrev pub IsNameOf : List (List ℕ) → Option Files → Role → List ℕ → Type 0
IsNameOf words told (Module number) name = IfTold told (λ files. module_name files words number ≡ Some name)
IsNameOf words told role name = name ≡ name_in words role

-- the count of faults of the name of a role's file rose
abbrev pub NameRose : List (List ℕ) → Change ShelfState → Role → Type 0
NameRose words shelf role =
    (name : List ℕ) × IsNameOf words shelf.before.files role name × Rose shelf.before.faults shelf.after.faults name

-- the sink's count of faults rose
abbrev pub SinkRose : Change SinkState → Type 0
SinkRose sink = RoseTo sink.before.faults sink.after.faults

-- the sink took the whole text, or a prefix of it
abbrev pub TookAll : Change SinkState → List ℕ → Type 0
TookAll sink text = Appends sink.before.taken sink.after.taken text

abbrev pub TookPrefix : Change SinkState → List ℕ → Type 0
TookPrefix sink text = AppendsPrefix sink.before.taken sink.after.taken text

-- the fetch of a role's file failed: the role is the command's, its name's count rose, and where files are told the
-- checks before that fetch pass on them
pub record IsUnread (words : List (List ℕ)) (shelf : Change ShelfState) (role : Role) : Type 0 where
  pub asked : IsAsked words role
  pub rose : NameRose words shelf role
  pub reached : IfTold shelf.before.files
      (λ files. IsSomeAnd (command_of words) (λ command. IsReached role (checks_of command files words)))

-- the statuses of a fault of the outside (3 of the shelf, 4 of the sink) and of want of memory (5)
abbrev pub IsOutside : ℕ → Type 0
IsOutside status = (status ≡ 3) ⊎ ((status ≡ 4) ⊎ (status ≡ 5))

-- words without a form are answered with status 2 and the usage line, or cut with status 4 at a prefix of that line
abbrev pub IsUsage : Witness → ℕ → Type 0
IsUsage seen status = command_of seen.words ≡ None →
    ((status ≡ 2) × TookAll seen.sink usage_line) ⊎ ((status ≡ 4) × TookPrefix seen.sink usage_line)

-- status 2 comes for no other words
abbrev pub IsUsageAlone : Witness → ℕ → Type 0
IsUsageAlone seen status = status ≡ 2 → command_of seen.words ≡ None

-- status 3 comes only where the count of the name of one of the command's files rose
abbrev pub IsUnreadByCount : Witness → ℕ → Type 0
IsUnreadByCount seen status =
    status ≡ 3 → (role : Role) × IsAsked seen.words role × NameRose seen.words seen.shelf role

-- status 4 comes only where the sink's count rose
abbrev pub IsCutByCount : Witness → ℕ → Type 0
IsCutByCount seen status = status ≡ 4 → SinkRose seen.sink

-- of `scan` status 5 comes only where the shelf's count of wants rose
abbrev pub IsWantByCount : Witness → ℕ → Type 0
IsWantByCount seen status =
    command_of seen.words ≡ Some Scan → status ≡ 5 → RoseTo seen.shelf.before.wants seen.shelf.after.wants

-- the status is the outcome's, or one of those of the outside; where the outcome is undefined it is one of these
abbrev pub IsStatus : Witness → ℕ → Type 0
IsStatus seen status = IfTold seen.shelf.before.files (λ files.
    MatchOption (outcome seen.words files)
    (IsOutside status)
    (λ answer. IsOutside status ⊎ (status ≡ answer.status)))

-- with any other status than those of the outside, the bytes taken are the outcome's text
abbrev pub IsText : Witness → ℕ → Type 0
IsText seen status = IfTold seen.shelf.before.files (λ files.
    MatchOption (outcome seen.words files) ⊤ (λ answer. IsOutside status ⊎ TookAll seen.sink answer.text))

-- with status 3 they are the line of a role whose fetch failed
abbrev pub IsUnreadWritten : Witness → ℕ → Type 0
IsUnreadWritten seen status =
    status ≡ 3 → (role : Role) × IsUnread seen.words seen.shelf role × TookAll seen.sink (unread_line role)

-- with status 5 they are that there was no memory
abbrev pub IsWantWritten : Witness → ℕ → Type 0
IsWantWritten seen status = status ≡ 5 → TookAll seen.sink no_memory_line

-- a text that may be begun
abbrev pub MaySay : Witness → Files → List ℕ → Type 0
MaySay seen files text =
    (text ≡ no_memory_line)
    ⊎ (((role : Role) × IsUnread seen.words seen.shelf role × (text ≡ unread_line role))
    ⊎ IsSomeAnd (outcome seen.words files) (λ answer. text ≡ answer.text))

-- with status 4 they are a prefix of such a text
abbrev pub IsCutWritten : Witness → ℕ → Type 0
IsCutWritten seen status = IfTold seen.shelf.before.files (λ files.
    status ≡ 4 → (text : List ℕ) × MaySay seen files text × TookPrefix seen.sink text)

-- the shelf's files stay as they were
abbrev pub AreKept : Witness → Type 0
AreKept seen = seen.shelf.after.files ≡ seen.shelf.before.files

-- no count of the name of one of the command's files rose and none stands at its type's end, nor does the sink's
abbrev pub IsFaultless : Witness → Type 0
IsFaultless seen =
    ((role : Role) → IsAsked seen.words role → ¬ (NameRose seen.words seen.shelf role)) × ¬ (SinkRose seen.sink)

-- without a fault the status is the outcome's or that of want of memory; where the outcome is undefined it is the
-- latter
abbrev pub IsComplete : Witness → ℕ → Type 0
IsComplete seen status = IfTold seen.shelf.before.files (λ files. IsFaultless seen →
    MatchOption (outcome seen.words files) (status ≡ 5) (λ answer. (status ≡ answer.status) ⊎ (status ≡ 5)))

-- the image is held within the limit, has no fault, and its code has a page with this address
pub record HasCodeAt (address : ℕ) (b : List ℕ) : Type 0 where
  pub within : length b ≤ longest_file
  pub formed : first_fault b ≡ None
  pub code : is_executable b (address / 4096) ≡ true

-- a text is held within the limit, and each of its lines has code
pub record IsGoodText (b : List ℕ) : Type 0 where
  pub within : length b ≤ longest_file
  pub coded : IsOk (assembled_of b)

-- the opening of the image has room in a memory of so many frames
abbrev pub HasRoom : ℕ → List ℕ → Type 0
HasRoom frames b = need b frames ≤ frames

-- the image is held and good, and the test holds of it
abbrev pub HasImage : List (List ℕ) → Files → (List ℕ → Type 0) → Type 0
HasImage words files test = IsSomeAnd (files (name_in words Image)) (λ image. IsGoodImage image × test image)

-- the plan is within the limit, and each of its lines is in form
pub record IsGoodPlan (b : List ℕ) : Type 0 where
  pub within : length b ≤ longest_file
  pub formed : IsOk (plan_of b)

-- an input is held within the limit, and a plan that is good
abbrev pub HasOutside : List (List ℕ) → Files → Type 0
HasOutside words files =
    IsSomeAnd (files (name_in words Input)) (λ input. length input ≤ longest_file)
    × IsSomeAnd (files (name_in words Plan)) IsGoodPlan

-- a journal is held within the limit, and each of its lines up to its end is right
pub record IsGoodJournal (o : Opening) (b : List ℕ) : Type 0 where
  pub within : length b ≤ longest_file
  pub right : (replay_of b (opened o)).bad ≡ None

-- a list of modules is within the limit, and each of its lines is in form
pub record IsGoodList (b : List ℕ) : Type 0 where
  pub within : length b ≤ longest_file
  pub formed : IsOk (list_of b)

-- a list is held that is good, and the files of its modules, each within the limit; and they can be joined with the image
pub record HasModules (words : List (List ℕ)) (files : Files) : Type 0 where
  pub list : IsSomeAnd (files (name_in words ModuleList)) IsGoodList
  pub held : All (λ it. IsSomeAnd (files it.name) (λ m. length m ≤ longest_module)) (modules_named files words)
  pub joined : IsOk (join_in files words)

-- what the words ask for can be done with the files
abbrev pub IsDoable : Command → List (List ℕ) → Files → Type 0
IsDoable Scan words files = HasImage words files (λ image. ⊤)
IsDoable (Map frames va) words files = HasImage words files (HasRoom frames)
IsDoable (Run steps frames) words files = HasImage words files (HasRoom frames) × HasOutside words files
IsDoable (Replay frames) words files =
    HasImage words files (HasRoom frames)
    × IsSomeAnd (files (name_in words Journal)) (IsGoodJournal (opening_in files words frames))
IsDoable (Audit frames id) words files =
    HasImage words files (HasRoom frames)
    × IsSomeAnd (files (name_in words Journal)) (IsGoodJournal (opening_in files words frames))
    × IsSome (size_in files words id)
IsDoable (Make number) words files = ⊤
IsDoable (Work number) words files = ⊤
IsDoable Assemble words files = IsSomeAnd (files (name_in words Text)) IsGoodText
IsDoable (Listing address count) words files = IsSomeAnd (files (name_in words Image)) (HasCodeAt address)
IsDoable Join words files = HasImage words files (λ image. ⊤) × HasModules words files

-- what can be done is done: without a fault the status is 0, or that of want of memory
abbrev pub IsDone : Witness → ℕ → Type 0
IsDone seen status = IfTold seen.shelf.before.files (λ files.
    IsSomeAnd (command_of seen.words) (λ command. IsDoable command seen.words files) →
    IsFaultless seen → (status ≡ 0) ⊎ (status ≡ 5))

-- what is safe of a run under a plan, from the opening of an image with these bytes of input
pub record IsSafeRun (plan : List Event) (o : Opening) (input : List ℕ) : Type 0 where
  -- each of its states is safe
  pub safe : (k : ℕ) → IsSafe o (state plan (opening_state o input) k)
  -- and has the invariant
  pub guarded : (k : ℕ) → IsGuarded o (state plan (opening_state o input) k)
  -- each vector can be delivered in it
  pub delivers : (k : ℕ) → DeliversAny (state plan (opening_state o input) k)
  -- what the nested kernel guards in it is what the accepted calls made of the opening's record
  pub nested : (k : ℕ) → nested_of (state plan (opening_state o input) k)
      ≡ made_by_all (nested_of (opening_state o input)) (calls plan (opening_state o input) k)
  -- a call that is made through the gates with interrupts off is answered
  pub called : (n k : ℕ) → IsCalling (state plan (opening_state o input) n).processor
      → IsCalledThrough plan (state plan (opening_state o input) n) k
  -- and it comes back
  pub comes_back : (n : ℕ) → IsCalling (state plan (opening_state o input) n).processor
      → IsCalledBack plan (state plan (opening_state o input) n)
  -- of turns in a row that each begin with WP clear there are at most eleven
  pub window : IsShortWindow plan (opening_state o input)

-- where the checks of a run pass, the run is safe; so is that of a made image
abbrev pub HasSafeRun : Command → List (List ℕ) → Files → Type 0
HasSafeRun (Run steps frames) words files =
    first_verdict (checks_of (Run steps frames) files words) ≡ passes
    → IsSafeRun (events_in (plan_of (file_in files words Plan))) (opening_in files words frames) (file_in files words Input)
HasSafeRun (Work number) words files =
    IsSafeRun [] (record { image = image_of_number number; frames = 4096 }) []
HasSafeRun _ words files = ⊤

-- where the checks of a run pass, its text is a journal of it
abbrev pub HasJournal : Command → List (List ℕ) → Files → Type 0
HasJournal (Run steps frames) words files =
    first_verdict (checks_of (Run steps frames) files words) ≡ passes
    → IsJournal (opening_in files words frames) (file_in files words Input) (events_in (plan_of (file_in files words Plan))) steps
HasJournal _ words files = ⊤

-- a run takes as many steps as its length says, and the state after them is the first at which it ends
abbrev pub HasEnd : Command → List (List ℕ) → Files → Type 0
HasEnd (Run steps frames) words files =
    let plan = events_in (plan_of (file_in files words Plan)) in
    let first = opening_state (opening_in files words frames) (file_in files words Input) in
    EndsAfter (run_length steps plan first) steps plan first
HasEnd (Work number) words files =
    let first = opening_state (record { image = image_of_number number; frames = 4096 }) [] in
    EndsAfter (run_length 2000000 [] first) 2000000 [] first
HasEnd _ words files = ⊤

-- every run of a file is safe: from each opening of it that has room, with any input, under any plan
abbrev pub RunsSafely : List ℕ → Type 0
RunsSafely file =
    (o : Opening) (input : List ℕ) (plan : List Event) → o.image ≡ file
    → IsLayout o.image (division_of o.image o.frames) → IsPlan plan → IsSafeRun plan o input

-- the file loads the image, the modules and a directory of them, holds no protected encoding, and is made of bytes; every
-- run of it is safe, and in each of its states the modules' bytes stand in the frames of their pages
pub record IsWholeJoin (b : List ℕ) (modules : List CodeModule) (file : List ℕ) : Type 0 where
  pub joined : IsJoined b modules file
  pub bytes : IsFileOfBytes file
  pub safe : RunsSafely file
  pub kept : KeepsCode (modules_behind b modules) file

-- where the checks of a join pass, its text is such a file
abbrev pub HasJoined : Command → List (List ℕ) → Files → Type 0
HasJoined Join words files =
    first_verdict (checks_of Join files words) ≡ passes
    → IsWholeJoin (file_in files words Image) (modules_in files words) (text_of Join files words)
HasJoined _ words files = ⊤

-- where files are told and the words have a form, this holds of the command that they spell
abbrev pub WhereAsked : (Command → List (List ℕ) → Files → Type 0) → Witness → Type 0
WhereAsked Holds seen = IfTold seen.shelf.before.files (λ files.
    IfSome (command_of seen.words) (λ command. Holds command seen.words files))

pub record Promises (seen : Witness) (status : ℕ) : Type 0 where
  pub status_range : status ≤ 10
  -- words without a form, and the counts: over every shelf and sink, whether they tell their content or not
  pub usage : IsUsage seen status
  pub usage_alone : IsUsageAlone seen status
  pub unread_by_count : IsUnreadByCount seen status
  pub cut_by_count : IsCutByCount seen status
  pub want_by_count : IsWantByCount seen status
  -- otherwise status and text are the outcome's
  pub outcome_status : IsStatus seen status
  pub outcome_text : IsText seen status
  -- what is written with the statuses of the outside
  pub unread_written : IsUnreadWritten seen status
  pub want_written : IsWantWritten seen status
  pub cut_written : IsCutWritten seen status
  pub files_stay : AreKept seen
  -- without a fault of the outside the work is done, if memory is given
  pub complete : IsComplete seen status
  pub done : IsDone seen status
  -- the run whose text is written goes on to the first state at which it ends
  pub run_ends : WhereAsked HasEnd seen
  -- it is safe in each of its states, that of a made image too
  pub run_safe : WhereAsked HasSafeRun seen
  -- and its text is a journal: `replay` of it finds each line right, and shows the run's closing section
  pub run_replayed : WhereAsked HasJournal seen
  -- the joined image has all that was joined and nothing else, and its runs are safe and keep it
  pub image_joined : WhereAsked HasJoined seen
