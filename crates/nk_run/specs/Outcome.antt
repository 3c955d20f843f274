-- The outcome of words and files: status and text without a fault of the outside and without want of memory. It is a
-- list of checks in order; the first that doesn't pass decides, and where all pass the command's text is written.
use Rattle.std.specs.Prelude.{◌≡◌, ◌⊎◌, ℕ, ◌+◌, ◌/◌, ◌==◌, Bool, true, false, List, [], ◌∷◌, ◌++◌, length, map, take, slice_get, Option, None, Some, Result, Ok, Err, if◌then◌else◌, nat_lt, nat_le, unwrap_or}
use Rattle.std.specs.Option.{option_map}
use Rattle.elf_image.specs.declared.fault.ImageFault.{ImageFault}
use Rattle.elf_image.specs.ImageFaults.{fault_number, name_of}
use Rattle.elf_image.specs.Rows.{first_fault}
use Rattle.elf_image.specs.Pages.{entry_of, executable_page_count, is_executable}
use Rattle.byte_scanner.specs.declared.encoding.Found.{Found}
use Rattle.byte_scanner.specs.FirstFound.{first_found}
use Rattle.nk_bits.specs.declared.call.CallWords.{CallWords}
use Rattle.nk_bits.specs.declared.leaf.Leaf.{Leaf}
use Rattle.nk_bits.specs.Paging.{page_of, walk}
use Rattle.irq_plan.specs.declared.event.Event.{Event}
use Rattle.irq_plan.specs.PlanFile.{plan_of}
use Rattle.boot_map.specs.Division.{need}
use Rattle.nk_bits.specs.KernelLayout.{opening_root}
use Rattle.boot_map.specs.OpeningEntries.{opening_entry}
use Rattle.nk_body.specs.declared.call.Call.{Call}
use Rattle.nk_body.specs.declared.call.Call.TheVariants.{Allocate}
use Rattle.nk_body.specs.Calls.{call_of}
use Rattle.gate_state.specs.MachineOpening.{opening_memory, opening_state}
use Rattle.gate_state.specs.MachineStates.{Opening, nested_of}
use Rattle.report_text.specs.AuditLines.{audit_text}
use Rattle.report_text.specs.ClosingSection.{section}
use Rattle.report_text.specs.ImageLines.{admitted_line, image_line, protected_line}
use Rattle.report_text.specs.ListingLines.{code_listing}
use Rattle.replay_core.specs.GrantedCalls.{granted_of}
use Rattle.replay_core.specs.ReplayedCalls.{WholeReplay, Replayed, replay_of}
use Rattle.image_maker.specs.MadeImage.{image_of_number}
use Rattle.asm_text.specs.AssembledText.{assembled_of}
use Rattle.code_modules.specs.declared.fault.JoinFault.{JoinFault}
use Rattle.code_modules.specs.declared.fault.JoinFault.TheVariants as join
use Rattle.code_modules.specs.JoinAnswers.{join_answer}
use Rattle.code_modules.specs.JoinedParts.{CodeModule}
use Rattle.code_modules.specs.ModuleList.{Listed, list_of}
use Rattle.command_words.specs.declared.command_line.Role.{Role}
use Rattle.command_words.specs.declared.command_line.Role.TheVariants.{Image, Input, Plan, Journal, ModuleList, Module, Text}
use Rattle.command_words.specs.declared.command_line.Command.{Command}
use Rattle.command_words.specs.declared.command_line.Command.TheVariants.{Scan, Map, Run, Replay, Make, Work, Join, Audit, Assemble, Listing}
use Rattle.command_words.specs.CommandLine.{command_of, name_in}
use Rattle.file_scan.specs.ShelfChanges.{Files}
use Rattle.nk_run.specs.Lines.{most_of, usage_line, longer_line, noroom_line, plan_line, journal_line, list_line, empty_line, nofit_line, noaddress_line, noregion_line, text_line, walk_line}
use Rattle.nk_run.specs.RunStates.{run_text}
use Rattle.nk_run.specs.WorkSummary.{work_text}

-- a status and the text that goes with it
pub record Answer : Type 0 where
  pub status : ℕ
  pub text : List ℕ

-- what a check finds: nothing is in the way; the program ends with an answer; or no file is held to be looked at
pub data Verdict : Type 0 where
  passes : Verdict
  ends : Answer → Verdict
  unheld : Verdict

-- a check, with the role whose file it fetches where it is a fetch
pub record Check : Type 0 where
  pub fetches : Option Role
  pub finds : Verdict

-- what the first check finds that doesn't pass
abbrev pub unless_ended : Verdict → Verdict → Verdict
unless_ended passes later = later
unless_ended (ends answer) later = ends answer
unless_ended unheld later = unheld

abbrev pub first_verdict : List Check → Verdict
first_verdict [] = passes
first_verdict (check ∷ checks) = unless_ended check.finds (first_verdict checks)

-- that verdict decides, and where all checks pass the command's own answer is given; nothing is decided where a file
-- isn't held
abbrev pub decided : Verdict → Answer → Option Answer
decided passes answer = Some answer
decided (ends other) answer = Some other
decided unheld answer = None

-- a test on files that were fetched
abbrev pub test : Verdict → Check
test verdict = record { fetches = None; finds = verdict }

-- the fetch of a role's file: it has to be held, and to have at most as many bytes as such a file may have
abbrev pub fetch_verdict : Role → Option (List ℕ) → Verdict
fetch_verdict role None = unheld
fetch_verdict role (Some file) =
    if nat_lt (most_of role) (length file) then ends (record { status = 7; text = longer_line role }) else passes

abbrev pub fetch : Files → List (List ℕ) → Role → Check
fetch files words role = record { fetches = Some role; finds = fetch_verdict role (files (name_in words role)) }

-- the file of a role, where one is held
abbrev pub file_in : Files → List (List ℕ) → Role → List ℕ
file_in files words role = unwrap_or (files (name_in words role)) []

-- the image has a fault: its first is named
abbrev pub formed : Option ImageFault → Verdict
formed None = passes
formed (Some fault) =
    ends (record { status = 1; text = image_line (fault_number fault.kind) (name_of fault.kind) fault.value })

-- a protected encoding stands in the image's code: the least address is named
abbrev pub clean : Option Found → Verdict
clean None = passes
clean (Some found) =
    ends (record { status = 1; text = protected_line found.at (take found.count found.bytes) })

-- the checks on the bytes of an image
abbrev pub form_checks : List ℕ → List Check
form_checks image = test (formed (first_fault image)) ∷ test (clean (first_found image)) ∷ []

-- the checks on the image that commands on files make first
abbrev pub image_checks : Files → List (List ℕ) → List Check
image_checks files words = fetch files words Image ∷ form_checks (file_in files words Image)

-- the plan has a line that is out of form: the first is named
abbrev pub planned : Result (List Event) ℕ → Verdict
planned (Ok events) = passes
planned (Err number) = ends (record { status = 6; text = plan_line number })

-- the events of a plan that is in form
abbrev pub events_in : Result (List Event) ℕ → List Event
events_in (Ok events) = events
events_in (Err number) = []

-- the checks on the plan, and those on the input and then the plan
abbrev pub plan_checks : Files → List (List ℕ) → List Check
plan_checks files words = fetch files words Plan ∷ test (planned (plan_of (file_in files words Plan))) ∷ []

abbrev pub input_checks : Files → List (List ℕ) → List Check
input_checks files words = fetch files words Input ∷ plan_checks files words

-- the checks on all files of a run
abbrev pub run_checks : Files → List (List ℕ) → List Check
run_checks files words = image_checks files words ++ input_checks files words

-- the opening of the image has room in a memory of so many frames
abbrev pub roomy : ℕ → ℕ → Verdict
roomy need frames =
    if nat_le need frames then passes else ends (record { status = 1; text = noroom_line need frames })

-- what the opening tables give for an address, by the walk from the opening's root
abbrev pub translation_of : List ℕ → ℕ → ℕ → Result Leaf ℕ
translation_of image frames va = walk (opening_entry image frames) frames opening_root (page_of va)

-- what a run begins from: the file of the image, in a memory of so many frames
abbrev pub opening_in : Files → List (List ℕ) → ℕ → Opening
opening_in files words frames = record { image = file_in files words Image; frames = frames }

-- the checks on all files of a replay
abbrev pub journal_checks : Files → List (List ℕ) → List Check
journal_checks files words = image_checks files words ++ fetch files words Journal ∷ []

-- what a replay begins from, and where it ends
abbrev pub opened : Opening → Replayed
opened o = record { nested = nested_of (opening_state o []); memory = opening_memory o }

abbrev pub replay_in : Files → List (List ℕ) → ℕ → WholeReplay
replay_in files words frames = replay_of (file_in files words Journal) (opened (opening_in files words frames))

-- the journal has a line that isn't right: the first is named
abbrev pub journaled : Option ℕ → Verdict
journaled None = passes
journaled (Some number) = ends (record { status = 6; text = journal_line number })

-- the size of a region that a call gave, where it is of the pool and its writes are logged, by policy 4
abbrev pub logged_by : Call → Option ℕ
logged_by (Allocate size policy) = if policy == 4 then Some size else None
logged_by _ = None

abbrev pub logged_size : Option CallWords → Option ℕ
logged_size None = None
logged_size (Some asked) = logged_by (call_of asked)

-- and of the one to which a call of the journal gave this identifier
abbrev pub size_in : Files → List (List ℕ) → ℕ → Option ℕ
size_in files words id = logged_size (granted_of (file_in files words Journal) id)

-- no call gave such a region this identifier
abbrev pub given : ℕ → Option ℕ → Verdict
given id (Some size) = passes
given id None = ends (record { status = 9; text = noregion_line id })

-- the list of modules has a line that is out of form: the first is named
abbrev pub well_listed : Result (List Listed) ℕ → Verdict
well_listed (Ok listed) = passes
well_listed (Err number) = ends (record { status = 6; text = list_line number })

-- what a list names that is in form
abbrev pub listed_in : Result (List Listed) ℕ → List Listed
listed_in (Ok listed) = listed
listed_in (Err number) = []

abbrev pub modules_named : Files → List (List ℕ) → List Listed
modules_named files words = listed_in (list_of (file_in files words ModuleList))

-- the name in it of the file of a module of this number, from 0 on
abbrev pub module_name : Files → List (List ℕ) → ℕ → Option (List ℕ)
module_name files words number = option_map (λ it. it.name) (slice_get (modules_named files words) number)

-- the checks on the list, and those on the image and then the list
abbrev pub listing_checks : Files → List (List ℕ) → List Check
listing_checks files words =
    fetch files words ModuleList ∷ test (well_listed (list_of (file_in files words ModuleList))) ∷ []

abbrev pub list_checks : Files → List (List ℕ) → List Check
list_checks files words = image_checks files words ++ listing_checks files words

-- the fetches of the files of these modules, of which the first has this number
abbrev pub module_fetches : Files → ℕ → List Listed → List Check
module_fetches files number [] = []
module_fetches files number (it ∷ later) =
    record { fetches = Some (Module number); finds = fetch_verdict (Module number) (files it.name) }
    ∷ module_fetches files (number + 1) later

-- the checks on all files of a join
abbrev pub module_checks : Files → List (List ℕ) → List Check
module_checks files words = list_checks files words ++ module_fetches files 0 (modules_named files words)

-- the modules, with the bytes of their files
abbrev pub module_held : Files → Listed → CodeModule
module_held files it = record { guard = it.guard; bytes = unwrap_or (files it.name) [] }

abbrev pub modules_in : Files → List (List ℕ) → List CodeModule
modules_in files words = map (module_held files) (modules_named files words)

-- what joining them with the image comes to
abbrev pub join_in : Files → List (List ℕ) → Result (List ℕ) JoinFault
join_in files words = join_answer (file_in files words Image) (modules_in files words)

-- a module has no bytes, or they don't fit, or a protected encoding would stand in the joined image's code; want of
-- memory is no answer
abbrev pub joinable : Result (List ℕ) JoinFault → Verdict
joinable (Ok file) = passes
joinable (Err (join.Empty number)) = ends (record { status = 8; text = empty_line number })
joinable (Err join.NoFit) = ends (record { status = 8; text = nofit_line })
joinable (Err (join.Protected found)) = clean (Some found)
joinable (Err join.Memory) = unheld

-- the file of the joined image, where there is one
abbrev pub file_joined : Result (List ℕ) JoinFault → List ℕ
file_joined (Ok file) = file
file_joined (Err fault) = []

-- a text has a line without code: the first is named
abbrev pub assembled : Result (List ℕ) ℕ → Verdict
assembled (Ok code) = passes
assembled (Err number) = ends (record { status = 6; text = text_line number })

-- the code of a text, where each line has some
abbrev pub code_in : Result (List ℕ) ℕ → List ℕ
code_in (Ok code) = code
code_in (Err number) = []

-- the checks on a text
abbrev pub text_checks : Files → List (List ℕ) → List Check
text_checks files words =
    fetch files words Text ∷ test (assembled (assembled_of (file_in files words Text))) ∷ []

-- the checks on an image of which the code is listed, whatever it holds
abbrev pub formed_checks : Files → List (List ℕ) → List Check
formed_checks files words =
    fetch files words Image ∷ test (formed (first_fault (file_in files words Image))) ∷ []

-- an address lies in no page of the image's code
abbrev pub addressed : Bool → ℕ → Verdict
addressed true address = passes
addressed false address = ends (record { status = 10; text = noaddress_line address })

-- what `work` runs of an image that is made: 2,000,000 turns at most, in 4,096 frames, without input or events
abbrev pub worked : List ℕ → List ℕ
worked image = work_text 2000000 [] (opening_state (record { image = image; frames = 4096 }) [])

-- the checks of a command, in order, and its text where all pass
abbrev pub checks_of : Command → Files → List (List ℕ) → List Check
checks_of Scan files words = image_checks files words
checks_of (Map frames va) files words =
    image_checks files words ++ test (roomy (need (file_in files words Image) frames) frames) ∷ []
checks_of (Run steps frames) files words =
    run_checks files words ++ test (roomy (need (file_in files words Image) frames) frames) ∷ []
checks_of (Replay frames) files words =
    journal_checks files words
    ++ test (roomy (need (file_in files words Image) frames) frames)
    ∷ test (journaled (replay_in files words frames).bad)
    ∷ []
checks_of (Audit frames id) files words =
    journal_checks files words
    ++ test (roomy (need (file_in files words Image) frames) frames)
    ∷ test (journaled (replay_in files words frames).bad)
    ∷ test (given id (size_in files words id))
    ∷ []
checks_of (Make number) files words = []
checks_of (Work number) files words = []
checks_of Assemble files words = text_checks files words
checks_of (Listing address count) files words =
    formed_checks files words
    ++ test (addressed (is_executable (file_in files words Image) (address / 4096)) address) ∷ []
checks_of Join files words = module_checks files words ++ test (joinable (join_in files words)) ∷ []

abbrev pub text_of : Command → Files → List (List ℕ) → List ℕ
text_of Scan files words =
    let image = file_in files words Image in admitted_line (entry_of image) (executable_page_count image)
text_of (Map frames va) files words = walk_line (translation_of (file_in files words Image) frames va)
text_of (Run steps frames) files words =
    run_text (opening_in files words frames) steps (events_in (plan_of (file_in files words Plan)))
    (opening_state (opening_in files words frames) (file_in files words Input))
text_of (Replay frames) files words =
    section (file_in files words Image) frames (replay_in files words frames).made.nested
text_of (Audit frames id) files words =
    audit_text id (unwrap_or (size_in files words id) 0) (replay_in files words frames).made.nested.ledger.log
text_of (Make number) files words = image_of_number number
text_of (Work number) files words = worked (image_of_number number)
text_of Assemble files words = code_in (assembled_of (file_in files words Text))
text_of (Listing address count) files words = code_listing (file_in files words Image) address count
text_of Join files words = file_joined (join_in files words)

-- the outcome of the words, of which the command is what they spell
abbrev pub command_outcome : Option Command → List (List ℕ) → Files → Option Answer
command_outcome None words files = Some (record { status = 2; text = usage_line })
command_outcome (Some command) words files =
    decided (first_verdict (checks_of command files words)) (record { status = 0; text = text_of command files words })

abbrev pub outcome : List (List ℕ) → Files → Option Answer
outcome words files = command_outcome (command_of words) words files

-- the checks fetch a role's file, and those before that fetch pass
abbrev pub IsReached : Role → List Check → Type 0
IsReached role [] = ⊥
IsReached role (check ∷ checks) = (check.fetches ≡ Some role) ⊎ ((check.finds ≡ passes) × IsReached role checks)
