-- The beginning of a run whose steps another program takes: what it begins from, or the answer where it doesn't begin.
use Rattle.std.specs.Prelude.{◌≡◌, ◌≢◌, ℕ, ◌≤◌, ◌⊎◌, List, Option, None, Some}
use Rattle.irq_plan.specs.declared.event.Event.{Event}
use Rattle.nk_host.specs.Told.{IfTold}
use Rattle.byte_scanner.specs.FirstFound.{first_found}
use Rattle.boot_map.specs.Division.{Division, IsLayout}
use Rattle.gate_state.specs.MachineOpening.{opening_state}
use Rattle.command_words.specs.declared.command_line.Role.{Role}
use Rattle.command_words.specs.declared.command_line.Command.TheVariants.{Run}
use Rattle.command_words.specs.CommandLine.{command_of}
use Rattle.file_scan.specs.ShelfChanges.{Change, Files, ShelfState}
use Rattle.nk_run.specs.Lines.{no_memory_line, unread_line, usage_line}
use Rattle.nk_run.specs.Witness.{SinkState}
use Rattle.nk_run.specs.Outcome.{Answer, outcome}
use Rattle.nk_run.specs.RunStates.{run_text}
use Rattle.nk_run.specs.Clauses.{IsUnread, SinkRose, TookAll, TookPrefix}

-- the words ask for a run of at most so many turns, which may begin: the image's code holds no protected encoding, its
-- layout is this one, and where files are told the outcome of the words is the text of a run from here
pub record MayRun (words : List (List ℕ)) (told : Option Files) (steps : ℕ) (image : List ℕ) (layout : Division)
    (input : List ℕ) (plan : List Event) : Type 0 where
  pub asked : command_of words ≡ Some (Run steps layout.frames)
  pub bounded : steps ≤ 4294967296
  pub layout_is : IsLayout image layout
  pub clean : first_found image ≡ None
  pub outcome_is : IfTold told (λ files. outcome words files ≡ Some (record {
    status = 0;
    text = run_text (record { image = image; frames = layout.frames }) steps plan
        (opening_state (record { image = image; frames = layout.frames }) input);
  }))

-- the words aren't those of a run
pub record IsNoRun (words : List (List ℕ)) (answer : Answer) : Type 0 where
  pub no_run : (steps frames : ℕ) → command_of words ≢ Some (Run steps frames)
  pub answer_is : answer ≡ record { status = 2; text = usage_line }

-- a file of the run couldn't be read
pub record IsUnreadRun (words : List (List ℕ)) (shelf : Change ShelfState) (answer : Answer) : Type 0 where
  pub role : Role
  pub unread : IsUnread words shelf role
  pub answer_is : answer ≡ record { status = 3; text = unread_line role }

-- no run begins, and this is the answer: one of the two above, that there was no memory, or the outcome of the words
abbrev pub IsRefusedRun : List (List ℕ) → Change ShelfState → Answer → Type 0
IsRefusedRun words shelf answer =
    IsNoRun words answer
    ⊎ (IsUnreadRun words shelf answer
    ⊎ ((answer ≡ record { status = 5; text = no_memory_line })
    ⊎ IfTold shelf.before.files (λ files. outcome words files ≡ Some answer)))

-- an answer's text was written whole, which gives its status, or cut by a fault of the sink, which gives 4
abbrev pub IsAnswerPut : Change SinkState → Answer → ℕ → Type 0
IsAnswerPut sink answer result =
    ((result ≡ answer.status) × TookAll sink answer.text) ⊎ ((result ≡ 4) × SinkRose sink × TookPrefix sink answer.text)
