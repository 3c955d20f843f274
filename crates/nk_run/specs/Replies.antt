-- What the top call says, and how it is written.
use Rattle.std.specs.Prelude.{◌≡◌, ◌≢◌, ℕ, ◌+◌, ◌*◌, ◌/◌, ◌==◌, Bool, true, false, ◌<◌, ◌≤◌, ◌⊎◌, List, length, replicate, Contains, Option, None, Some, Result, IsSome, ⊤}
use Rattle.std.specs.List.{list_any}
use Rattle.nk_bits.specs.declared.leaf.Leaf.{Leaf}
use Rattle.nk_host.specs.FaultCounts.{Rose, RoseTo}
use Rattle.nk_host.specs.Files.{AreFilesOfBytes}
use Rattle.nk_host.specs.Told.{IfTold}
use Rattle.elf_image.specs.Pages.{is_executable}
use Rattle.byte_scanner.specs.FirstFound.{first_found}
use Rattle.boot_map.specs.Division.{Division, IsLayout}
use Rattle.write_log.specs.LogBytes.{HoldsLog, log_in}
use Rattle.write_log.specs.LogRecords.{LogRecord}
use Rattle.nk_body.specs.NestedRecord.{HoldsBooks, OwnState, nested_held}
use Rattle.report_text.specs.AuditLines.{audit_text}
use Rattle.report_text.specs.ListingLines.{code_listing}
use Rattle.replay_core.specs.ReplayedCalls.{replay_of}
use Rattle.image_maker.specs.MadeImage.{image_of_number}
use Rattle.command_words.specs.declared.command_line.Role.{Role}
use Rattle.command_words.specs.declared.command_line.Role.TheVariants.{Image, Input, Plan, Journal, ModuleList, Module, Text}
use Rattle.command_words.specs.declared.command_line.Command.{Command}
use Rattle.command_words.specs.declared.command_line.Command.TheVariants.{Join, Replay, Run, Scan}
use Rattle.command_words.specs.CommandLine.{command_of}
use Rattle.file_scan.specs.ShelfChanges.{Change, Files, ShelfState}
use Rattle.nk_run.specs.declared.count.Tally.{Tally}
use Rattle.nk_run.specs.Lines.{no_memory_line, unread_line, usage_line, walk_line}
use Rattle.nk_run.specs.Witness.{SinkState, Witness}
use Rattle.nk_run.specs.Outcome.{Check, Verdict, checks_of, ends, decided, fetch_verdict, file_in, first_verdict, opened, outcome, passes, IsReached}
use Rattle.nk_run.specs.Clauses.{AreKept, IsUnread, NameRose, SinkRose, TookAll, TookPrefix}

-- a status that a command's own answer may have: neither that of the usage line nor one of the outside
pub record IsOwn (status : ℕ) : Type 0 where
  pub small : status ≤ 10
  pub not_usage : status ≢ 2
  pub not_unread : status ≢ 3
  pub not_cut : status ≢ 4
  pub not_want : status ≢ 5

-- the words have no form
pub record SaysUsage (words : List (List ℕ)) (status : ℕ) (text : List ℕ) : Type 0 where
  pub formless : command_of words ≡ None
  pub status_is : status ≡ 2
  pub text_is : text ≡ usage_line

-- a file couldn't be read
pub record SaysUnread (words : List (List ℕ)) (shelf : Change ShelfState) (status : ℕ) (text : List ℕ)
    : Type 0 where
  pub role : Role
  pub unread : IsUnread words shelf role
  pub status_is : status ≡ 3
  pub text_is : text ≡ unread_line role

-- there was no memory
pub record IsWant (status : ℕ) (text : List ℕ) : Type 0 where
  pub status_is : status ≡ 5
  pub text_is : text ≡ no_memory_line

-- there was no memory for a command; of `scan` the shelf counted it
pub record SaysWant (words : List (List ℕ)) (shelf : Change ShelfState) (status : ℕ) (text : List ℕ) : Type 0 where
  pub asked : IsSome (command_of words)
  pub want : IsWant status text
  pub counted : command_of words ≡ Some Scan → RoseTo shelf.before.wants shelf.after.wants

-- a command's outcome, where files are told
pub record SaysOutcome (words : List (List ℕ)) (shelf : Change ShelfState) (status : ℕ) (text : List ℕ)
    : Type 0 where
  pub asked : IsSome (command_of words)
  pub outcome_is : IfTold shelf.before.files
      (λ files. outcome words files ≡ Some (record { status = status; text = text }))
  pub own : IsOwn status

-- what a command says is one of these
abbrev pub CommandSays : List (List ℕ) → Change ShelfState → ℕ → List ℕ → Type 0
CommandSays words shelf status text =
    SaysUnread words shelf status text ⊎ (SaysWant words shelf status text ⊎ SaysOutcome words shelf status text)

-- what is said is that the words have no form, or what their command says
abbrev pub Says : List (List ℕ) → Change ShelfState → ℕ → List ℕ → Type 0
Says words shelf status text = SaysUsage words status text ⊎ CommandSays words shelf status text

-- a reply of this status and text was written whole, or cut by a fault of the sink
abbrev pub IsWritten : Change SinkState → ℕ → List ℕ → ℕ → Type 0
IsWritten sink status text result =
    ((result ≡ status) × TookAll sink text) ⊎ ((result ≡ 4) × SinkRose sink × TookPrefix sink text)

-- the top call says something, of a status and a text, and writes it
pub record IsAnswered (seen : Witness) (result : ℕ) : Type 0 where
  pub status : ℕ
  pub text : List ℕ
  pub says : Says seen.words seen.shelf status text
  pub written : IsWritten seen.sink status text result
  pub files_stay : AreKept seen

-- where files are told, they are made of bytes
abbrev pub TellsBytes : Option Files → Type 0
TellsBytes told = IfTold told AreFilesOfBytes

-- and so it is where a run or a join reads them
abbrev pub ReadsBytes : Command → Option Files → Type 0
ReadsBytes (Run steps frames) told = TellsBytes told
ReadsBytes Join told = TellsBytes told
ReadsBytes _ told = ⊤

-- The first steps of a command: a reply with which it stops before its work begins.

-- the fetch of a role's file failed: the count of its name rose
pub record StopsUnread (words : List (List ℕ)) (shelf : Change ShelfState) (role : Role) (status : ℕ) (text : List ℕ)
    : Type 0 where
  pub rose : NameRose words shelf role
  pub status_is : status ≡ 3
  pub text_is : text ≡ unread_line role

-- a check ended it, where files are told
pub record StopsEnded (shelf : Change ShelfState) (verdict : Files → Verdict) (status : ℕ) (text : List ℕ)
    : Type 0 where
  pub ended : IfTold shelf.before.files (λ files. verdict files ≡ ends (record { status = status; text = text }))
  pub own : IsOwn status

-- the fetch of the file of a name failed: its count rose
pub record IsUnfetched (shelf : Change ShelfState) (role : Role) (name : List ℕ) (status : ℕ) (text : List ℕ) : Type 0 where
  pub rose : Rose shelf.before.faults shelf.after.faults name
  pub status_is : status ≡ 3
  pub text_is : text ≡ unread_line role

-- the fetch of the file of a name gives one of these replies
abbrev pub StopsFetch : Change ShelfState → Role → List ℕ → ℕ → List ℕ → Type 0
StopsFetch shelf role name status text =
    IsUnfetched shelf role name status text
    ⊎ (IsWant status text ⊎ StopsEnded shelf (λ files. fetch_verdict role (files name)) status text)

-- the name of the role's file stands among the words: a module's doesn't
abbrev pub IsWordRole : Role → Type 0
IsWordRole (Module number) = ⊥
IsWordRole _ = ⊤

-- the reply is one of these, for checks that begin with the fetch of a role's file
abbrev pub Stops : List (List ℕ) → Change ShelfState → Role → (Files → Verdict) → ℕ → List ℕ
    → Type 0
Stops words shelf role verdict status text =
    StopsUnread words shelf role status text ⊎ (IsWant status text ⊎ StopsEnded shelf verdict status text)

-- two roles are one
abbrev pub is_same : Role → Role → Bool
is_same Image Image = true
is_same Input Input = true
is_same Plan Plan = true
is_same Journal Journal = true
is_same ModuleList ModuleList = true
is_same (Module number) (Module other) = number == other
is_same Text Text = true
is_same _ _ = false

-- the role is one of these
abbrev pub is_listed : List Role → Role → Bool
is_listed roles role = list_any (λ other. is_same other role) roles

-- the fetch of a role's file in a row of checks failed, and where files are told the checks before that fetch pass
pub record StopsUnreadIn (words : List (List ℕ)) (shelf : Change ShelfState) (roles : List Role) (checks : Files → List Check)
    (status : ℕ) (text : List ℕ) : Type 0 where
  pub role : Role
  pub listed : is_listed roles role ≡ true
  pub unread : StopsUnread words shelf role status text
  pub reached : IfTold shelf.before.files (λ files. IsReached role (checks files))

-- the reply is one of these, for a row of checks that fetches the files of these roles
abbrev pub StopsIn : List (List ℕ) → Change ShelfState → List Role → (Files → List Check) → ℕ → List ℕ → Type 0
StopsIn words shelf roles checks status text =
    StopsUnreadIn words shelf roles checks status text
    ⊎ (IsWant status text ⊎ StopsEnded shelf (λ files. first_verdict (checks files)) status text)

-- a check on what was fetched ended the command with its number as the status
abbrev pub EndsBy : ℕ → Verdict → ℕ → List ℕ → Type 0
EndsBy number verdict status text = (verdict ≡ ends (record { status = status; text = text })) × (status ≡ number)

-- or there was no memory to say so
abbrev pub RefusesBy : ℕ → Verdict → ℕ → List ℕ → Type 0
RefusesBy number verdict status text = IsWant status text ⊎ EndsBy number verdict status text

-- or a check ended it with a status of the command's own
abbrev pub EndsOwn : Verdict → ℕ → List ℕ → Type 0
EndsOwn verdict status text =
    IsWant status text ⊎ ((verdict ≡ ends (record { status = status; text = text })) × IsOwn status)

-- after the checks on the image, the last check decides and the command's text is written, or there was no memory
abbrev pub Concludes : Verdict → List ℕ → ℕ → List ℕ → Type 0
Concludes verdict answer status text =
    IsWant status text
    ⊎ ((decided verdict (record { status = 0; text = answer }) ≡ Some (record { status = status; text = text }))
    × (status ≤ 1))

-- the line for what a walk found, or there was no memory
abbrev pub ShowsWalk : Result Leaf ℕ → ℕ → List ℕ → Type 0
ShowsWalk found status text = IsWant status text ⊎ ((status ≡ 0) × (text ≡ walk_line found))

-- where files are told, image and journal are theirs, and these checks pass on them
abbrev pub HoldsReplay : List (List ℕ) → Option Files → List ℕ → List ℕ → (Files → List Check) → Type 0
HoldsReplay words told image journal checks =
    IfTold told (λ files. (image ≡ file_in files words Image) × (journal ≡ file_in files words Journal)
    × (first_verdict (checks files) ≡ passes))

-- a replay was made: the image has its layout, memory holds the books and what the calls of the journal made, each of its
-- lines is right, and where files are told a replay's checks pass
pub record IsReplayedFrom (words : List (List ℕ)) (told : Option Files) (frames : ℕ) (image journal : List ℕ)
    (layout : Division) (own : OwnState) (memory : List ℕ) : Type 0 where
  pub layout_is : IsLayout image layout
  pub frames_are : layout.frames ≡ frames
  pub books_are : HoldsBooks own memory
  pub size : length memory ≡ 4096 * layout.frames
  pub made : nested_held own memory ≡ (replay_of journal (opened (record { image = image; frames = layout.frames }))).made.nested
  pub right : (replay_of journal (opened (record { image = image; frames = layout.frames }))).bad ≡ None
  pub passed : HoldsReplay words told image journal (λ files. checks_of (Replay frames) files words)

-- each record of this region in the log lies within its first so many bytes
abbrev pub LiesWithin : ℕ → ℕ → List LogRecord → Type 0
LiesWithin id size log = (it : LogRecord) → Contains log it → it.region ≡ id → it.offset + length it.bytes ≤ size

-- an audit may be written, of a region with these bytes: all are 0, memory holds the log, whose records of the region lie
-- within it, and where files are told the text is the outcome's
pub record IsAuditable (words : List (List ℕ)) (told : Option Files) (id : ℕ) (bytes : List ℕ) (own : OwnState) (memory : List ℕ)
    : Type 0 where
  pub fresh : bytes ≡ replicate (length bytes) 0
  pub log_is : HoldsLog own.log memory
  pub within : LiesWithin id (length bytes) (log_in own.log memory)
  pub outcome_is : IfTold told (λ files. outcome words files ≡ Some (record {
    status = 0;
    text = audit_text id (length bytes) (log_in own.log memory);
  }))

-- an image may be listed from an address on: its code has a page with the address, and where files are told the text is
-- the outcome's
pub record IsListable (words : List (List ℕ)) (told : Option Files) (address count : ℕ) (image : List ℕ) : Type 0 where
  pub code : is_executable image (address / 4096) ≡ true
  pub outcome_is : IfTold told (λ files. outcome words files ≡ Some (record {
    status = 0;
    text = code_listing image address count;
  }))

-- a run of the image of a number may begin: it was made, holds no protected encoding, and has its layout in 4,096 frames
pub record IsWorkable (number : ℕ) (image : List ℕ) (layout : Division) : Type 0 where
  pub made : image ≡ image_of_number number
  pub clean : first_found image ≡ None
  pub layout_is : IsLayout image layout
  pub frames_are : layout.frames ≡ 4096

-- one more can be counted of each
pub record CanCount (t : Tally) : Type 0 where
  pub calls : t.calls < 4294967296
  pub accepted : t.accepted < 4294967296
  pub deliveries : t.deliveries < 4294967296
