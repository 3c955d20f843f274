-- What the checks of a run, of a replay and of a made image say of their outcomes.
use Rattle.std.proofs.Common.{◌≡◌, ℕ, inl, inr, List, [], ◌∷◌, Option, None, Some, Ok, Result, refl, sym, ap, ◌∙◌}
use Rattle.nk_host.specs.Told.{IfTold}
use Rattle.irq_plan.specs.declared.event.Event.{Event}
use Rattle.irq_plan.specs.PlanFile.{plan_of}
use Rattle.boot_map.specs.Division.{need}
use Rattle.nk_body.specs.NestedRecord.{Nested}
use Rattle.gate_state.specs.MachineOpening.{opening_state}
use Rattle.gate_state.specs.MachineStates.{Opening}
use Rattle.report_text.specs.ClosingSection.{section}
use Rattle.replay_core.specs.ReplayedCalls.{WholeReplay, replay_of}
use Rattle.image_maker.specs.MadeImage.{image_of_number}
use Rattle.command_words.specs.declared.command_line.Role.TheVariants.{Image, Input, Journal, Plan}
use Rattle.command_words.specs.declared.command_line.Command.TheVariants.{Make, Map, Replay, Run, Work}
use Rattle.command_words.specs.CommandLine.{command_of, roles_of}
use Rattle.file_scan.specs.ShelfChanges.{Change, Files, ShelfState}
use Rattle.nk_run.specs.Outcome.{Answer, Check, Verdict, checks_of, decided, ends, events_in, file_in, first_verdict, image_checks, journal_checks, journaled, opened, opening_in, outcome, passes, replay_in, roomy, run_checks, test, translation_of, unheld, unless_ended, worked}
use Rattle.nk_run.specs.Replies.{CommandSays, Concludes, HoldsReplay, IsWant, RefusesBy, Stops, StopsIn}
use Rattle.nk_run.specs.Lines.{walk_line}
use Rattle.nk_run.specs.RunStates.{run_text}
use Rattle.nk_run.proofs.Checks.{first_verdict-append}
use Rattle.nk_run.proofs.Rows.{all_says, image_stops, later_says, outcome_says, own_one, own_six, own_small, own_zero, refused_stops, row_passed, row_says, stops_longer, wants_says}
use Rattle.nk_run.proofs.Told.{if_told, told_at}

pub last_ends : (v later : Verdict) (it : Answer) → v ≡ ends it → unless_ended v later ≡ ends it
last_ends v later it e = rw e refl

next_ends : (u v : Verdict) (it : Answer) → u ≡ passes → v ≡ ends it → unless_ended u (unless_ended v passes) ≡ ends it
next_ends u v it first e = rw (first, e) refl

both : (u v : Verdict) → u ≡ passes → v ≡ passes → unless_ended u (unless_ended v passes) ≡ passes
both u v first second = rw (first, second) refl

-- A walk of the opening's tables.
unless_passes : (v : Verdict) → unless_ended v passes ≡ v
unless_passes passes = refl
unless_passes (ends answer) = refl
unless_passes unheld = refl

module _ (words : List (List ℕ)) (frames va : ℕ) (asked : command_of words ≡ Some (Map frames va)) where
  abbrev map_row : Files → List Check
  map_row files = image_checks files words

  abbrev map_last : Files → List Check
  map_last files = test (roomy (need (file_in files words Image) frames) frames) ∷ []

  -- the image isn't opened
  pub map_stops : (shelf : Change ShelfState) (status : ℕ) (text : List ℕ)
      → Stops words shelf Image (λ files. first_verdict (image_checks files words)) status text → CommandSays words shelf status text
  map_stops shelf status text stops =
      row_says words (Map frames va) asked map_row map_last (λ files. refl) (λ e. cc) shelf status text (image_stops words shelf status text stops)

  -- what is said of an image with these bytes, which are those of the file
  abbrev said_of : List ℕ → Option Answer
  said_of image = decided (roomy (need image frames) frames) (record { status = 0; text = walk_line (translation_of image frames va) })

  pub map_says : (image : List ℕ) (shelf : Change ShelfState) (status : ℕ) (text : List ℕ)
      → IfTold shelf.before.files (λ files. (image ≡ file_in files words Image) × (first_verdict (image_checks files words) ≡ passes))
      → Concludes (roomy (need image frames) frames) (walk_line (translation_of image frames va)) status text → CommandSays words shelf status text
  map_says image shelf status text passed (inl want) =
      wants_says words (Map frames va) asked map_row map_last (λ files. refl) (λ e. cc) shelf status text want
  map_says image shelf status text passed (inr (said, small)) =
      outcome_says words (Map frames va) asked map_row map_last (λ files. refl) (λ e. cc) shelf status text (own_small status small)
      (if_told shelf.before.files _ (λ files e.
      let (same, first) = told_at shelf.before.files _ files e passed in
      row_passed words (Map frames va) asked map_row map_last (λ files. refl) (λ e. cc) files _ first (unless_passes _)
      ∙ ap said_of (sym same) ∙ said))

-- A run.
module _ (words : List (List ℕ)) (steps frames : ℕ) (asked : command_of words ≡ Some (Run steps frames)) where
  run_row : Files → List Check
  run_row files = run_checks files words

  run_last : Files → List Check
  run_last files = test (roomy (need (file_in files words Image) frames) frames) ∷ []

  pub run_row_says : (shelf : Change ShelfState) (status : ℕ) (text : List ℕ)
      → StopsIn words shelf (roles_of (Run steps frames)) (λ files. run_checks files words) status text → CommandSays words shelf status text
  run_row_says = row_says words (Run steps frames) asked (λ files. run_checks files words) (λ files. test (roomy (need (file_in files words Image) frames) frames) ∷ []) (λ files. refl) (λ e. cc)

  -- the run was made
  pub ran_says : (shelf : Change ShelfState) (text : List ℕ)
      → IfTold shelf.before.files (λ files. outcome words files ≡ Some (record { status = 0; text = text })) → CommandSays words shelf 0 text
  ran_says shelf text is =
      outcome_says words (Run steps frames) asked (λ files. run_checks files words) (λ files. test (roomy (need (file_in files words Image) frames) frames) ∷ []) (λ files. refl) (λ e. cc) shelf 0 text own_zero is

  -- the files are those that are told, where they are told, and the row passed on them
  module _ (told : Option Files) (image input : List ℕ) (plan : List Event) (held : IfTold told (λ files. (image ≡ file_in files words Image) × (input ≡ file_in files words Input) × (plan_of (file_in files words Plan) ≡ Ok plan) × (first_verdict (run_checks files words) ≡ passes))) where
    run_room : (files : Files) (v : Verdict) → told ≡ Some files → roomy (need image frames) frames ≡ v
        → roomy (need (file_in files words Image) frames) frames ≡ v
    run_room files v e is =
        ap (λ (b : List ℕ). roomy (need b frames) frames) (sym (told_at told _ files e held).0) ∙ is

    pub run_room_says : (shelf : Change ShelfState) (status : ℕ) (text : List ℕ) → shelf.before.files ≡ told
        → RefusesBy 1 (roomy (need image frames) frames) status text → CommandSays words shelf status text
    run_room_says shelf status text same refuses =
        later_says words (Run steps frames) asked (λ files. run_checks files words) (λ files. test (roomy (need (file_in files words Image) frames) frames) ∷ []) (λ files. refl) (λ e. cc)
        shelf 1 status text (roomy (need image frames) frames) own_one
        (if_told shelf.before.files _ (λ files e.
        let told_is : told ≡ Some files = sym same ∙ e in
        ((told_at told _ files told_is held).3, λ it is. last_ends _ passes it (run_room files _ told_is is)))) refuses

    text_from : Opening → List Event → List ℕ → List ℕ
    text_from o plan input = run_text o steps plan (opening_state o input)

    text_is : (files : Files) → plan_of (file_in files words Plan) ≡ Ok plan → image ≡ file_in files words Image → input ≡ file_in files words Input
        → run_text (opening_in files words frames) steps (events_in (plan_of (file_in files words Plan))) (opening_state (opening_in files words frames) (file_in files words Input))
        ≡ run_text (record { image = image; frames = frames }) steps plan (opening_state (record { image = image; frames = frames }) input)
    unfolding text_from
    text_is files plan_is image_is input_is =
        ap (λ (r : Result (List Event) ℕ). text_from (opening_in files words frames) (events_in r) (file_in files words Input)) plan_is
        ∙ ap (λ (b : List ℕ). text_from (record { image = b; frames = frames }) plan (file_in files words Input)) (sym image_is)
        ∙ ap (λ (b : List ℕ). text_from (record { image = image; frames = frames }) plan b) (sym input_is)

    -- the row and the room pass, and the text is that of the run
    pub ready_says : roomy (need image frames) frames ≡ passes → IfTold told (λ files. outcome words files ≡ Some (record {
      status = 0;
      text = run_text (record { image = image; frames = frames }) steps plan
          (opening_state (record { image = image; frames = frames }) input);
    }))
    ready_says fits =
        if_told told _ (λ files e.
        let given = told_at told _ files e held in
        all_says words (Run steps frames) asked (λ files. run_checks files words) (λ files. test (roomy (need (file_in files words Image) frames) frames) ∷ []) (λ files. refl) (λ e. cc)
        files given.3 (ap (λ (v : Verdict). unless_ended v passes) (run_room files passes e fits))
        ∙ ap (λ (l : List ℕ). Some (record { status = 0; text = l })) (text_is files given.2 given.0 given.1))

-- A replay, whose checks are the first of an audit.
module _ (words : List (List ℕ)) (frames : ℕ) where
  abbrev journal_row : Files → List Check
  journal_row files = journal_checks files words

  abbrev replay_last : Files → List Check
  replay_last files =
      test (roomy (need (file_in files words Image) frames) frames) ∷ test (journaled (replay_in files words frames).bad) ∷ []

  abbrev pub replay_row : Files → List Check
  replay_row files = checks_of (Replay frames) files words

  -- a check on the files stops it
  pub held_stops : (shelf : Change ShelfState) (status : ℕ) (text : List ℕ)
      → StopsIn words shelf (Image ∷ Journal ∷ []) (λ files. journal_checks files words) status text
      → StopsIn words shelf (Image ∷ Journal ∷ []) (λ files. checks_of (Replay frames) files words) status text
  held_stops shelf status text stops =
      stops_longer words shelf (Image ∷ Journal ∷ []) [] journal_row replay_last status text stops

  -- the files are those that are told, where they are told, and the row passed on them
  module _ (told : Option Files) (image journal : List ℕ) (held : HoldsReplay words told image journal (λ files. journal_checks files words)) where
    replay_room : (files : Files) (v : Verdict) → told ≡ Some files → roomy (need image frames) frames ≡ v
        → roomy (need (file_in files words Image) frames) frames ≡ v
    replay_room files v e is =
        ap (λ (b : List ℕ). roomy (need b frames) frames) (sym (told_at told _ files e held).0) ∙ is

    replay_is : (files : Files) → told ≡ Some files
        → replay_in files words frames ≡ replay_of journal (opened (record { image = image; frames = frames }))
    replay_is files e =
        let given = told_at told _ files e held in
        ap (λ (b : List ℕ). replay_of b (opened (opening_in files words frames))) (sym given.1)
        ∙ ap (λ (b : List ℕ). replay_of journal (opened (record { image = b; frames = frames }))) (sym given.0)

    -- the opening has no room
    pub room_stops : (shelf : Change ShelfState) (status : ℕ) (text : List ℕ) → shelf.before.files ≡ told
        → RefusesBy 1 (roomy (need image frames) frames) status text
        → StopsIn words shelf (Image ∷ Journal ∷ []) (λ files. checks_of (Replay frames) files words) status text
    room_stops shelf status text same refuses =
        refused_stops words shelf (Image ∷ Journal ∷ []) journal_row replay_last 1 status text (roomy (need image frames) frames) own_one
        (if_told shelf.before.files _ (λ files e.
        let told_is : told ≡ Some files = sym same ∙ e in
        ((told_at told _ files told_is held).2, λ it is. last_ends _ _ it (replay_room files _ told_is is)))) refuses

    -- a line of the journal isn't right
    pub journal_stops : roomy (need image frames) frames ≡ passes → (at : ℕ) → at ≡ frames
        → (shelf : Change ShelfState) (status : ℕ) (text : List ℕ) → shelf.before.files ≡ told
        → RefusesBy 6 (journaled (replay_of journal (opened (record { image = image; frames = at }))).bad) status text
        → StopsIn words shelf (Image ∷ Journal ∷ []) (λ files. checks_of (Replay frames) files words) status text
    journal_stops fits at at_is shelf status text same refuses =
        let bad : ℕ → Verdict = λ n. journaled (replay_of journal (opened (record { image = image; frames = n }))).bad in
        refused_stops words shelf (Image ∷ Journal ∷ []) journal_row replay_last 6 status text (bad at) own_six
        (if_told shelf.before.files _ (λ files e.
        let told_is : told ≡ Some files = sym same ∙ e in (
          (told_at told _ files told_is held).2,
          λ it is. next_ends _ _ it (replay_room files passes told_is fits)
              (ap (λ (r : WholeReplay). journaled r.bad) (replay_is files told_is) ∙ ap bad (sym at_is) ∙ is),
        ))) refuses

    -- the row, the room and the journal pass
    pub replay_passed : roomy (need image frames) frames ≡ passes → (at : ℕ) → at ≡ frames
        → (replay_of journal (opened (record { image = image; frames = at }))).bad ≡ None
        → HoldsReplay words told image journal (λ files. checks_of (Replay frames) files words)
    replay_passed fits at at_is right =
        if_told told _ (λ files e.
        let given = told_at told _ files e held in
        let bad : ℕ → Verdict = λ n. journaled (replay_of journal (opened (record { image = image; frames = n }))).bad in
        let well : journaled (replay_in files words frames).bad ≡ passes =
        ap (λ (r : WholeReplay). journaled r.bad) (replay_is files e) ∙ ap bad (sym at_is) ∙ ap journaled right in (
          given.0,
          given.1,
          first_verdict-append (journal_row files) (replay_last files)
              ∙ ap (λ (v : Verdict). unless_ended v (first_verdict (replay_last files))) given.2
              ∙ both _ _ (replay_room files passes e fits) well,
        ))

  -- where those checks pass on what is told, the calls of the journal were made
  module _ (told : Option Files) (image journal : List ℕ) (passed : HoldsReplay words told image journal (λ files. checks_of (Replay frames) files words)) (at : ℕ) (at_is : at ≡ frames) where
    pub calls_are : (files : Files) → told ≡ Some files
        → replay_in files words frames ≡ replay_of journal (opened (record { image = image; frames = at }))
    calls_are files e =
        let given = told_at told _ files e passed in
        ap (λ (b : List ℕ). replay_of b (opened (opening_in files words frames))) (sym given.1)
        ∙ ap (λ (b : List ℕ). replay_of journal (opened (record { image = b; frames = frames }))) (sym given.0)
        ∙ ap (λ (n : ℕ). replay_of journal (opened (record { image = image; frames = n }))) (sym at_is)

    -- and the text of a replay is the section of what they made
    pub section_says : command_of words ≡ Some (Replay frames) → (nested : Nested)
        → nested ≡ (replay_of journal (opened (record { image = image; frames = at }))).made.nested
        → IfTold told (λ files. outcome words files ≡ Some (record { status = 0; text = section image at nested }))
    section_says asked nested made =
        if_told told _ (λ files e.
        let given = told_at told _ files e passed in
        all_says words (Replay frames) asked replay_row (λ files. []) (λ files. refl) (λ e. cc) files given.2 refl
        ∙ ap (λ (r : WholeReplay). Some (record { status = 0; text = section (file_in files words Image) frames r.made.nested })) (calls_are files e)
        ∙ ap (λ (nk : Nested). Some (record { status = 0; text = section (file_in files words Image) frames nk })) (sym made)
        ∙ ap (λ (b : List ℕ). Some (record { status = 0; text = section b frames nested })) (sym given.0)
        ∙ ap (λ (n : ℕ). Some (record { status = 0; text = section image n nested })) (sym at_is))

module _ (words : List (List ℕ)) (frames : ℕ) (asked : command_of words ≡ Some (Replay frames)) where
  pub replay_row_says : (shelf : Change ShelfState) (status : ℕ) (text : List ℕ)
      → StopsIn words shelf (Image ∷ Journal ∷ []) (λ files. checks_of (Replay frames) files words) status text
      → CommandSays words shelf status text
  replay_row_says = row_says words (Replay frames) asked (λ files. checks_of (Replay frames) files words) (λ files. []) (λ files. refl) (λ e. cc)

  pub replayed_says : (shelf : Change ShelfState) (text : List ℕ)
      → IfTold shelf.before.files (λ files. outcome words files ≡ Some (record { status = 0; text = text })) → CommandSays words shelf 0 text
  replayed_says shelf text is =
      outcome_says words (Replay frames) asked (λ files. checks_of (Replay frames) files words) (λ files. []) (λ files. refl) (λ e. cc) shelf 0 text own_zero is

-- A made image needs no check.
module _ (words : List (List ℕ)) (number : ℕ) (asked : command_of words ≡ Some (Work number)) where
  work_is : (image : List ℕ) → image ≡ image_of_number number → (files : Files)
      → outcome words files ≡ Some (record { status = 0; text = worked image })
  work_is image made files =
      all_says words (Work number) asked (λ files. []) (λ files. []) (λ files. refl) (λ e. cc) files refl refl
      ∙ ap (λ (b : List ℕ). Some (record { status = 0; text = worked b })) (sym made)

  pub work_says : (image : List ℕ) → image ≡ image_of_number number → (shelf : Change ShelfState)
      → CommandSays words shelf 0 (worked image)
  work_says image made shelf =
      outcome_says words (Work number) asked (λ files. []) (λ files. []) (λ files. refl) (λ e. cc) shelf 0 (worked image) own_zero
      (if_told shelf.before.files _ (λ files e. work_is image made files))

  pub work_wants : (shelf : Change ShelfState) (status : ℕ) (text : List ℕ) → IsWant status text → CommandSays words shelf status text
  work_wants = wants_says words (Work number) asked (λ files. []) (λ files. []) (λ files. refl) (λ e. cc)

-- Nor does making one.
pub make_says : (words : List (List ℕ)) (number : ℕ) → command_of words ≡ Some (Make number) → (shelf : Change ShelfState)
    → CommandSays words shelf 0 (image_of_number number)
make_says words number asked shelf =
    outcome_says words (Make number) asked (λ files. []) (λ files. []) (λ files. refl) (λ e. cc) shelf 0 (image_of_number number) own_zero
    (if_told shelf.before.files _ (λ files e.
    all_says words (Make number) asked (λ files. []) (λ files. []) (λ files. refl) (λ e. cc) files refl refl))

pub make_wants : (words : List (List ℕ)) (number : ℕ) → command_of words ≡ Some (Make number) → (shelf : Change ShelfState)
    → (status : ℕ) (text : List ℕ) → IsWant status text → CommandSays words shelf status text
make_wants words number asked = wants_says words (Make number) asked (λ files. []) (λ files. []) (λ files. refl) (λ e. cc)
