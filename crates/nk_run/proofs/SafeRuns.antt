-- Where the checks of a run pass, the image is admitted and has room, and the plan is in form: the run is safe.
use Rattle.std.proofs.Common.{◌≡◌, ℕ, ◌≤◌, Bool, true, false, inl, inr, List, [], ◌∷◌, length, Option, Some, None, Result, Ok, Err, IfSome, refl, sym, ap, ◌∙◌, arith, lit<}
use Rattle.std.specs.Prelude.{if◌then◌else◌, ◌&&◌, nat_le, unwrap_or}
use Rattle.std.proofs.lemmas.Bool.{and_parts, cases_Bool, cases_lt, leb-true, lt-ltb}
use Rattle.nk_host.specs.Files.{IsFileOfBytes}
use Rattle.elf_image.specs.declared.fault.ImageFault.{ImageFault}
use Rattle.elf_image.specs.Pages.{IsPageList, pages_of}
use Rattle.elf_image.specs.Rows.{first_fault}
use Rattle.byte_scanner.specs.declared.encoding.Found.{Found}
use Rattle.byte_scanner.specs.FirstFound.{first_found}
use Rattle.byte_scanner.specs.ImageCode.{code_at}
use Rattle.byte_scanner.specs.LeastPlace.{IsNowhere}
use Rattle.irq_plan.specs.declared.event.Event.{Event}
use Rattle.irq_plan.specs.PlanFile.{plan_of, read_from}
use Rattle.irq_plan.specs.PlannedEvents.{IsPlan}
use Rattle.text_lines.specs.Numerals.{numeral}
use Rattle.gate_state.specs.GuardedStates.{IsAdmitted}
use Rattle.gate_state.specs.MachineStates.{Opening}
use Rattle.image_maker.specs.MadeImage.{image_of_number}
use Rattle.std.specs.Option.{option_map}
use Rattle.command_words.specs.declared.command_line.Role.TheVariants.{Image, Input, Plan}
use Rattle.command_words.specs.declared.command_line.Command.{Command}
use Rattle.command_words.specs.declared.command_line.Command.TheVariants.{Scan, Map, Run, Replay, Make, Work, Join, Audit, Assemble, Listing}
use Rattle.command_words.specs.CommandLine.{both, command_of, name_in}
use Rattle.command_words.specs.NumberWords.{address_word, bounded, decimal_within, is_numeral}
use Rattle.file_scan.specs.GoodImages.{IsGoodImage, longest_file}
use Rattle.file_scan.specs.ShelfChanges.{Files}
use Rattle.nk_run.specs.Clauses.{HasJournal, HasSafeRun, IsSafeRun}
use Rattle.text_lines.specs.Numerals.{is_least}
use Rattle.nk_run.specs.JournalLaw.{IsReplayedRun}
use Rattle.nk_run.specs.Outcome.{Answer, checks_of, clean, ends, events_in, fetch_verdict, file_in, first_verdict, formed, opening_in, passes, planned, roomy}
use Rattle.nk_run.specs.Replies.{ReadsBytes}
use Rattle.nk_run.proofs.JournalOutcomes.{journal_of}
use Rattle.nk_run.proofs.Rows.{both_pass}

-- What the words of a run say of the number of frames.

bounded_by : (low high n f : ℕ) → bounded low high n ≡ Some f → (low ≤ f) × (f ≤ high)
bounded_by low high n f e =
    elim (cases_Bool (nat_le low n && nat_le n high)) [
      | inl within ↦
          let parts = and_parts (nat_le low n) (nat_le n high) within in
          let same : n ≡ f = some_same n f (sym (ap (λ (b : Bool). if b then Some n else None) within) ∙ e) in
          let above : low ≤ n = leb-true low n parts.0 in
          let below : n ≤ high = leb-true n high parts.1 in
          (omega (arith, same, above), omega (arith, same, below))
      | inr outside ↦ absurd (none_some f (sym (ap (λ (b : Bool). if b then Some n else None) outside) ∙ e))
    ]
  where
    some_same : (a b : ℕ) → Some a ≡ Some b → a ≡ b
    some_same a b h = cc

    none_some : (b : ℕ) → None ≡ Some b → ⊥
    none_some b h = cc

pub spelled_within : (low high : ℕ) (word : List ℕ) (f : ℕ) → decimal_within low high word ≡ Some f → (low ≤ f) × (f ≤ high)
spelled_within low high word f e = chosen (is_numeral 10 word && is_least word) _ e
  where
    chosen : (b : Bool) (n : ℕ) → (if b then bounded low high n else None) ≡ Some f → (low ≤ f) × (f ≤ high)
    chosen true n h = bounded_by low high n f h
    chosen false n h = absurd (cc)

run_frames : (a b : Option ℕ) (steps frames : ℕ) → both Run a b ≡ Some (Run steps frames) → b ≡ Some frames
run_frames (Some s) (Some f) steps frames e = cc
run_frames (Some s) None steps frames e = absurd (cc)
run_frames None b steps frames e = absurd (cc)

no_map : (a b : Option ℕ) (steps frames : ℕ) → both Map a b ≡ Some (Run steps frames) → ⊥
no_map (Some f) (Some va) steps frames e = cc
no_map (Some f) None steps frames e = cc
no_map None va steps frames e = cc

no_short : (scans assembles makes works : Bool) (n : Option ℕ) (steps frames : ℕ)
    → (if scans then Some Scan else if assembles then Some Assemble else if makes then option_map Make n else if works then option_map Work n else None)
    ≡ Some (Run steps frames) → ⊥
no_short true assembles makes works n steps frames e = cc
no_short false true makes works n steps frames e = cc
no_short false false true works (Some n) steps frames e = cc
no_short false false true works None steps frames e = cc
no_short false false false true (Some n) steps frames e = cc
no_short false false false true None steps frames e = cc
no_short false false false false n steps frames e = cc

no_pair : (joins : Bool) (steps frames : ℕ) → (if joins then Some Join else None) ≡ Some (Run steps frames) → ⊥
no_pair true steps frames e = cc
no_pair false steps frames e = cc

no_listing : (a b : Option ℕ) (steps frames : ℕ) → both Listing a b ≡ Some (Run steps frames) → ⊥
no_listing (Some address) (Some count) steps frames e = cc
no_listing (Some address) None steps frames e = cc
no_listing None b steps frames e = cc

no_middle : (maps replays lists : Bool) (x y a b : Option ℕ) (steps frames : ℕ)
    → (if maps then both Map x y else if replays then option_map Replay x else if lists then both Listing a b else None)
    ≡ Some (Run steps frames) → ⊥
no_middle true replays lists x y a b steps frames e = no_map x y steps frames e
no_middle false true lists (Some n) y a b steps frames e = cc
no_middle false true lists None y a b steps frames e = cc
no_middle false false true x y a b steps frames e = no_listing a b steps frames e
no_middle false false false x y a b steps frames e = cc

no_audit : (audits : Bool) (x y : Option ℕ) (steps frames : ℕ) → (if audits then both Audit x y else None) ≡ Some (Run steps frames) → ⊥
no_audit true (Some f) (Some id) steps frames e = cc
no_audit true (Some f) None steps frames e = cc
no_audit true None y steps frames e = cc
no_audit false x y steps frames e = cc

run_steps : (a b : Option ℕ) (steps frames : ℕ) → both Run a b ≡ Some (Run steps frames) → a ≡ Some steps
run_steps (Some s) (Some f) steps frames e = cc
run_steps (Some s) None steps frames e = absurd (cc)
run_steps None b steps frames e = absurd (cc)

-- the bounds of a run
record IsRunWithin (steps frames : ℕ) : Type 0 where
  least : 512 ≤ frames
  most : frames ≤ 65536
  turns : steps ≤ 4294967296

run_chosen : (b : Bool) (word_steps word_frames : List ℕ) (steps frames : ℕ)
    → (if b then both Run (decimal_within 0 4294967296 word_steps) (decimal_within 512 65536 word_frames) else None) ≡ Some (Run steps frames)
    → IsRunWithin steps frames
run_chosen true word_steps word_frames steps frames e =
    let room = spelled_within 512 65536 word_frames frames (run_frames (decimal_within 0 4294967296 word_steps) (decimal_within 512 65536 word_frames) steps frames e) in
    let turns = spelled_within 0 4294967296 word_steps steps (run_steps (decimal_within 0 4294967296 word_steps) (decimal_within 512 65536 word_frames) steps frames e) in
    record { least = room.0; most = room.1; turns = turns.1 }
run_chosen false word_steps word_frames steps frames e = absurd (cc)

-- a run is asked for with 512 to 65,536 frames, and 4,294,967,296 turns at most
run_within : (words : List (List ℕ)) (steps frames : ℕ) → command_of words ≡ Some (Run steps frames) → IsRunWithin steps frames
run_within [] steps frames e = absurd (cc)
run_within (a ∷ []) steps frames e = absurd (cc)
run_within (a ∷ b ∷ []) steps frames e = absurd (no_short _ _ _ _ (decimal_within 1 100 b) steps frames e)
run_within (a ∷ b ∷ c ∷ []) steps frames e = absurd (no_pair _ steps frames e)
run_within (a ∷ b ∷ c ∷ d ∷ []) steps frames e = absurd (no_middle _ _ _ (decimal_within 512 65536 c) (address_word d) (numeral 16 16 c) (decimal_within 1 4096 d) steps frames e)
run_within (a ∷ b ∷ c ∷ d ∷ x ∷ []) steps frames e = absurd (no_audit _ (decimal_within 512 65536 c) (decimal_within 256 8589934591 x) steps frames e)
run_within (a ∷ b ∷ c ∷ d ∷ x ∷ f ∷ []) steps frames e = run_chosen _ x f steps frames e
run_within (a ∷ b ∷ c ∷ d ∷ x ∷ f ∷ g ∷ more) steps frames e = absurd (cc)

-- What the checks say where they pass.

pub no_fault : (o : Option ImageFault) → formed o ≡ passes → o ≡ None
no_fault None e = refl
no_fault (Some fault) e = absurd (cc)

pub none_found : (o : Option Found) → clean o ≡ passes → o ≡ None
none_found None e = refl
none_found (Some found) e = absurd (cc)

read_whole : (read : Result (List Event) ℕ) → planned read ≡ passes → read ≡ Ok (events_in read)
read_whole (Ok events) e = refl
read_whole (Err number) e = absurd (cc)

fits : (n frames : ℕ) → roomy n frames ≡ passes → n ≤ frames
fits n frames e =
    elim (cases_Bool (nat_le n frames)) [
      | inl within ↦ leb-true n frames within
      | inr outside ↦ absurd (chosen _ _ outside e)
    ]
  where
    chosen : (b : Bool) (answer : Answer) → b ≡ false → (if b then passes else ends answer) ≡ passes → ⊥
    chosen true answer h e = cc
    chosen false answer h e = cc

held_within : (file : Option (List ℕ)) → fetch_verdict Image file ≡ passes → length (unwrap_or file []) ≤ longest_file
held_within None e = absurd (cc)
held_within (Some b) e =
    elim (cases_lt longest_file (length b)) [
      | inl longer ↦ absurd (chosen _ _ (lt-ltb longest_file (length b) longer) e)
      | inr within ↦ within
    ]
  where
    chosen : (b : Bool) (answer : Answer) → b ≡ true → (if b then ends answer else passes) ≡ passes → ⊥
    chosen true answer h e = cc
    chosen false answer h e = cc

-- the bytes of a file, where one is held
pub held_bytes : (file : Option (List ℕ)) → IfSome file IsFileOfBytes → IsFileOfBytes (unwrap_or file [])
held_bytes None bytes = λ i. lit< tt
held_bytes (Some b) bytes = bytes

-- a plan of no line has no event
nothing_planned : plan_of [] ≡ Ok []
unfolding plan_of read_from
nothing_planned = refl

-- what the checks of a run admit: the image, whose opening has room, and a plan in form
record IsChecked (files : Files) (words : List (List ℕ)) (frames : ℕ) : Type 0 where
  good : IsGoodImage (file_in files words Image)
  admitted : IsAdmitted (opening_in files words frames)
  planned_are : IsPlan (events_in (plan_of (file_in files words Plan)))

module _ (pages_hold : (b : List ℕ) → first_fault b ≡ None → IsPageList b (pages_of b))
    (clean_holds : (b : List ℕ) → IsPageList b (pages_of b) → first_found b ≡ None → IsNowhere (code_at b))
    (plan_holds : (bytes : List ℕ) (events : List Event) → plan_of bytes ≡ Ok events → IsPlan events) where
  checked_run : (words : List (List ℕ)) (files : Files) (steps frames : ℕ) → IsRunWithin steps frames
      → IsFileOfBytes (file_in files words Image) → first_verdict (checks_of (Run steps frames) files words) ≡ passes
      → IsChecked files words frames
  checked_run words files steps frames within bytes passed =
      let image = file_in files words Image in
      let fetched_image = both_pass _ _ passed in
      let form = both_pass _ _ fetched_image.1 in
      let code = both_pass _ _ form.1 in
      let fetched_input = both_pass _ _ code.1 in
      let fetched_plan = both_pass _ _ fetched_input.1 in
      let read = both_pass _ _ fetched_plan.1 in
      let room = both_pass _ _ read.1 in
      let pages = pages_hold image (no_fault _ form.0) in
      record {
        good = record {
          within = held_within (files (name_in words Image)) fetched_image.0;
          formed = no_fault _ form.0;
          clean = none_found _ code.0;
        };
        admitted = record {
          bytes = bytes;
          layout = record { division = refl; least = within.least; most = within.most; room = fits _ _ room.0 };
          pages = pages;
          clean = clean_holds image pages (none_found _ code.0);
        };
        planned_are = plan_holds (file_in files words Plan) (events_in (plan_of (file_in files words Plan))) (read_whole _ read.0);
      }

  pub safe_where_run : ((o : Opening) (input : List ℕ) (plan : List Event) → IsAdmitted o → IsPlan plan → IsSafeRun plan o input)
      → ((words : List (List ℕ)) (number : ℕ) → command_of words ≡ Some (Work number)
      → IsAdmitted (record { image = image_of_number number; frames = 4096 }))
      → (words : List (List ℕ)) (files : Files) (command : Command) → command_of words ≡ Some command → ReadsBytes command (Some files)
      → HasSafeRun command words files
  safe_where_run law made words files Scan asked bytes = tt
  safe_where_run law made words files (Map frames va) asked bytes = tt
  safe_where_run law made words files (Replay frames) asked bytes = tt
  safe_where_run law made words files (Audit frames id) asked bytes = tt
  safe_where_run law made words files Assemble asked bytes = tt
  safe_where_run law made words files (Listing address count) asked bytes = tt
  safe_where_run law made words files (Make number) asked bytes = tt
  safe_where_run law made words files Join asked bytes = tt
  safe_where_run law made words files (Work number) asked bytes =
      law (record { image = image_of_number number; frames = 4096 }) [] [] (made words number asked) (plan_holds [] [] nothing_planned)
  safe_where_run law made words files (Run steps frames) asked bytes = λ passed.
      let it = checked_run words files steps frames (run_within words steps frames asked) (held_bytes (files (name_in words Image)) (bytes (name_in words Image))) passed in
      law (opening_in files words frames) (file_in files words Input) (events_in (plan_of (file_in files words Plan))) it.admitted it.planned_are

  pub replayed_where_run : ((o : Opening) (input : List ℕ) (plan : List Event) (steps : ℕ) → IsAdmitted o → IsPlan plan → steps ≤ 4294967296 → IsReplayedRun o input plan steps)
      → (words : List (List ℕ)) (files : Files) (command : Command) → command_of words ≡ Some command → ReadsBytes command (Some files)
      → HasJournal command words files
  replayed_where_run law words files Scan asked bytes = tt
  replayed_where_run law words files (Map frames va) asked bytes = tt
  replayed_where_run law words files (Replay frames) asked bytes = tt
  replayed_where_run law words files (Audit frames id) asked bytes = tt
  replayed_where_run law words files Assemble asked bytes = tt
  replayed_where_run law words files (Listing address count) asked bytes = tt
  replayed_where_run law words files (Make number) asked bytes = tt
  replayed_where_run law words files (Work number) asked bytes = tt
  replayed_where_run law words files Join asked bytes = tt
  replayed_where_run law words files (Run steps frames) asked bytes = λ passed.
      let within = run_within words steps frames asked in
      let it = checked_run words files steps frames within (held_bytes (files (name_in words Image)) (bytes (name_in words Image))) passed in
      journal_of (opening_in files words frames) (file_in files words Input) (events_in (plan_of (file_in files words Plan))) steps
      it.good it.admitted.layout.room
      (law (opening_in files words frames) (file_in files words Input) (events_in (plan_of (file_in files words Plan))) steps it.admitted it.planned_are within.turns)
