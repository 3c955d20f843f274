-- What the top call doesn't promise, each named by the sentence that it guards.
use Rattle.std.proofs.Common.{◌≡◌, ◌≢◌, ℕ, List, [], ◌++◌, None, Some, Option, inl, inr, refl, sym, subst, ◌∙◌, arith}
use Rattle.std.specs.Prelude.{IfSome, MatchOption, ◌⊎◌, ⊤, slice_index}
use Rattle.std.specs.Io.KnownBytes.{Appends}
use Rattle.nk_host.specs.FaultCounts.{RoseTo}
use Rattle.byte_scanner.specs.declared.encoding.Found.{Found}
use Rattle.byte_scanner.specs.FirstFound.{first_found}
use Rattle.gate_state.specs.MachineOpening.{opening_state}
use Rattle.gate_state.specs.MachineSteps.{state}
use Rattle.gate_state.specs.SafeStates.{IsSafe}
use Rattle.image_maker.specs.MadeImage.{image_of_number}
use Rattle.command_words.specs.declared.command_line.Role.{Role}
use Rattle.command_words.specs.declared.command_line.Role.TheVariants.{Image}
use Rattle.command_words.specs.declared.command_line.Command.{Command}
use Rattle.command_words.specs.declared.command_line.Command.TheVariants.{Scan, Join, Work}
use Rattle.command_words.specs.CommandLine.{IsAsked, command_of}
use Rattle.file_scan.specs.ShelfChanges.{Files}
use Rattle.nk_run.specs.Clauses.{HasJoined, HasSafeRun, IsFaultless, IsOutside, IsUnread, IsWholeJoin, MaySay, NameRose, Promises, SinkRose, TookAll, TookPrefix}
use Rattle.nk_run.specs.Lines.{no_memory_line, unread_line}
use Rattle.nk_run.specs.Outcome.{Answer, checks_of, file_in, first_verdict, modules_in, outcome, passes, text_of}
use Rattle.nk_run.specs.Witness.{Witness}
use Rattle.nk_run.proofs.Told.{told_at}

not_outside : (status : ℕ) → status ≡ 0 → IsOutside status → ⊥
not_outside status e (inl unread) = absurd (omega (arith, e, unread))
not_outside status e (inr (inl cut)) = absurd (omega (arith, e, cut))
not_outside status e (inr (inr want)) = absurd (omega (arith, e, want))

module _ (seen : Witness) where
  -- what a sink took, where it tells it
  appended : (text before after : List ℕ) → seen.sink.before.taken ≡ Some before → seen.sink.after.taken ≡ Some after
      → TookAll seen.sink text → after ≡ before ++ text
  appended text before after began ended took =
      let first : Appends (Some before) seen.sink.after.taken text =
      subst (λ (b : Option (List ℕ)). Appends b seen.sink.after.taken text) began took in
      subst (λ (a : Option (List ℕ)). Appends (Some before) a text) ended first

  -- there is no status 11
  status_11 : Promises seen 11 → ⊥
  status_11 it = absurd (omega (arith, it.status_range))

  -- status 2 isn't the answer to words that have a form
  usage_for_a_form : (command : Command) → command_of seen.words ≡ Some command → Promises seen 2 → ⊥
  usage_for_a_form command asked it = let none = it.usage_alone refl in cc

  -- words without a form aren't answered with status 0
  formless_done : command_of seen.words ≡ None → Promises seen 0 → ⊥
  formless_done formless it =
      elim (it.usage formless) [
        | inl whole ↦ absurd (omega (arith, whole.0))
        | inr cut ↦ absurd (omega (arith, cut.0))
      ]

  -- status 3 doesn't come where no count of the name of one of the command's files rose
  unread_without_a_fault : ((role : Role) → IsAsked seen.words role → NameRose seen.words seen.shelf role → ⊥)
      → Promises seen 3 → ⊥
  unread_without_a_fault quiet it =
      let (role, asked, rose) = it.unread_by_count refl in quiet role asked rose

  -- status 4 doesn't come where the sink's count didn't rise
  cut_without_a_fault : (SinkRose seen.sink → ⊥) → Promises seen 4 → ⊥
  cut_without_a_fault quiet it = quiet (it.cut_by_count refl)

  -- status 5 isn't the answer to `scan` where the shelf's count of wants didn't rise
  want_without_a_count : command_of seen.words ≡ Some Scan
      → (RoseTo seen.shelf.before.wants seen.shelf.after.wants → ⊥) → Promises seen 5 → ⊥
  want_without_a_count asked quiet it = quiet (it.want_by_count asked refl)

  -- status 3 doesn't come where no file is unread, nor with another line than that of an unread one
  nothing_unread : ((role : Role) → IsUnread seen.words seen.shelf role → ⊥) → Promises seen 3 → ⊥
  nothing_unread none it = let (role, unread, took) = it.unread_written refl in none role unread

  another_unread_line : ((role : Role) → TookAll seen.sink (unread_line role) → ⊥) → Promises seen 3 → ⊥
  another_unread_line none it = let (role, unread, took) = it.unread_written refl in none role took

  -- status 5 doesn't come with another line than that there was no memory
  another_want : (TookAll seen.sink no_memory_line → ⊥) → Promises seen 5 → ⊥
  another_want none it = none (it.want_written refl)

  -- status 4 doesn't come with what begins no text that may be said
  another_beginning : (files : Files) → seen.shelf.before.files ≡ Some files
      → ((text : List ℕ) → MaySay seen files text → TookPrefix seen.sink text → ⊥) → Promises seen 4 → ⊥
  another_beginning files told none it =
      let Q : Files → Type 0 = λ held. 4 ≡ 4 → (text : List ℕ) × MaySay seen held text × TookPrefix seen.sink text in
      let (text, may, took) = told_at seen.shelf.before.files Q files told it.cut_written refl in none text may took

  -- without a fault of the outside no other status than the outcome's comes but 5
  other_than_done : (status : ℕ) (files : Files) (answer : Answer) → seen.shelf.before.files ≡ Some files
      → outcome seen.words files ≡ Some answer → IsFaultless seen → status ≢ answer.status → status ≢ 5 → Promises seen status → ⊥
  other_than_done status files answer told is faultless other given it =
      let P : Option Answer → Type 0 = λ a. MatchOption a (status ≡ 5) (λ answer. (status ≡ answer.status) ⊎ (status ≡ 5)) in
      elim (subst P is (told_at seen.shelf.before.files (λ held. IsFaultless seen → P (outcome seen.words held)) files told
      it.complete faultless)) [
        | inl same ↦ other same
        | inr want ↦ given want
      ]

  -- no file of the shelf changes
  changed_file : (status : ℕ) (before after : Files) (name : List ℕ) → seen.shelf.before.files ≡ Some before
      → seen.shelf.after.files ≡ Some after → after name ≢ before name → Promises seen status → ⊥
  changed_file status before after name told later changed it =
      let kept : Some after ≡ Some before = sym later ∙ it.files_stay ∙ told in
      let same : after name ≡ before name = cc in
      changed same

  -- where files are told, no other status than the outcome's comes but those of the outside
  another_status : (status : ℕ) (files : Files) (answer : Answer) → seen.shelf.before.files ≡ Some files
      → outcome seen.words files ≡ Some answer → (IsOutside status → ⊥) → status ≢ answer.status → Promises seen status → ⊥
  another_status status files answer told is inside other it =
      let P : Option Answer → Type 0 = λ a. MatchOption a (IsOutside status) (λ answer. IsOutside status ⊎ (status ≡ answer.status)) in
      elim (subst P is (told_at seen.shelf.before.files (λ files. P (outcome seen.words files)) files told it.outcome_status)) [
        | inl outside ↦ inside outside
        | inr same ↦ other same
      ]

  -- status 0 doesn't come with another text than the outcome's, where files and bytes are told
  another_text : (files : Files) (answer : Answer) (before after : List ℕ) → seen.shelf.before.files ≡ Some files
      → outcome seen.words files ≡ Some answer → seen.sink.before.taken ≡ Some before → seen.sink.after.taken ≡ Some after
      → after ≢ before ++ answer.text → Promises seen 0 → ⊥
  another_text files answer before after told is began ended other it =
      let P : Option Answer → Type 0 = λ a. MatchOption a ⊤ (λ answer. IsOutside 0 ⊎ TookAll seen.sink answer.text) in
      elim (subst P is (told_at seen.shelf.before.files (λ files. P (outcome seen.words files)) files told it.outcome_text)) [
        | inl outside ↦ not_outside 0 refl outside
        | inr took ↦ other (appended answer.text before after began ended took)
      ]

  -- what a join comes to whose checks pass
  whole_join : (status : ℕ) (files : Files) → seen.shelf.before.files ≡ Some files → command_of seen.words ≡ Some Join
      → first_verdict (checks_of Join files seen.words) ≡ passes → Promises seen status
      → IsWholeJoin (file_in files seen.words Image) (modules_in files seen.words) (text_of Join files seen.words)
  whole_join status files told asked passed it =
      let P : Option Command → Type 0 = λ c. IfSome c (λ command. HasJoined command seen.words files) in
      let Q : Files → Type 0 = λ held. IfSome (command_of seen.words) (λ command. HasJoined command seen.words held) in
      let whole : HasJoined Join seen.words files =
      subst P asked (told_at seen.shelf.before.files Q files told it.image_joined) in
      whole passed

  -- isn't a file that holds a protected encoding
  unclean_join : (status : ℕ) (files : Files) (found : Found) → seen.shelf.before.files ≡ Some files
      → command_of seen.words ≡ Some Join → first_verdict (checks_of Join files seen.words) ≡ passes
      → first_found (text_of Join files seen.words) ≡ Some found → Promises seen status → ⊥
  unclean_join status files found told asked passed stands it =
      let clean = (whole_join status files told asked passed it).joined.clean in cc

  -- nor one with an element that is no byte
  joined_256 : (status i : ℕ) (files : Files) → seen.shelf.before.files ≡ Some files
      → command_of seen.words ≡ Some Join → first_verdict (checks_of Join files seen.words) ≡ passes
      → slice_index (text_of Join files seen.words) i ≡ 256 → Promises seen status → ⊥
  joined_256 status i files told asked passed is it =
      let small = (whole_join status files told asked passed it).bytes i in omega (arith, small, is)

  -- a run of a made image with a state that isn't safe isn't that of `work`
  unsafe_work : (status number k : ℕ) (files : Files) → seen.shelf.before.files ≡ Some files
      → command_of seen.words ≡ Some (Work number)
      → (IsSafe (record { image = image_of_number number; frames = 4096 })
      (state [] (opening_state (record { image = image_of_number number; frames = 4096 }) []) k) → ⊥) → Promises seen status → ⊥
  unsafe_work status number k files told asked unsafe it =
      let P : Option Command → Type 0 = λ c. IfSome c (λ command. HasSafeRun command seen.words files) in
      let Q : Files → Type 0 = λ held. IfSome (command_of seen.words) (λ command. HasSafeRun command seen.words held) in
      let run : HasSafeRun (Work number) seen.words files =
      subst P asked (told_at seen.shelf.before.files Q files told it.run_safe) in
      unsafe (run.safe k)
