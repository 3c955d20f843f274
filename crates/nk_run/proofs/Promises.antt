-- From what the top call says in the end, and how that is written, to its promises.
use Rattle.std.proofs.Common.{◌≡◌, ℕ, ◌+◌, ◌/◌, ◌≤◌, Bool, ◌⊎◌, inl, inr, List, [], ◌∷◌, length, suc, Option, Some, None, Result, Ok, Err, MatchOption, IfSome, IsOk, IsSome, IsSomeAnd, arith, refl, sym, ◌∙◌, ap, subst}
use Rattle.std.proofs.lemmas.Bool.{le-ltb, le-leb}
use Rattle.std.specs.Prelude.{unwrap_or, ⊤}
use Rattle.std.specs.List.{All}
use Rattle.elf_image.specs.Pages.{is_executable}
use Rattle.elf_image.specs.Rows.{first_fault}
use Rattle.asm_text.specs.AssembledText.{assembled_of}
use Rattle.byte_scanner.specs.FirstFound.{first_found}
use Rattle.irq_plan.specs.declared.event.Event.{Event}
use Rattle.irq_plan.specs.PlanFile.{plan_of}
use Rattle.boot_map.specs.Division.{need}
use Rattle.gate_state.specs.MachineStates.{Opening}
use Rattle.replay_core.specs.ReplayedCalls.{replay_of}
use Rattle.command_words.specs.declared.command_line.Role.TheVariants.{Image, Input, Plan, Journal, ModuleList, Module, Text}
use Rattle.command_words.specs.declared.command_line.Command.{Command}
use Rattle.command_words.specs.declared.command_line.Command.TheVariants.{Scan, Map, Run, Replay, Make, Work, Join, Audit, Assemble, Listing}
use Rattle.command_words.specs.CommandLine.{command_of, name_in}
use Rattle.file_scan.specs.GoodImages.{longest_file, IsGoodImage}
use Rattle.file_scan.specs.ShelfChanges.{Change, Files, ShelfState}
use Rattle.nk_run.specs.Lines.{longest_module}
use Rattle.nk_run.specs.Witness.{SinkState, Witness}
use Rattle.nk_run.specs.Outcome.{Answer, Verdict, addressed, assembled, passes, decided, first_verdict, checks_of, text_of, outcome, command_outcome, fetch_verdict, formed, clean, given, join_in, joinable, journaled, list_checks, module_checks, module_fetches, modules_named, opened, opening_in, planned, replay_in, roomy, file_in, size_in, test, unless_ended, well_listed}
use Rattle.code_modules.specs.declared.fault.JoinFault.{JoinFault}
use Rattle.code_modules.specs.ModuleList.{Listed, list_of}
use Rattle.nk_run.proofs.Checks.{first_verdict-append}
use Rattle.nk_run.specs.Clauses.{HasCodeAt, HasEnd, HasJoined, HasJournal, HasModules, HasOutside, HasSafeRun, IsComplete, IsCutByCount, IsCutWritten, IsDoable, IsDone, IsFaultless, IsGoodJournal, IsGoodList, IsGoodPlan, IsGoodText, IsOutside, IsStatus, IsText, IsUnreadByCount, IsUnreadWritten, IsUsage, IsUsageAlone, IsWantByCount, IsWantWritten, MaySay, Promises, TookAll, TookPrefix}
use Rattle.nk_host.specs.Told.{IfTold}
use Rattle.nk_run.proofs.Told.{if_told, told_at}
use Rattle.nk_run.specs.Replies.{CommandSays, IsAnswered, IsWritten, ReadsBytes, Says, SaysUsage}

some_and : {A : Type 0} (o : Option A) (P : A → Type 0) → IsSomeAnd o P → (x : A) × (o ≡ Some x) × P x
some_and None P h = absurd h
some_and (Some x) P h = (x, refl, h)

if_some : {A : Type 0} (o : Option A) (P : A → Type 0) → ((x : A) → o ≡ Some x → P x) → IfSome o P
if_some None P h = tt
if_some (Some x) P h = h x refl

is_some_and : {A : Type 0} (o : Option A) (P : A → Type 0) → IsSomeAnd o P → o ≡ None → ⊥
is_some_and None P h e = h
is_some_and (Some x) P h e = cc

read_passes : (read : Result (List Event) ℕ) → IsOk read → planned read ≡ passes
read_passes (Ok events) good = refl
read_passes (Err number) good = cc

listed_passes : (read : Result (List Listed) ℕ) → IsOk read → well_listed read ≡ passes
listed_passes (Ok modules) good = refl
listed_passes (Err number) good = cc

given_passes : (id : ℕ) (size : Option ℕ) → IsSome size → given id size ≡ passes
given_passes id (Some size) some = refl
given_passes id None some = cc

assembled_passes : (code : Result (List ℕ) ℕ) → IsOk code → assembled code ≡ passes
assembled_passes (Ok code) good = refl
assembled_passes (Err number) good = cc

joined_passes : (answer : Result (List ℕ) JoinFault) → IsOk answer → joinable answer ≡ passes
joined_passes (Ok file) good = refl
joined_passes (Err fault) good = cc

module_passes : (number : ℕ) (file : Option (List ℕ)) → IsSomeAnd file (λ m. length m ≤ longest_module)
    → fetch_verdict (Module number) file ≡ passes
module_passes number None held = absurd held
module_passes number (Some m) within = rw (le-ltb longest_module (length m) within) refl

modules_pass : (files : Files) (number : ℕ) (modules : List Listed)
    → All (λ it. IsSomeAnd (files it.name) (λ m. length m ≤ longest_module)) modules
    → first_verdict (module_fetches files number modules) ≡ passes
modules_pass files number [] held = refl
modules_pass files number (it ∷ later) held =
    rw (
      module_passes number (files it.name) (held 0 it (omega arith)),
      modules_pass files (number + 1) later (λ k d within. held (suc k) d (omega (arith, within))),
    ) refl

not_none : {A : Type 0} (o : Option A) → IsSome o → o ≡ None → ⊥
not_none None h e = cc
not_none (Some x) h e = cc

-- the checks on a good image pass
module _ (words : List (List ℕ)) (files : Files) (image : List ℕ) (held : files (name_in words Image) ≡ Some image) (good : IsGoodImage image) where
  fetch_passes : fetch_verdict Image (files (name_in words Image)) ≡ passes
  fetch_passes = rw held (rw (le-ltb longest_file (length image) good.within) refl)

  file_is : file_in files words Image ≡ image
  file_is = rw held refl

  form_passes : formed (first_fault (file_in files words Image)) ≡ passes
  form_passes = ap (λ (b : List ℕ). formed (first_fault b)) file_is ∙ ap formed good.formed

  code_passes : clean (first_found (file_in files words Image)) ≡ passes
  code_passes = ap (λ (b : List ℕ). clean (first_found b)) file_is ∙ ap clean good.clean

  room_passes : (frames : ℕ) → need image frames ≤ frames → roomy (need (file_in files words Image) frames) frames ≡ passes
  room_passes frames fits =
      ap (λ (b : List ℕ). roomy (need b frames) frames) file_is ∙ rw (le-leb (need image frames) frames fits) refl

  input_passes : IsSomeAnd (files (name_in words Input)) (λ input. length input ≤ longest_file)
      → fetch_verdict Input (files (name_in words Input)) ≡ passes
  input_passes wanted =
      let (input, given, within) = some_and (files (name_in words Input)) _ wanted in
      rw given (rw (le-ltb longest_file (length input) within) refl)

  plan_passes : IsSomeAnd (files (name_in words Plan)) IsGoodPlan → fetch_verdict Plan (files (name_in words Plan)) ≡ passes
  plan_passes wanted =
      let (plan, given, plan_good) = some_and (files (name_in words Plan)) _ wanted in
      rw given (rw (le-ltb longest_file (length plan) plan_good.within) refl)

  plan_read : IsSomeAnd (files (name_in words Plan)) IsGoodPlan → planned (plan_of (file_in files words Plan)) ≡ passes
  plan_read wanted =
      let (plan, given, plan_good) = some_and (files (name_in words Plan)) _ wanted in
      ap (λ (o : Option (List ℕ)). planned (plan_of (unwrap_or o []))) given ∙ read_passes (plan_of plan) plan_good.formed

  journal_passes : (o : Opening) → IsSomeAnd (files (name_in words Journal)) (IsGoodJournal o)
      → fetch_verdict Journal (files (name_in words Journal)) ≡ passes
  journal_passes o wanted =
      let (journal, given, right) = some_and (files (name_in words Journal)) _ wanted in
      rw given (rw (le-ltb longest_file (length journal) right.within) refl)

  journal_right : (frames : ℕ) → IsSomeAnd (files (name_in words Journal)) (IsGoodJournal (opening_in files words frames))
      → journaled (replay_in files words frames).bad ≡ passes
  journal_right frames wanted =
      let (journal, given, right) = some_and (files (name_in words Journal)) _ wanted in
      ap (λ (o : Option (List ℕ)). journaled (replay_of (unwrap_or o []) (opened (opening_in files words frames))).bad) given
      ∙ ap journaled right.right

  scan_passes : first_verdict (checks_of Scan files words) ≡ passes
  scan_passes = rw (fetch_passes, form_passes, code_passes) refl

  map_passes : (frames va : ℕ) → need image frames ≤ frames → first_verdict (checks_of (Map frames va) files words) ≡ passes
  map_passes frames va room = rw (fetch_passes, form_passes, code_passes, room_passes frames room) refl

  run_passes : (steps frames : ℕ) → need image frames ≤ frames → HasOutside words files
      → first_verdict (checks_of (Run steps frames) files words) ≡ passes
  run_passes steps frames room given =
      rw (fetch_passes, form_passes, code_passes, input_passes given.0, plan_passes given.1, plan_read given.1, room_passes frames room) refl

  replay_passes : (frames : ℕ) → need image frames ≤ frames
      → IsSomeAnd (files (name_in words Journal)) (IsGoodJournal (opening_in files words frames))
      → first_verdict (checks_of (Replay frames) files words) ≡ passes
  replay_passes frames room given =
      rw (fetch_passes, form_passes, code_passes, journal_passes (opening_in files words frames) given, room_passes frames room, journal_right frames given) refl

  audit_passes : (frames id : ℕ) → need image frames ≤ frames
      → IsSomeAnd (files (name_in words Journal)) (IsGoodJournal (opening_in files words frames)) → IsSome (size_in files words id)
      → first_verdict (checks_of (Audit frames id) files words) ≡ passes
  audit_passes frames id room held_journal logged =
      first_verdict-append (checks_of (Replay frames) files words) (test (given id (size_in files words id)) ∷ [])
      ∙ rw (replay_passes frames room held_journal, given_passes id (size_in files words id) logged) refl

  list_passes : IsSomeAnd (files (name_in words ModuleList)) IsGoodList
      → fetch_verdict ModuleList (files (name_in words ModuleList)) ≡ passes
  list_passes wanted =
      let (list, given, right) = some_and (files (name_in words ModuleList)) _ wanted in
      rw given (rw (le-ltb longest_file (length list) right.within) refl)

  list_read : IsSomeAnd (files (name_in words ModuleList)) IsGoodList
      → well_listed (list_of (file_in files words ModuleList)) ≡ passes
  list_read wanted =
      let (list, given, right) = some_and (files (name_in words ModuleList)) _ wanted in
      ap (λ (o : Option (List ℕ)). well_listed (list_of (unwrap_or o []))) given ∙ listed_passes (list_of list) right.formed

  join_passes : HasModules words files → first_verdict (checks_of Join files words) ≡ passes
  join_passes given =
      let last : Verdict = unless_ended (joinable (join_in files words)) passes in
      let fetches = module_fetches files 0 (modules_named files words) in
      let front : first_verdict (list_checks files words) ≡ passes =
      rw (fetch_passes, form_passes, code_passes, list_passes given.list, list_read given.list) refl in
      first_verdict-append (module_checks files words) (test (joinable (join_in files words)) ∷ [])
      ∙ ap (λ (v : Verdict). unless_ended v last) (first_verdict-append (list_checks files words) fetches)
      ∙ ap (λ (v : Verdict). unless_ended (unless_ended v (first_verdict fetches)) last) front
      ∙ ap (λ (v : Verdict). unless_ended v last) (modules_pass files 0 (modules_named files words) given.held)
      ∙ ap (λ (v : Verdict). unless_ended v passes) (joined_passes (join_in files words) given.joined)

-- the checks on a good text pass
assemble_passes : (words : List (List ℕ)) (files : Files) (text : List ℕ) → files (name_in words Text) ≡ Some text → IsGoodText text
    → first_verdict (checks_of Assemble files words) ≡ passes
assemble_passes words files text held good =
    let fetched : fetch_verdict Text (files (name_in words Text)) ≡ passes =
    rw held (rw (le-ltb longest_file (length text) good.within) refl) in
    let coded : assembled (assembled_of (file_in files words Text)) ≡ passes =
    ap (λ (o : Option (List ℕ)). assembled (assembled_of (unwrap_or o []))) held ∙ assembled_passes (assembled_of text) good.coded in
    rw (fetched, coded) refl

-- those on an image of which the code is listed do
listing_passes : (words : List (List ℕ)) (files : Files) (image : List ℕ) → files (name_in words Image) ≡ Some image
    → (address count : ℕ) → HasCodeAt address image → first_verdict (checks_of (Listing address count) files words) ≡ passes
listing_passes words files image held address count good =
    let fetched : fetch_verdict Image (files (name_in words Image)) ≡ passes =
    rw held (rw (le-ltb longest_file (length image) good.within) refl) in
    let form : formed (first_fault (file_in files words Image)) ≡ passes =
    ap (λ (o : Option (List ℕ)). formed (first_fault (unwrap_or o []))) held ∙ ap formed good.formed in
    let code : addressed (is_executable (file_in files words Image) (address / 4096)) address ≡ passes =
    ap (λ (o : Option (List ℕ)). addressed (is_executable (unwrap_or o []) (address / 4096)) address) held
    ∙ ap (λ (b : Bool). addressed b address) good.code in
    rw (fetched, form, code) refl

-- where what the words ask for can be done, all checks pass
checks_pass : (words : List (List ℕ)) (files : Files) (command : Command) → IsDoable command words files
    → first_verdict (checks_of command files words) ≡ passes
checks_pass words files Scan doable =
    let (image, held, good) = some_and (files (name_in words Image)) _ doable in scan_passes words files image held good.0
checks_pass words files (Map frames va) doable =
    let (image, held, good) = some_and (files (name_in words Image)) _ doable in map_passes words files image held good.0 frames va good.1
checks_pass words files (Run steps frames) doable =
    let (image, held, good) = some_and (files (name_in words Image)) _ doable.0 in
    run_passes words files image held good.0 steps frames good.1 doable.1
checks_pass words files (Replay frames) doable =
    let (image, held, good) = some_and (files (name_in words Image)) _ doable.0 in
    replay_passes words files image held good.0 frames good.1 doable.1
checks_pass words files (Audit frames id) doable =
    let (image, held, good) = some_and (files (name_in words Image)) _ doable.0 in
    audit_passes words files image held good.0 frames id good.1 doable.1 doable.2
checks_pass words files Assemble doable =
    let (text, held, good) = some_and (files (name_in words Text)) _ doable in assemble_passes words files text held good
checks_pass words files (Listing address count) doable =
    let (image, held, good) = some_and (files (name_in words Image)) _ doable in
    listing_passes words files image held address count good
checks_pass words files (Make number) doable = refl
checks_pass words files (Work number) doable = refl
checks_pass words files Join doable =
    let (image, held, good) = some_and (files (name_in words Image)) _ doable.0 in join_passes words files image held good.0 doable.1

pub outcome_good : (words : List (List ℕ)) (files : Files) (command : Command) → command_of words ≡ Some command
    → IsDoable command words files → outcome words files ≡ Some (record { status = 0; text = text_of command files words })
outcome_good words files command asked doable =
    ap (λ (c : Option Command). command_outcome c words files) asked
    ∙ ap (λ (v : Verdict). decided v (record { status = 0; text = text_of command files words })) (checks_pass words files command doable)

-- words without a form have the usage line for their outcome
formless_outcome : (words : List (List ℕ)) (files : Files) (status : ℕ) (text : List ℕ) → SaysUsage words status text
    → outcome words files ≡ Some (record { status = status; text = text })
formless_outcome words files status text plain =
    ap (λ (c : Option Command). command_outcome c words files) plain.formless
    ∙ rw (plain.status_is, plain.text_is) refl

-- what a command says is said of words that have a form
has_form : (words : List (List ℕ)) (shelf : Change ShelfState) (status : ℕ) (text : List ℕ)
    → CommandSays words shelf status text → command_of words ≡ None → ⊥
has_form words shelf status text (inl said) none = is_some_and (command_of words) _ said.unread.asked none
has_form words shelf status text (inr (inl want)) none = not_none (command_of words) want.asked none
has_form words shelf status text (inr (inr other)) none = not_none (command_of words) other.asked none

outside_any : (o : Option Answer) (status : ℕ) (P : Answer → Type 0) → IsOutside status
    → MatchOption o (IsOutside status) (λ answer. IsOutside status ⊎ P answer)
outside_any None status P h = h
outside_any (Some answer) status P h = inl h

outside_text : (o : Option Answer) (status : ℕ) (P : Answer → Type 0) → IsOutside status
    → MatchOption o ⊤ (λ answer. IsOutside status ⊎ P answer)
outside_text None status P h = tt
outside_text (Some answer) status P h = inl h

want_any : (o : Option Answer) (status : ℕ) → status ≡ 5
    → MatchOption o (status ≡ 5) (λ answer. (status ≡ answer.status) ⊎ (status ≡ 5))
want_any None status h = h
want_any (Some answer) status h = inr h

status_of : (a b : Answer) → Some a ≡ Some b → a.status ≡ b.status
status_of a b h = cc

module _ (seen : Witness) (status : ℕ) (text : List ℕ) (result : ℕ) where
  -- what is said and written is the outcome
  record IsOutcome (files : Files) : Type 0 where
    is : outcome seen.words files ≡ Some (record { status = status; text = text })
    status_is : result ≡ status
    taken : TookAll seen.sink text

  status_range : Says seen.words seen.shelf status text → IsWritten seen.sink status text result → result ≤ 10
  status_range says (inr cut) = omega (arith, cut.0)
  status_range (inl plain) (inl whole) = omega (arith, whole.0, plain.status_is)
  status_range (inr (inl said)) (inl whole) = omega (arith, whole.0, said.status_is)
  status_range (inr (inr (inl want))) (inl whole) = omega (arith, whole.0, want.want.status_is)
  status_range (inr (inr (inr other))) (inl whole) = omega (arith, whole.0, other.own.small)

  usage : Says seen.words seen.shelf status text → IsWritten seen.sink status text result → IsUsage seen result
  usage (inl plain) (inl whole) = λ none. inl (whole.0 ∙ plain.status_is, subst (TookAll seen.sink) plain.text_is whole.1)
  usage (inl plain) (inr cut) = λ none. inr (cut.0, subst (TookPrefix seen.sink) plain.text_is cut.2)
  usage (inr command) written = λ none. absurd (has_form seen.words seen.shelf status text command none)

  usage_alone : Says seen.words seen.shelf status text → IsWritten seen.sink status text result → IsUsageAlone seen result
  usage_alone (inl plain) written = λ two. plain.formless
  usage_alone (inr command) (inr cut) = λ two. absurd (omega (arith, cut.0, two))
  usage_alone (inr (inl said)) (inl whole) = λ two. absurd (omega (arith, whole.0, said.status_is, two))
  usage_alone (inr (inr (inl want))) (inl whole) = λ two. absurd (omega (arith, whole.0, want.want.status_is, two))
  usage_alone (inr (inr (inr other))) (inl whole) = λ two. absurd (other.own.not_usage (sym whole.0 ∙ two))

  unread_by_count : Says seen.words seen.shelf status text → IsWritten seen.sink status text result → IsUnreadByCount seen result
  unread_by_count says (inr cut) = λ three. absurd (omega (arith, cut.0, three))
  unread_by_count (inl plain) (inl whole) = λ three. absurd (omega (arith, whole.0, plain.status_is, three))
  unread_by_count (inr (inl said)) (inl whole) = λ three. (said.role, said.unread.asked, said.unread.rose)
  unread_by_count (inr (inr (inl want))) (inl whole) = λ three. absurd (omega (arith, whole.0, want.want.status_is, three))
  unread_by_count (inr (inr (inr other))) (inl whole) = λ three. absurd (other.own.not_unread (sym whole.0 ∙ three))

  not_four : Says seen.words seen.shelf status text → status ≡ 4 → ⊥
  not_four (inl plain) four = omega (arith, plain.status_is, four)
  not_four (inr (inl said)) four = omega (arith, said.status_is, four)
  not_four (inr (inr (inl want))) four = omega (arith, want.want.status_is, four)
  not_four (inr (inr (inr other))) four = other.own.not_cut four

  cut_by_count : Says seen.words seen.shelf status text → IsWritten seen.sink status text result → IsCutByCount seen result
  cut_by_count says (inr cut) = λ four. cut.1
  cut_by_count says (inl whole) = λ four. absurd (not_four says (sym whole.0 ∙ four))

  want_by_count : Says seen.words seen.shelf status text → IsWritten seen.sink status text result → IsWantByCount seen result
  want_by_count says (inr cut) = λ scan five. absurd (omega (arith, cut.0, five))
  want_by_count (inl plain) (inl whole) = λ scan five. absurd (omega (arith, whole.0, plain.status_is, five))
  want_by_count (inr (inl said)) (inl whole) = λ scan five. absurd (omega (arith, whole.0, said.status_is, five))
  want_by_count (inr (inr (inl want))) (inl whole) = λ scan five. want.counted scan
  want_by_count (inr (inr (inr other))) (inl whole) = λ scan five. absurd (other.own.not_want (sym whole.0 ∙ five))

  -- what is written whole is the outcome, or the status is one of the outside
  whole_outcome : (files : Files) → seen.shelf.before.files ≡ Some files → Says seen.words seen.shelf status text
      → IsWritten seen.sink status text result → IsOutside result ⊎ IsOutcome files
  whole_outcome files e says (inr cut) = inl (inr (inl cut.0))
  whole_outcome files e (inl plain) (inl whole) =
      inr (record { is = formless_outcome seen.words files status text plain; status_is = whole.0; taken = whole.1 })
  whole_outcome files e (inr (inl said)) (inl whole) = inl (inl (whole.0 ∙ said.status_is))
  whole_outcome files e (inr (inr (inl want))) (inl whole) = inl (inr (inr (whole.0 ∙ want.want.status_is)))
  whole_outcome files e (inr (inr (inr other))) (inl whole) =
      inr (record { is = told_at seen.shelf.before.files _ files e other.outcome_is; status_is = whole.0; taken = whole.1 })

  status_with : (files : Files) → IsOutside result ⊎ IsOutcome files
      → MatchOption (outcome seen.words files) (IsOutside result) (λ answer. IsOutside result ⊎ (result ≡ answer.status))
  status_with files (inl outside) = outside_any (outcome seen.words files) result _ outside
  status_with files (inr o) =
      let P : Option Answer → Type 0 = λ a. MatchOption a (IsOutside result) (λ answer. IsOutside result ⊎ (result ≡ answer.status)) in
      subst P (sym o.is) (inr o.status_is)

  text_with : (files : Files) → IsOutside result ⊎ IsOutcome files
      → MatchOption (outcome seen.words files) ⊤ (λ answer. IsOutside result ⊎ TookAll seen.sink answer.text)
  text_with files (inl outside) = outside_text (outcome seen.words files) result _ outside
  text_with files (inr o) =
      let P : Option Answer → Type 0 = λ a. MatchOption a ⊤ (λ answer. IsOutside result ⊎ TookAll seen.sink answer.text) in
      subst P (sym o.is) (inr o.taken)

  outcome_status : Says seen.words seen.shelf status text → IsWritten seen.sink status text result → IsStatus seen result
  outcome_status says written =
      if_told seen.shelf.before.files _ (λ files e. status_with files (whole_outcome files e says written))

  outcome_text : Says seen.words seen.shelf status text → IsWritten seen.sink status text result → IsText seen result
  outcome_text says written =
      if_told seen.shelf.before.files _ (λ files e. text_with files (whole_outcome files e says written))

  unread_written : Says seen.words seen.shelf status text → IsWritten seen.sink status text result → IsUnreadWritten seen result
  unread_written says (inr cut) = λ three. absurd (omega (arith, cut.0, three))
  unread_written (inl plain) (inl whole) = λ three. absurd (omega (arith, whole.0, plain.status_is, three))
  unread_written (inr (inl said)) (inl whole) = λ three. (said.role, said.unread, subst (TookAll seen.sink) said.text_is whole.1)
  unread_written (inr (inr (inl want))) (inl whole) = λ three. absurd (omega (arith, whole.0, want.want.status_is, three))
  unread_written (inr (inr (inr other))) (inl whole) = λ three. absurd (other.own.not_unread (sym whole.0 ∙ three))

  want_written : Says seen.words seen.shelf status text → IsWritten seen.sink status text result → IsWantWritten seen result
  want_written says (inr cut) = λ five. absurd (omega (arith, cut.0, five))
  want_written (inl plain) (inl whole) = λ five. absurd (omega (arith, whole.0, plain.status_is, five))
  want_written (inr (inl said)) (inl whole) = λ five. absurd (omega (arith, whole.0, said.status_is, five))
  want_written (inr (inr (inl want))) (inl whole) = λ five. subst (TookAll seen.sink) want.want.text_is whole.1
  want_written (inr (inr (inr other))) (inl whole) = λ five. absurd (other.own.not_want (sym whole.0 ∙ five))

  may_say_outcome : (files : Files) → outcome seen.words files ≡ Some (record { status = status; text = text }) → MaySay seen files text
  may_say_outcome files e =
      let P : Option Answer → Type 0 = λ a. IsSomeAnd a (λ answer. text ≡ answer.text) in inr (inr (subst P (sym e) refl))

  may_say : (files : Files) → seen.shelf.before.files ≡ Some files → Says seen.words seen.shelf status text → MaySay seen files text
  may_say files e (inl plain) = may_say_outcome files (formless_outcome seen.words files status text plain)
  may_say files e (inr (inl said)) = inr (inl (said.role, said.unread, said.text_is))
  may_say files e (inr (inr (inl want))) = inl want.want.text_is
  may_say files e (inr (inr (inr other))) = may_say_outcome files (told_at seen.shelf.before.files _ files e other.outcome_is)

  cut_with : (files : Files) → seen.shelf.before.files ≡ Some files → Says seen.words seen.shelf status text
      → IsWritten seen.sink status text result → result ≡ 4 → (begun : List ℕ) × MaySay seen files begun × TookPrefix seen.sink begun
  cut_with files e says (inr cut) four = (text, may_say files e says, cut.2)
  cut_with files e says (inl whole) four = absurd (not_four says (sym whole.0 ∙ four))

  cut_written : Says seen.words seen.shelf status text → IsWritten seen.sink status text result → IsCutWritten seen result
  cut_written says written = if_told seen.shelf.before.files _ (λ files e. cut_with files e says written)

  -- without a fault, there was no memory, or what is written is the outcome
  faultless : IsFaultless seen → (files : Files) → seen.shelf.before.files ≡ Some files → Says seen.words seen.shelf status text
      → IsWritten seen.sink status text result → (result ≡ 5) ⊎ IsOutcome files
  faultless none files e says (inr cut) = absurd (none.1 cut.1)
  faultless none files e (inl plain) (inl whole) =
      inr (record { is = formless_outcome seen.words files status text plain; status_is = whole.0; taken = whole.1 })
  faultless none files e (inr (inl said)) (inl whole) = absurd (none.0 said.role said.unread.asked said.unread.rose)
  faultless none files e (inr (inr (inl want))) (inl whole) = inl (whole.0 ∙ want.want.status_is)
  faultless none files e (inr (inr (inr other))) (inl whole) =
      inr (record { is = told_at seen.shelf.before.files _ files e other.outcome_is; status_is = whole.0; taken = whole.1 })

  complete_with : (files : Files) → (result ≡ 5) ⊎ IsOutcome files
      → MatchOption (outcome seen.words files) (result ≡ 5) (λ answer. (result ≡ answer.status) ⊎ (result ≡ 5))
  complete_with files (inl want) = want_any (outcome seen.words files) result want
  complete_with files (inr o) =
      let P : Option Answer → Type 0 = λ a. MatchOption a (result ≡ 5) (λ answer. (result ≡ answer.status) ⊎ (result ≡ 5)) in
      subst P (sym o.is) (inl o.status_is)

  complete : Says seen.words seen.shelf status text → IsWritten seen.sink status text result → IsComplete seen result
  complete says written =
      if_told seen.shelf.before.files _ (λ files e none. complete_with files (faultless none files e says written))

  done_with : (files : Files) → IsSomeAnd (command_of seen.words) (λ command. IsDoable command seen.words files)
      → (result ≡ 5) ⊎ IsOutcome files → (result ≡ 0) ⊎ (result ≡ 5)
  done_with files wanted (inl want) = inr want
  done_with files wanted (inr o) =
      let (command, asked, doable) = some_and (command_of seen.words) _ wanted in
      inl (o.status_is ∙ status_of _ _ (sym o.is ∙ outcome_good seen.words files command asked doable))

  done : Says seen.words seen.shelf status text → IsWritten seen.sink status text result → IsDone seen result
  done says written =
      if_told seen.shelf.before.files _ (λ files e wanted none. done_with files wanted (faultless none files e says written))

-- what is told where a run or a join reads it is bytes
read_bytes : (seen : Witness) → IfSome (command_of seen.words) (λ command. ReadsBytes command seen.shelf.before.files)
    → (files : Files) → seen.shelf.before.files ≡ Some files → (command : Command) → command_of seen.words ≡ Some command
    → ReadsBytes command (Some files)
read_bytes seen bytes files e command asked =
    let P : Option Command → Type 0 = λ o. IfSome o (λ command. ReadsBytes command seen.shelf.before.files) in
    subst (ReadsBytes command) e (subst P asked bytes)

-- what holds of each command, where files are told
of_command : (seen : Witness) (P : Command → Files → Type 0)
    → ((files : Files) → seen.shelf.before.files ≡ Some files → (command : Command) → command_of seen.words ≡ Some command → P command files)
    → IfTold seen.shelf.before.files (λ files. IfSome (command_of seen.words) (λ command. P command files))
of_command seen P law =
    if_told seen.shelf.before.files _ (λ files e. if_some (command_of seen.words) (λ command. P command files) (law files e))

module _ (ended : (words : List (List ℕ)) (files : Files) (command : Command) → HasEnd command words files)
    (law : (words : List (List ℕ)) (files : Files) (command : Command) → command_of words ≡ Some command → ReadsBytes command (Some files) → HasSafeRun command words files)
    (again : (words : List (List ℕ)) (files : Files) (command : Command) → command_of words ≡ Some command → ReadsBytes command (Some files) → HasJournal command words files)
    (joined : (words : List (List ℕ)) (files : Files) (command : Command) → ReadsBytes command (Some files) → HasJoined command words files) where
  kept : (seen : Witness) (result : ℕ) → IfSome (command_of seen.words) (λ command. ReadsBytes command seen.shelf.before.files)
      → IsAnswered seen result → Promises seen result
  kept seen result bytes r = record {
    status_range = status_range seen r.status r.text result r.says r.written;
    usage = usage seen r.status r.text result r.says r.written;
    usage_alone = usage_alone seen r.status r.text result r.says r.written;
    unread_by_count = unread_by_count seen r.status r.text result r.says r.written;
    cut_by_count = cut_by_count seen r.status r.text result r.says r.written;
    want_by_count = want_by_count seen r.status r.text result r.says r.written;
    outcome_status = outcome_status seen r.status r.text result r.says r.written;
    outcome_text = outcome_text seen r.status r.text result r.says r.written;
    unread_written = unread_written seen r.status r.text result r.says r.written;
    want_written = want_written seen r.status r.text result r.says r.written;
    cut_written = cut_written seen r.status r.text result r.says r.written;
    files_stay = r.files_stay;
    complete = complete seen r.status r.text result r.says r.written;
    done = done seen r.status r.text result r.says r.written;
    run_ends = of_command seen (λ command files. HasEnd command seen.words files) (λ files e command asked. ended seen.words files command);
    run_safe = of_command seen (λ command files. HasSafeRun command seen.words files)
        (λ files e command asked. law seen.words files command asked (read_bytes seen bytes files e command asked));
    run_replayed = of_command seen (λ command files. HasJournal command seen.words files)
        (λ files e command asked. again seen.words files command asked (read_bytes seen bytes files e command asked));
    image_joined = of_command seen (λ command files. HasJoined command seen.words files)
        (λ files e command asked. joined seen.words files command (read_bytes seen bytes files e command asked));
  }

  -- of the words that a request has
  pub promised : (words request : List (List ℕ)) (shelf : Change ShelfState) (sink : Change SinkState) (result : ℕ) → request ≡ words
      → IfSome (command_of request) (λ command. ReadsBytes command shelf.before.files)
      → IsAnswered (record { words = request; shelf = shelf; sink = sink }) result
      → Promises (record { words = words; shelf = shelf; sink = sink }) result
  promised words request shelf sink result same bytes r =
      let P : List (List ℕ) → Type 0 = λ it. Promises (record { words = it; shelf = shelf; sink = sink }) result in
      subst P same (kept (record { words = request; shelf = shelf; sink = sink }) result bytes r)
