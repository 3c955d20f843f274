-- What the checks of a join say of its outcome, and what its text is.
use Rattle.std.proofs.Common.{◌≡◌, ℕ, ◌+◌, ◌<◌, List, [], ◌∷◌, ◌++◌, length, map, take, set, get_or, Bool, inl, inr, Option, Some, None, Ok, Err, Result, IfOk, refl, sym, ap, subst, ◌∙◌, arith, add-one}
use Rattle.std.specs.Prelude.{MatchResult, option_map, slice_get}
use Rattle.std.proofs.Math.Seq.{take-suc, take-suc-set, take_all}
use Rattle.std.proofs.lemmas.List.{get_or-map, length-map}
use Rattle.std.proofs.lemmas.List.Elements.{All-cons, All-nil}
use Rattle.std.proofs.lemmas.Option.{slice_get_cases}
use Rattle.std.specs.List.{All, range_with_len}
use Rattle.nk_host.specs.FaultCounts.{NeverFalls}
use Rattle.nk_host.specs.Files.{AreFilesOfBytes, IsFileOfBytes}
use Rattle.nk_host.specs.Told.{IfTold}
use Rattle.elf_image.specs.Rows.{first_fault}
use Rattle.code_modules.specs.declared.fault.JoinFault.{JoinFault}
use Rattle.code_modules.specs.declared.fault.JoinFault.TheVariants as join
use Rattle.code_modules.specs.JoinAnswers.{IsFaultOf, join_answer, modules_with}
use Rattle.code_modules.specs.JoinedImage.{IsJoined}
use Rattle.code_modules.specs.JoinedParts.{CodeModule}
use Rattle.code_modules.specs.ModuleList.{Listed, list_of}
use Rattle.command_words.specs.declared.command_line.Role.TheVariants.{Image, Module, ModuleList}
use Rattle.command_words.specs.declared.command_line.Command.{Command}
use Rattle.command_words.specs.declared.command_line.Command.TheVariants.{Scan, Map, Run, Replay, Make, Work, Join, Audit, Assemble, Listing}
use Rattle.command_words.specs.CommandLine.{command_of, name_in, roles_of}
use Rattle.file_scan.specs.ShelfChanges.{Change, Files, ShelfState}
use Rattle.nk_run.specs.Clauses.{HasJoined, IsWholeJoin}
use Rattle.nk_run.specs.Outcome.{Answer, Check, Verdict, checks_of, ends, file_in, file_joined, first_verdict, join_in, joinable, list_checks, listed_in, module_checks, module_fetches, module_held, modules_in, modules_named, outcome, passes, test, unless_ended, well_listed}
use Rattle.nk_run.specs.Replies.{CommandSays, EndsOwn, IsOwn, IsWant, ReadsBytes, StopsIn}
use Rattle.nk_run.specs.declared.status.Status.{Status}
use Rattle.nk_run.specs.Statuses.{status_number}
use Rattle.nk_run.proofs.Checks.{first_verdict-append}
use Rattle.nk_run.proofs.ModuleFetches.{named_stops}
use Rattle.nk_run.proofs.Rows.{all_says, both_pass, outcome_says, own_large, own_zero, row_passed, row_says, stops_after, stops_longer, wants_says}
use Rattle.nk_run.proofs.SafeRuns.{held_bytes, no_fault}
use Rattle.nk_run.proofs.Told.{if_told, told_at}

-- modules by their guards and their bytes
pub with_bytes : (files : Files) (modules : List Listed)
    → modules_with (map (λ it. it.guard) modules) (map (λ it. (module_held files it).bytes) modules) ≡ map (module_held files) modules
with_bytes files [] = refl
with_bytes files (it ∷ later) = ap (λ (ms : List CodeModule). module_held files it ∷ ms) (with_bytes files later)

-- the list of a file that is in form
pub names_are : (read : Result (List Listed) ℕ) (modules : List Listed) → read ≡ Ok modules → modules ≡ listed_in read
names_are read modules is = sym (ap listed_in is)

-- a fault of the join is the answer that it says
pub refused : (answer : Result (List ℕ) JoinFault) (fault : JoinFault) (status : ℕ) (text : List ℕ) → IsFaultOf answer fault
    → EndsOwn (joinable (Err fault)) status text → EndsOwn (joinable answer) status text
refused answer fault status text is (inl want) = inl want
refused answer (join.Empty number) status text is (inr stop) = inr (ap joinable is ∙ stop.0, stop.1)
refused answer join.NoFit status text is (inr stop) = inr (ap joinable is ∙ stop.0, stop.1)
refused answer (join.Protected found) status text is (inr stop) = inr (ap joinable is ∙ stop.0, stop.1)
refused answer join.Memory status text is (inr stop) = absurd (let e = stop.0 in cc)

-- what was fetched, in the order of the checks
pub held_is : (words : List (List ℕ)) (told now : Option Files) (image : List ℕ) (modules : List Listed) (bytes : List (List ℕ))
    → now ≡ told
    → IfTold told (λ files. (image ≡ file_in files words Image) × (modules ≡ modules_named files words)
    × (first_verdict (list_checks files words) ≡ passes))
    → IfTold now (λ files. (bytes ≡ map (λ it. (module_held files it).bytes) modules)
    × (first_verdict (module_fetches files 0 modules) ≡ passes))
    → IfTold told (λ files. (image ≡ file_in files words Image)
    × (modules_with (map (λ it. it.guard) modules) bytes ≡ modules_in files words)
    × (first_verdict (module_checks files words) ≡ passes))
held_is words told now image modules bytes same opened fetched =
    if_told told _ (λ files e.
    let first = told_at told _ files e opened in
    let then_fetched = told_at now _ files (same ∙ e) fetched in
    let fetches : first_verdict (module_fetches files 0 (modules_named files words)) ≡ passes =
    ap (λ ms. first_verdict (module_fetches files 0 ms)) (sym first.1) ∙ then_fetched.1 in (
      first.0,
      ap (modules_with (map (λ (it : Listed). it.guard) modules)) then_fetched.0 ∙ with_bytes files modules
          ∙ ap (map (module_held files)) first.1,
      first_verdict-append (list_checks files words) (module_fetches files 0 (modules_named files words))
          ∙ ap (λ (v : Verdict). unless_ended v (first_verdict (module_fetches files 0 (modules_named files words)))) first.2
          ∙ fetches,
    ))

-- the fetch of a module's file stops the whole row
pub hold_stops : (words : List (List ℕ)) (before mid after : ShelfState) (image : List ℕ) (modules : List Listed) (status : ℕ)
    (text : List ℕ) → NeverFalls before.faults mid.faults → mid.files ≡ before.files
    → IfTold before.files (λ files. (image ≡ file_in files words Image) × (modules ≡ modules_named files words)
    × (first_verdict (list_checks files words) ≡ passes))
    → StopsIn words (record { before = mid; after = after }) (map Module (range_with_len 0 32))
    (λ files. module_fetches files 0 modules) status text
    → StopsIn words (record { before = before; after = after }) (Image ∷ ModuleList ∷ map Module (range_with_len 0 32))
    (λ files. module_checks files words) status text
hold_stops words before mid after image modules status text falls same opened stops =
    stops_after words before mid after (Image ∷ ModuleList ∷ []) (map Module (range_with_len 0 32))
    (λ files. list_checks files words) (λ files. module_fetches files 0 (modules_named files words)) status text falls same
    (if_told before.files _ (λ files e. (told_at before.files _ files e opened).2))
    (named_stops words (record { before = mid; after = after }) (map Module (range_with_len 0 32)) modules status text
    (if_told mid.files _ (λ files e. (told_at before.files _ files (sym same ∙ e) opened).1)) stops)

-- a check on the image or on the list stops it
pub list_stops : (words : List (List ℕ)) (shelf : Change ShelfState) (status : ℕ) (text : List ℕ)
    → StopsIn words shelf (Image ∷ ModuleList ∷ []) (λ files. list_checks files words) status text
    → StopsIn words shelf (Image ∷ ModuleList ∷ map Module (range_with_len 0 32)) (λ files. module_checks files words) status text
list_stops words shelf status text stops =
    stops_longer words shelf (Image ∷ ModuleList ∷ []) (map Module (range_with_len 0 32)) (λ files. list_checks files words)
    (λ files. module_fetches files 0 (modules_named files words)) status text stops

-- the guards of a list, one by one
pub guard_more : (modules : List Listed) (i : ℕ) (guards : List Bool) (guard : Bool) → i < length guards
    → option_map (λ it. it.guard) (slice_get modules i) ≡ Some guard
    → take i guards ≡ take i (map (λ it. it.guard) modules)
    → take (i + 1) (set guards i guard) ≡ take (i + 1) (map (λ it. it.guard) modules)
guard_more modules i guards guard inside is so_far = elim (slice_get_cases modules i).1 [
  | inl here ↦
      let f : Listed → Bool = λ it. it.guard in
      let same : f here.0 ≡ guard = let both = sym (ap (option_map f) here.2) ∙ is in cc in
      let there : get_or (map f modules) i guard ≡ guard = get_or-map f modules i here.0 guard here.1 ∙ ap f here.3 ∙ same in
      ap (λ n. take n (set guards i guard)) (add-one i) ∙ take-suc-set guards i guard inside
      ∙ ap (λ l. l ++ guard ∷ []) so_far ∙ ap (λ x. take i (map f modules) ++ x ∷ []) (sym there)
      ∙ sym (take-suc (map f modules) i guard (omega (arith, here.1, length-map modules f)))
      ∙ ap (λ n. take n (map f modules)) (sym (add-one i))
  | inr past ↦ absurd (let none = sym (ap (option_map (λ (it : Listed). it.guard)) past.1) ∙ is in cc)
]

pub guards_all : (modules : List Listed) (i : ℕ) (guards : List Bool) → i ≡ length modules
    → take i guards ≡ take i (map (λ it. it.guard) modules) → take (length modules) guards ≡ map (λ it. it.guard) modules
guards_all modules i guards end so_far =
    let f : Listed → Bool = λ it. it.guard in
    ap (λ n. take n guards) (sym end) ∙ so_far ∙ take_all i (map f modules) (omega (arith, end, length-map modules f))

pub own_eight : IsOwn 8
own_eight = own_large 8 (omega arith) (omega arith)

-- a line that was made ends the command with its status, or there was no memory for it
pub made_ends : {A E : Type 0} (line : Result A E) (bytes : A → List ℕ) (own said : Status) (text written : List ℕ)
    → IfOk line (λ it. bytes it ≡ text) → IsOwn (status_number own)
    → MatchResult line (λ it. (said ≡ own) × (written ≡ bytes it)) (λ _. IsWant (status_number said) written)
    → EndsOwn (ends (record { status = status_number own; text = text })) (status_number said) written
made_ends (Ok it) bytes own said text written is mine made =
    let same : status_number said ≡ status_number own = ap status_number made.0 in
    let line : written ≡ text = made.1 ∙ is in
    inr (rw (same, line) refl, subst IsOwn (sym same) mine)
made_ends (Err fault) bytes own said text written is mine made = inl made

module _ (words : List (List ℕ)) (asked : command_of words ≡ Some Join) where
  abbrev join_row : Files → List Check
  join_row files = module_checks files words

  abbrev join_last : Files → List Check
  join_last files = test (joinable (join_in files words)) ∷ []

  pub join_row_says : (shelf : Change ShelfState) (status : ℕ) (text : List ℕ)
      → StopsIn words shelf (roles_of Join) (λ files. module_checks files words) status text → CommandSays words shelf status text
  join_row_says = row_says words Join asked join_row join_last (λ files. refl) (λ e. cc)

  pub joined_says : (shelf : Change ShelfState) (text : List ℕ)
      → IfTold shelf.before.files (λ files. outcome words files ≡ Some (record { status = 0; text = text })) → CommandSays words shelf 0 text
  joined_says shelf text is = outcome_says words Join asked join_row join_last (λ files. refl) (λ e. cc) shelf 0 text own_zero is

  -- the files are those that are told, where they are told, and the row passed on them
  module _ (told : Option Files) (image : List ℕ) (modules : List CodeModule)
      (held : IfTold told (λ files. (image ≡ file_in files words Image) × (modules ≡ modules_in files words)
      × (first_verdict (module_checks files words) ≡ passes))) where
    answer_is : (files : Files) → told ≡ Some files → join_in files words ≡ join_answer image modules
    answer_is files e =
        let given = told_at told _ files e held in
        ap (λ (b : List ℕ). join_answer b (modules_in files words)) (sym given.0) ∙ ap (join_answer image) (sym given.1)

    pub refused_says : (shelf : Change ShelfState) (status : ℕ) (text : List ℕ) → shelf.before.files ≡ told
        → EndsOwn (joinable (join_answer image modules)) status text → CommandSays words shelf status text
    refused_says shelf status text same (inl want) =
        wants_says words Join asked join_row join_last (λ files. refl) (λ e. cc) shelf status text want
    refused_says shelf status text same (inr stop) =
        let it : Answer = record { status = status; text = text } in
        outcome_says words Join asked join_row join_last (λ files. refl) (λ e. cc) shelf status text stop.1
        (if_told shelf.before.files _ (λ files e.
        let told_is : told ≡ Some files = sym same ∙ e in
        row_passed words Join asked join_row join_last (λ files. refl) (λ e. cc) files (ends it) (told_at told _ files told_is held).2
        (ap (λ (v : Verdict). unless_ended v passes) (ap joinable (answer_is files told_is) ∙ stop.0))))

    pub file_says : (file : List ℕ) → join_answer image modules ≡ Ok file
        → IfTold told (λ files. outcome words files ≡ Some (record { status = 0; text = file }))
    file_says file is =
        if_told told _ (λ files e.
        let joined : join_in files words ≡ Ok file = answer_is files e ∙ is in
        all_says words Join asked join_row join_last (λ files. refl) (λ e. cc) files (told_at told _ files e held).2
        (ap (λ (r : Result (List ℕ) JoinFault). unless_ended (joinable r) passes) joined)
        ∙ ap (λ (r : Result (List ℕ) JoinFault). Some (record { status = 0; text = file_joined r })) joined)

-- What the checks say where they pass.

listed_whole : (read : Result (List Listed) ℕ) → well_listed read ≡ passes → read ≡ Ok (listed_in read)
listed_whole (Ok modules) e = refl
listed_whole (Err number) e = absurd (cc)

joined_whole : (answer : Result (List ℕ) JoinFault) → joinable answer ≡ passes → answer ≡ Ok (file_joined answer)
joined_whole (Ok file) e = refl
joined_whole (Err (join.Empty number)) e = absurd (cc)
joined_whole (Err join.NoFit) e = absurd (cc)
joined_whole (Err (join.Protected found)) e = absurd (cc)
joined_whole (Err join.Memory) e = absurd (cc)

unless_first : (v : Verdict) → unless_ended v passes ≡ passes → v ≡ passes
unless_first v e = (both_pass v passes e).0

-- what a join begins from, and where it ends
record IsJoinChecked (files : Files) (words : List (List ℕ)) : Type 0 where
  formed : first_fault (file_in files words Image) ≡ None
  listed : list_of (file_in files words ModuleList) ≡ Ok (modules_named files words)
  file : join_in files words ≡ Ok (file_joined (join_in files words))

checked_join : (files : Files) (words : List (List ℕ)) → first_verdict (checks_of Join files words) ≡ passes → IsJoinChecked files words
checked_join files words passed =
    let whole = both_pass _ _ (sym (first_verdict-append (module_checks files words) (test (joinable (join_in files words)) ∷ [])) ∙ passed) in
    let front = both_pass _ _ (sym (first_verdict-append (list_checks files words) (module_fetches files 0 (modules_named files words))) ∙ whole.0) in
    let fetched_image = both_pass _ _ front.0 in
    let form = both_pass _ _ fetched_image.1 in
    let code = both_pass _ _ form.1 in
    let fetched_list = both_pass _ _ code.1 in
    let read = both_pass _ _ fetched_list.1 in
    record {
      formed = no_fault _ form.0;
      listed = listed_whole _ read.0;
      file = joined_whole _ (unless_first _ whole.1);
    }

-- the modules are made of bytes, where the files that are told are
modules_of_bytes : (files : Files) → AreFilesOfBytes files → (listed : List Listed)
    → All (λ m. IsFileOfBytes m.bytes) (map (module_held files) listed)
modules_of_bytes files told [] = All-nil (λ (m : CodeModule). IsFileOfBytes m.bytes)
modules_of_bytes files told (it ∷ later) =
    All-cons (λ (m : CodeModule). IsFileOfBytes m.bytes) (module_held files it) (map (module_held files) later)
    (held_bytes (files it.name) (told it.name)) (modules_of_bytes files told later)

-- where the checks of a join pass, its file has all that was joined, and nothing else
pub joined_where_join : ((b : List ℕ) (modules : List CodeModule) (file : List ℕ) → first_fault b ≡ None → 0 < length modules
    → join_answer b modules ≡ Ok file → IsJoined b modules file)
    → ((b : List ℕ) (modules : List CodeModule) (file : List ℕ) → IsFileOfBytes b → All (λ m. IsFileOfBytes m.bytes) modules
    → join_answer b modules ≡ Ok file → IsFileOfBytes file)
    → ((bytes : List ℕ) (modules : List Listed) → list_of bytes ≡ Ok modules → 0 < length modules)
    → ((b : List ℕ) (modules : List CodeModule) (file : List ℕ) → IsJoined b modules file → IsFileOfBytes file
    → IsWholeJoin b modules file)
    → (words : List (List ℕ)) (files : Files) (command : Command) → ReadsBytes command (Some files)
    → HasJoined command words files
joined_where_join law of_bytes some whole words files Scan told = tt
joined_where_join law of_bytes some whole words files (Map frames va) told = tt
joined_where_join law of_bytes some whole words files (Run steps frames) told = tt
joined_where_join law of_bytes some whole words files (Replay frames) told = tt
joined_where_join law of_bytes some whole words files (Audit frames id) told = tt
joined_where_join law of_bytes some whole words files Assemble told = tt
joined_where_join law of_bytes some whole words files (Listing address count) told = tt
joined_where_join law of_bytes some whole words files (Make number) told = tt
joined_where_join law of_bytes some whole words files (Work number) told = tt
joined_where_join law of_bytes some whole words files Join told = λ passed.
    let it = checked_join files words passed in
    let image : List ℕ = file_in files words Image in
    let modules : List CodeModule = modules_in files words in
    let file : List ℕ = file_joined (join_in files words) in
    let named = some (file_in files words ModuleList) (modules_named files words) it.listed in
    let joined = law image modules file it.formed
    (omega (arith, named, length-map (modules_named files words) (module_held files))) it.file in
    whole image modules file joined
    (of_bytes image modules file (held_bytes (files (name_in words Image)) (told (name_in words Image)))
    (modules_of_bytes files told (modules_named files words)) it.file)
