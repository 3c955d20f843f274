-- What the checks of an audit say of its outcome, and where the records of its region lie.
use Rattle.std.proofs.Common.{◌≡◌, ℕ, ◌≤◌, List, [], ◌∷◌, Bool, true, false, Option, None, Some, if◌then◌else◌, refl, sym, ap, ◌∙◌}
use Rattle.std.specs.Prelude.{unwrap_or, ◌==◌}
use Rattle.nk_bits.specs.declared.call.CallWords.{CallWords}
use Rattle.nk_host.specs.Told.{IfTold}
use Rattle.nk_body.specs.declared.call.Call.{Call}
use Rattle.nk_body.specs.declared.call.Call.TheVariants.{Allocate}
use Rattle.nk_body.specs.Calls.{call_of}
use Rattle.nk_body.specs.NestedRecord.{Nested}
use Rattle.gate_state.specs.MachineStates.{Opening}
use Rattle.report_text.specs.AuditLines.{audit_text}
use Rattle.replay_core.specs.GrantedCalls.{granted_of}
use Rattle.replay_core.specs.GrantedLaws.{GivesRegion, GrantedLaws}
use Rattle.replay_core.specs.ReplayedCalls.{WholeReplay, replay_of}
use Rattle.command_words.specs.declared.command_line.Role.TheVariants.{Image, Journal}
use Rattle.command_words.specs.declared.command_line.Command.TheVariants.{Audit, Replay}
use Rattle.command_words.specs.CommandLine.{command_of}
use Rattle.file_scan.specs.ShelfChanges.{Change, Files, ShelfState}
use Rattle.nk_run.specs.Outcome.{Check, checks_of, given, logged_by, logged_size, opened, outcome, passes, replay_in, size_in, test, unless_ended}
use Rattle.nk_run.specs.Replies.{CommandSays, HoldsReplay, LiesWithin, RefusesBy, StopsIn}
use Rattle.nk_run.proofs.Rows.{all_says, later_says, outcome_says, own_nine, own_zero, row_says}
use Rattle.nk_run.proofs.RunRows.{calls_are, last_ends}
use Rattle.nk_run.proofs.Told.{if_told, told_at}

-- the call that has a size
record IsLogged (asked : Option CallWords) (size : ℕ) : Type 0 where
  policy : ℕ
  it : CallWords
  is : asked ≡ Some it
  allocates : call_of it ≡ Allocate size policy

some_where : (test : Bool) (a size : ℕ) → (if test then Some a else None) ≡ Some size → a ≡ size
some_where true a size e = cc
some_where false a size e = cc

logging_call : (call : Call) (size : ℕ) → logged_by call ≡ Some size → (policy : ℕ) × (call ≡ Allocate size policy)
logging_call (Allocate asked policy) size e =
    (policy, ap (λ n. Allocate n policy) (some_where (policy == 4) asked size e))
logging_call _ size e = let no : None ≡ Some size = e in absurd (cc)

logged_call : (asked : Option CallWords) (size : ℕ) → logged_size asked ≡ Some size → IsLogged asked size
logged_call None size e = absurd (cc)
logged_call (Some it) size e =
    let found = logging_call (call_of it) size e in
    record { policy = found.0; it = it; is = refl; allocates = found.1 }

-- a region of an accepted journal whose writes are logged has at most 65,536 bytes, and its records lie within them
module _ (laws : GrantedLaws) (o : Opening) (journal : List ℕ) (id size : ℕ) (right : (replay_of journal (opened o)).bad ≡ None)
    (region : 256 ≤ id) (logged : logged_size (granted_of journal id) ≡ Some size) where
  call_is : IsLogged (granted_of journal id) size
  call_is = logged_call (granted_of journal id) size logged

  gives : GivesRegion journal (opened o) id size call_is.policy call_is.it
  gives = record { opening = refl; accepted = right; region = region; granted = call_is.is; allocates = call_is.allocates }

  pub size_bounds : (1 ≤ size) × (size ≤ 65536)
  size_bounds = laws.size journal (opened o) id size call_is.policy call_is.it gives

  pub lies_within : LiesWithin id size (replay_of journal (opened o)).made.nested.ledger.log
  lies_within = λ it within of. laws.within journal (opened o) id size call_is.policy call_is.it it gives within of

module _ (words : List (List ℕ)) (frames id : ℕ) (asked : command_of words ≡ Some (Audit frames id)) where
  abbrev audit_row : Files → List Check
  audit_row files = checks_of (Replay frames) files words

  abbrev audit_last : Files → List Check
  audit_last files = test (given id (size_in files words id)) ∷ []

  pub audit_row_says : (shelf : Change ShelfState) (status : ℕ) (text : List ℕ)
      → StopsIn words shelf (Image ∷ Journal ∷ []) (λ files. checks_of (Replay frames) files words) status text
      → CommandSays words shelf status text
  audit_row_says = row_says words (Audit frames id) asked audit_row audit_last (λ files. refl) (λ e. cc)

  pub audited_says : (shelf : Change ShelfState) (text : List ℕ)
      → IfTold shelf.before.files (λ files. outcome words files ≡ Some (record { status = 0; text = text })) → CommandSays words shelf 0 text
  audited_says shelf text is =
      outcome_says words (Audit frames id) asked audit_row audit_last (λ files. refl) (λ e. cc) shelf 0 text own_zero is

  -- where the checks of a replay pass on what is told
  module _ (told : Option Files) (image journal : List ℕ) (passed : HoldsReplay words told image journal (λ files. checks_of (Replay frames) files words)) where
    size_is : (files : Files) → told ≡ Some files → size_in files words id ≡ logged_size (granted_of journal id)
    size_is files e = ap (λ (b : List ℕ). logged_size (granted_of b id)) (sym (told_at told _ files e passed).1)

    -- no call of the journal gave such a region
    pub noregion_says : (shelf : Change ShelfState) (status : ℕ) (text : List ℕ) → shelf.before.files ≡ told
        → RefusesBy 9 (given id (logged_size (granted_of journal id))) status text → CommandSays words shelf status text
    noregion_says shelf status text same refuses =
        later_says words (Audit frames id) asked audit_row audit_last (λ files. refl) (λ e. cc)
        shelf 9 status text (given id (logged_size (granted_of journal id))) own_nine
        (if_told shelf.before.files _ (λ files e.
        let told_is : told ≡ Some files = sym same ∙ e in (
          (told_at told _ files told_is passed).2,
          λ it is. last_ends _ passes it (ap (given id) (size_is files told_is) ∙ is),
        ))) refuses

    -- one did, and the text is the audit of the log that the calls made
    pub audit_is : (at : ℕ) → at ≡ frames → (size : ℕ) → logged_size (granted_of journal id) ≡ Some size → (nested : Nested)
        → nested ≡ (replay_of journal (opened (record { image = image; frames = at }))).made.nested
        → IfTold told (λ files. outcome words files ≡ Some (record { status = 0; text = audit_text id size nested.ledger.log }))
    audit_is at at_is size logged nested made =
        if_told told _ (λ files e.
        let first = (told_at told _ files e passed).2 in
        let sized : size_in files words id ≡ Some size = size_is files e ∙ logged in
        all_says words (Audit frames id) asked audit_row audit_last (λ files. refl) (λ e. cc) files first
        (ap (λ (n : Option ℕ). unless_ended (given id n) passes) sized)
        ∙ ap (λ (n : Option ℕ). Some (record {
          status = 0;
          text = audit_text id (unwrap_or n 0) (replay_in files words frames).made.nested.ledger.log;
        })) sized
        ∙ ap (λ (r : WholeReplay). Some (record { status = 0; text = audit_text id size r.made.nested.ledger.log }))
        (calls_are words frames told image journal passed at at_is files e)
        ∙ ap (λ (nk : Nested). Some (record { status = 0; text = audit_text id size nk.ledger.log })) (sym made))
