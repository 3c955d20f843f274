-- What each call leaves, from what the part that makes it says.
use Rattle.std.proofs.Common.{◌≡◌, ℕ, List, true, false, refl, sym, ap, subst, ◌∙◌}
use Rattle.std.specs.Prelude.{OnErr, OnOk, Result, Ok, Err, Option, None, Some, not}
use Rattle.std.proofs.lemmas.List.Elements.{All-weaker}
use Rattle.phys_mem.specs.Memory.{stored, stores}
use Rattle.nk_bits.specs.declared.kind.Kind.{Kind}
use Rattle.nk_bits.specs.declared.kind.Kind.TheVariants.{Guarded}
use Rattle.nk_bits.specs.declared.rule.Rule.{Rule}
use Rattle.nk_bits.specs.declared.rule.Rule.TheVariants.{NotCanonical}
use Rattle.nk_bits.specs.Kinds.{kind_of}
use Rattle.nk_bits.specs.Paging.{is_canonical}
use Rattle.page_desc.specs.PageTables.{AreDescribed, Tables}
use Rattle.region_book.specs.RegionRecords.{Book, RegionRecord}
use Rattle.region_book.specs.RegionBytes.{RegionIndex}
use Rattle.write_log.specs.LogBytes.{LogCounts}
use Rattle.write_log.specs.LogRecords.{LogRecord}
use Rattle.nk_bits.specs.Rules.{rule_of}
use Rattle.table_rules.specs.ValueRules.{broken}
use Rattle.page_desc.specs.FrameDescriptors.{Descriptors}
use Rattle.vmmu.specs.declared.tables.Tables4.{Tables4}
use Rattle.nk_body.specs.declared.call.Call.{Call}
use Rattle.nk_body.specs.declared.call.Call.TheVariants.{SetHandler}
use Rattle.nk_body.specs.NestedRecord.{AreBooks, Books, HoldsBooks, IsLedgerKept, Ledger, Nested, OwnState, books_in, nested_by}
use Rattle.nk_body.specs.CallRules.{Sourced, made, stand_of, verdict, accepted_memory}
use Rattle.nk_body.specs.CallMade.{IsMade}

abbrev pub books_of : Descriptors → ℕ → ℕ → Book → List LogRecord → Books
books_of d root trap book log = record { frames = d; root = root; trap = trap; ledger = record { book = book; log = log } }

-- what the nested kernel keeps outside memory, by its parts
abbrev pub own_of : Tables4 → ℕ → RegionIndex → LogCounts → OwnState
own_of t trap regions log = record { frames = t.frames; root = t.root; trap = trap; regions = regions; log = log }

pub on_ok : {A B : Type 0} {P : Type 0} (r : Result A B) → P → OnOk r P
on_ok (Ok a) p = p
on_ok (Err b) p = tt

-- the books and the rule by other names
pub made_as : (m : List ℕ) {seen later : List ℕ} {call : Call} {source : Sourced} {after : Books} (before own : OwnState) (one two : Option Rule)
    → before ≡ own → two ≡ one → IsMade (books_in before m) seen call source one after later → IsMade (books_in own m) seen call source two after later
made_as m {seen = seen} {later = later} {call = call} {source = source} {after = after} before own one two view same is =
    subst (λ (it : OwnState × Option Rule). IsMade (books_in it.0 m) seen call source it.1 after later) (λ i. (view i, sym same i)) is

-- the call by another name
pub call_made : {books after : Books} {m later : List ℕ} {source : Sourced} {rule : Option Rule} {call other : Call} → call ≡ other
    → IsMade books m other source rule after later → IsMade books m call source rule after later
call_made {books = books} {after = after} {m = m} {later = later} {source = source} {rule = rule} same is =
    subst (λ (it : Call). IsMade books m it source rule after later) (sym same) is

-- regions and log by what they were
pub with_ledger : {seen later : List ℕ} {call : Call} {source : Sourced} {rule : Option Rule} {before : Books} (d : Descriptors) (root trap : ℕ)
    {book one : Book} {log two : List LogRecord} → one ≡ book → two ≡ log
    → IsMade before seen call source rule (books_of d root trap book log) later → IsMade before seen call source rule (books_of d root trap one two) later
with_ledger {seen = seen} {later = later} {call = call} {source = source} {rule = rule} {before = before} d root trap books logs is =
    subst (λ (it : Book × List LogRecord). IsMade before seen call source rule (books_of d root trap it.0 it.1) later)
    (λ i. (sym books i, sym logs i)) is

pub held_before : (before own : OwnState) (m : List ℕ) → before ≡ own → HoldsBooks own m → HoldsBooks before m
held_before before own m view held = subst (λ o. HoldsBooks o m) (sym view) held

-- other kinds under which every guarded frame is guarded
pub kept_under : (kinds after : List Kind) (ledger : Ledger) → IsLedgerKept kinds ledger
    → ((f : ℕ) → kind_of kinds f ≡ Guarded → kind_of after f ≡ Guarded) → IsLedgerKept after ledger
kept_under kinds after ledger kept stays = record {
  book = kept.book;
  frames = All-weaker _ _ (λ (r : RegionRecord) all. All-weaker _ _ (λ (f : ℕ) is. stays f is) r.frames all) ledger.book.regions kept.frames;
  pool = λ f least most. stays f (kept.pool f least most);
  log = kept.log;
}

-- a call that breaks a rule leaves books and memory
pub refused_made : (books : Books) (m : List ℕ) (call : Call) (source : Sourced) (rule : Rule) → AreBooks books m
    → Some rule ≡ verdict (nested_by books m) call source → IsMade books m call source (Some rule) books m
refused_made books m call source rule are judged = record {
  judged = judged;
  kinds = refl;
  root = refl;
  trap = are.trap;
  ledger = refl;
  memory = refl;
  described = are.described;
  keeps = are.kept;
}

-- what a call leaves that breaks no rule
module _ (books : Books) (m : List ℕ) (call : Call) (source : Sourced) (after : Books) (later : List ℕ) (made_of : Nested) (w : List ℕ) where
  abbrev nk : Nested
  nk = nested_by books m

  pub accepted_made : verdict nk call source ≡ None → made nk call source (stand_of nk call m) ≡ made_of → accepted_memory nk call source m ≡ w
      → after.frames.kinds ≡ made_of.tables.kinds → after.root ≡ made_of.tables.root → after.trap ≡ made_of.trap
      → after.ledger ≡ made_of.ledger → later ≡ w → AreDescribed after.frames after.root later
      → IsLedgerKept after.frames.kinds after.ledger → IsMade books m call source None after later
  accepted_made none makes writes kinds root trap ledger memory described keeps = record {
    judged = sym none;
    kinds = kinds ∙ sym (ap (λ (n : Nested). n.tables.kinds) makes);
    root = root ∙ sym (ap (λ (n : Nested). n.tables.root) makes);
    trap = trap ∙ sym (ap (λ (n : Nested). n.trap) makes);
    ledger = ledger ∙ sym (ap (λ (n : Nested). n.ledger) makes);
    memory = memory ∙ sym writes;
    described = described;
    keeps = keeps;
  }

-- a call on page tables, which leaves handler and ledger
module _ (d e : Descriptors) (root other trap : ℕ) (book : Book) (log : List LogRecord) (m later : List ℕ) (call : Call) (source : Sourced)
    (after : Tables) (w : List ℕ) where
  abbrev before : Books
  before = books_of d root trap book log

  pub tables_made : {A : Type 0} (r : Result A Rule)
      → made (nested_by before m) call source (stand_of (nested_by before m) call m) ≡ record (nested_by before m) { tables = after }
      → accepted_memory (nested_by before m) call source m ≡ w → AreBooks before m → rule_of r ≡ verdict (nested_by before m) call source
      → OnErr r ((e ≡ d) × (other ≡ root) × (later ≡ m)) → OnOk r (e.kinds ≡ after.kinds)
      → OnOk r (other ≡ after.root) → OnOk r (later ≡ w) → AreDescribed e other later
      → (verdict (nested_by before m) call source ≡ None → (f : ℕ) → kind_of d.kinds f ≡ Guarded → kind_of after.kinds f ≡ Guarded)
      → IsMade before m call source (rule_of r) (books_of e other trap book log) later
  tables_made (Ok a) makes writes are judged err kinds root memory described stays =
      accepted_made before m call source (books_of e other trap book log) later _ w (sym judged) makes writes kinds root are.trap refl memory described
      (kept_under d.kinds e.kinds before.ledger are.kept
      (λ f is. ap (λ ks. kind_of ks f) kinds ∙ stays (sym judged) f is))
  tables_made (Err rule) makes writes are judged err kinds root memory described stays =
      subst (λ (it : Descriptors × ℕ × List ℕ). IsMade before m call source (Some rule) (books_of it.0 it.1 trap book log) it.2)
      (λ i. (sym err.0 i, sym err.1 i, sym err.2 i)) (refused_made before m call source rule are judged)

-- the handler is set
pub trap_made : (books : Books) (m : List ℕ) (address : ℕ) (source : Sourced) → AreBooks books m → is_canonical address ≡ true
    → AreDescribed books.frames books.root (stored m (stores 8 0x2000 address))
    → IsMade books m (SetHandler address) source None (record books { trap = address }) (stored m (stores 8 0x2000 address))
trap_made books m address source are canonical described =
    accepted_made books m (SetHandler address) source (record books { trap = address }) _ _ _
    (ap (λ b. broken (not b) NotCanonical None) canonical) refl refl refl refl refl refl refl described are.kept

pub trap_refused : (books : Books) (m : List ℕ) (address : ℕ) (source : Sourced) → is_canonical address ≡ false
    → AreBooks books m → IsMade books m (SetHandler address) source (Some NotCanonical) books m
trap_refused books m address source canonical are =
    refused_made books m (SetHandler address) source NotCanonical are (sym (ap (λ b. broken (not b) NotCanonical None) canonical))
