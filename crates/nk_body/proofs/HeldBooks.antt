-- Memory that holds the books: over stores in frames that aren't hidden, and after a call.
use Rattle.std.proofs.Common.{◌≡◌, ◌≢◌, ℕ, ◌+◌, ◌/◌, ◌<◌, ◌≤◌, ◌&&◌, true, false, List, length, All, arith, sym, ap, subst, ◌∙◌}
use Rattle.std.specs.Prelude.{OnErr, Result, Ok, Err, Option}
use Rattle.std.proofs.lemmas.Bool.{false≢true, le-leb, lt-ltb}
use Rattle.std.proofs.lemmas.List.Elements.{All-weaker}
use Rattle.nk_body.specs.declared.call.Call.{Call}
use Rattle.nk_bits.specs.declared.kind.Kind.{Kind}
use Rattle.nk_bits.specs.declared.kind.Kind.TheVariants.{Hidden}
use Rattle.nk_bits.specs.declared.rule.Rule.{Rule}
use Rattle.nk_bits.specs.Kinds.{is_hidden, kind_of}
use Rattle.phys_mem.specs.MaskedMemory.{is_book_frame, seen}
use Rattle.phys_mem.specs.Memory.{byte_at, stored, stores}
use Rattle.phys_mem.specs.MemoryLaws.{MemoryLaws}
use Rattle.page_desc.specs.DescriptorBytes.{HoldsDescriptors, HoldsTables, descriptors_in, kinds_in}
use Rattle.page_desc.specs.PageTables.{is_unguarded}
use Rattle.page_desc.specs.StoredLaws.{HeldTablesLaws, StoredLaws}
use Rattle.region_book.specs.RegionBytes.{HoldsRegions, book_in}
use Rattle.region_book.specs.RegionLaws.{HeldRegionsLaws}
use Rattle.write_log.specs.LogBytes.{HoldsLog, log_in}
use Rattle.write_log.specs.LogLaws.{HeldLogLaws}
use Rattle.vmmu.specs.declared.tables.Tables4.{Tables4}
use Rattle.nk_body.specs.CallLeft.{IsCalled, IsWide, left_in, memory_left}
use Rattle.nk_body.specs.CallMade.{IsMade, KeepsForm, left_by}
use Rattle.nk_body.specs.CallRules.{IsSourceOf, Sourced, wants, written_unless}
use Rattle.nk_body.specs.KindsKept.{is_settled}
use Rattle.nk_body.specs.NestedRecord.{AreBooks, Books, HasFixedFrames, HoldsBooks, Ledger, Nested, OwnState, books_in, handler_in, nested_by}
use Rattle.nk_body.specs.CallLaws.{CallLaws, CallLeavesLaws}
use Rattle.nk_body.proofs.HandlerStores.{Places, handler_stores}

-- what is used of the laws on tables that memory holds, and on stores
pub record HeldLaws : Type 0 where
  pub tables : HeldTablesLaws
  pub memory : MemoryLaws

-- regions and log stay where their bytes do
pub record LedgerLaws : Type 0 where
  pub regions : HeldRegionsLaws
  pub log : HeldLogLaws

-- regions and log stand as they stood
pub record StandsLedger (own : OwnState) (m later : List ℕ) : Type 0 where
  pub book : book_in own.regions later ≡ book_in own.regions m
  pub log : log_in own.log later ≡ log_in own.log m
  pub regions : HoldsRegions own.regions later
  pub counts : HoldsLog own.log later

-- what a call leaves
pub record LeftLaws : Type 0 where
  pub call : CallLaws
  pub leaves : CallLeavesLaws

pub tables_of : (own : OwnState) (m : List ℕ) → HoldsBooks own m → HoldsTables own.frames own.root m
tables_of own m held = record { stored = held.stored; described = held.books.described; hidden = held.hidden }

-- the frames between the pool and the descriptors are the books'
pub book_place : (frames p : ℕ) → 0x1A000 ≤ p → p < 0x40000 → is_book_frame frames (p / 4096) ≡ true
unfolding is_book_frame
book_place frames p low high =
    let least : 26 ≤ p / 4096 = omega (arith, low) in
    let most : p / 4096 < 64 + (frames + 255) / 256 = omega (arith, high) in
    λ i. le-leb 26 (p / 4096) least i && lt-ltb (p / 4096) (64 + (frames + 255) / 256) most i

-- a call that breaks a rule leaves what memory holds and shows
pub unchanged : {A B : Type 0} (t u : Tables4) (m later : List ℕ) (r : Result A B) → OnErr r ((u ≡ t) × (later ≡ m))
    → OnErr r ((descriptors_in later ≡ descriptors_in m) × (u.root ≡ t.root) × (seen later ≡ seen m))
unchanged t u m later (Ok a) same = tt
unchanged t u m later (Err b) same = (ap descriptors_in same.1, ap (λ (it : Tables4). it.root) same.0, ap seen same.1)

-- regions and log stand where the bytes between the pool and the descriptors do
pub ledger_stands : LedgerLaws → (own : OwnState) (m later : List ℕ) → HoldsBooks own m → length later ≡ length m
    → ((p : ℕ) → 0x1A000 ≤ p → p < 0x40000 → byte_at later p ≡ byte_at m p) → StandsLedger own m later
ledger_stands laws own m later held size same =
    let book = laws.regions.agree own.regions m later held.regions size (λ p low high. same p (omega (arith, low)) high) in
    let log = laws.log.agree own.log m later held.log size (λ p low high. same p low (omega (arith, high))) in
    record { book = book.0; log = log.0; regions = book.1; counts = log.1 }

-- a call on page tables
module _ (laws : LedgerLaws) (own : OwnState) (u : Tables4) (m later : List ℕ) (held : HoldsBooks own m) (stays : u.frames ≡ own.frames)
    (holds : HoldsTables u.frames u.root later) (others : (p : ℕ) → 0x1A000 ≤ p → p < 0x40000 → byte_at later p ≡ byte_at m p) where
  pub tables_ledger : StandsLedger own m later
  tables_ledger = ledger_stands laws own m later held (omega (arith, holds.stored.size, held.stored.size, stays)) others

  pub tables_form : KeepsForm (record own { frames = u.frames; root = u.root }) later
  tables_form = record { stored = holds.stored; regions = tables_ledger.regions; log = tables_ledger.counts }

-- stores in frames that aren't hidden, in no page table and in no byte that never changes
module _ (laws : HeldLaws) (own : OwnState) (m : List ℕ) (held : HoldsBooks own m) (ws : List (ℕ × ℕ))
    (places : All (λ w. is_unguarded (kinds_in m) w.0 ≡ true) ws)
    (shown : All (λ w. is_hidden (kind_of (kinds_in m) (w.0 / 4096)) ≡ false) ws) where
  all : (seen (stored m ws) ≡ stored (seen m) ws) × (descriptors_in (stored m ws) ≡ descriptors_in m)
      × HoldsTables own.frames own.root (stored m ws)
  all = laws.tables.stores own.frames own.root m ws (tables_of own m held) places shown

  pub stores_seen : seen (stored m ws) ≡ stored (seen m) ws
  stores_seen = all.0

  pub stores_described : descriptors_in (stored m ws) ≡ descriptors_in m
  stores_described = all.1

  pub stores_holds : HoldsTables own.frames own.root (stored m ws)
  stores_holds = all.2

  pub stores_books : (p : ℕ) → is_book_frame own.frames (p / 4096) ≡ true → byte_at (stored m ws) p ≡ byte_at m p
  stores_books p is_book =
      let hidden : kind_of (kinds_in m) (p / 4096) ≡ Hidden = held.hidden (p / 4096) is_book in
      laws.memory.byte_elsewhere m ws p
      (All-weaker (λ (w : ℕ × ℕ). is_hidden (kind_of (kinds_in m) (w.0 / 4096)) ≡ false) (λ (w : ℕ × ℕ). w.0 ≢ p)
      (λ w is same. false≢true (sym is ∙ ap (λ q. is_hidden (kind_of (kinds_in m) (q / 4096))) same ∙ ap is_hidden hidden)) ws shown)

  pub stores_others : (p : ℕ) → 0x1A000 ≤ p → p < 0x40000 → byte_at (stored m ws) p ≡ byte_at m p
  stores_others p low high = stores_books p (book_place own.frames p low high)

-- frames of kinds that stay where they are settled
pub fixed_stays : (kinds after : List Kind)
    → ((f : ℕ) → is_settled (kind_of kinds f) ≡ true → kind_of after f ≡ kind_of kinds f)
    → HasFixedFrames kinds → HasFixedFrames after
fixed_stays kinds after stays fixed = record {
  descriptors = stays 0 (ap is_settled fixed.descriptors) ∙ fixed.descriptors;
  gates = stays 1 (ap is_settled fixed.gates) ∙ fixed.gates;
  handler = stays 2 (ap is_settled fixed.handler) ∙ fixed.handler;
  traps = stays 3 (ap is_settled fixed.traps) ∙ fixed.traps;
  stack = stays 4 (ap is_settled fixed.stack) ∙ fixed.stack;
}

-- memory holds the books after a call
pub held_after : LeftLaws → (own after : OwnState) (m later : List ℕ) (call : Call) (source : Sourced) (rule : Option Rule)
    → HoldsBooks own m → IsSourceOf (wants (books_in own m).ledger.book call) source → IsWide call
    → IsMade (books_in own m) (seen m) call source rule (books_in after later) (seen later) → after.frames ≡ own.frames
    → KeepsForm after later → HoldsBooks after later
held_after laws own after m later call source rule held sourced wide made frames form =
    let ks : List Kind = kinds_in m in
    let ledger : Ledger = (books_in own m).ledger in
    let called : IsCalled ks own.root ledger (seen m) call source =
    record { sound = held.books.described.sound; keeps = held.books.kept; sourced = sourced; wide = wide } in
    let left : Nested = left_in ks own.root ledger (seen m) call source in
    let by : left_by rule (books_in own m) (seen m) call source ≡ left =
    ap (λ r. left_by r (books_in own m) (seen m) call source) made.judged in
    let kinds : kinds_in later ≡ left.tables.kinds = made.kinds ∙ ap (λ (n : Nested). n.tables.kinds) by in
    let memory : seen later ≡ memory_left ks own.root ledger (seen m) call source =
    made.memory ∙ ap (λ r. written_unless r (nested_by (books_in own m) (seen m)) call source (seen m)) made.judged in
    let count : length (kinds_in later) ≡ length ks = ap length kinds ∙ laws.leaves.count ks own.root ledger (seen m) call source in
    let stays : (f : ℕ) → is_settled (kind_of ks f) ≡ true → kind_of (kinds_in later) f ≡ kind_of ks f =
    λ f settled. ap (λ l. kind_of l f) kinds ∙ laws.leaves.settled ks own.root f ledger (seen m) call source called settled in
    record {
      books = record {
        described = made.described;
        least = omega (arith, count, held.books.least);
        fixed = fixed_stays ks (kinds_in later) stays held.books.fixed;
        trap = made.trap ∙ ap (λ (n : Nested). n.trap) by
            ∙ sym (ap (λ (n : Nested). n.trap) (laws.call.nested ks own.root ledger (seen m) call source called)) ∙ ap handler_in (sym memory);
        kept = made.keeps;
      };
      stored = form.stored;
      hidden = λ f is.
          let was : kind_of ks f ≡ Hidden = held.hidden f (sym (ap (λ n. is_book_frame n f) frames) ∙ is) in
          stays f (ap is_settled was) ∙ was;
      regions = form.regions;
      log = form.log;
    }

-- the handler slot is such a place, in a frame that is fixed
module _ (laws : HeldLaws) (ledger : LedgerLaws) (own : OwnState) (m : List ℕ) (held : HoldsBooks own m) (address : ℕ) (places : Places) where
  abbrev slot_stores : List (ℕ × ℕ)
  slot_stores = stores 8 0x2000 address

  slot_free : All (λ w. is_unguarded (kinds_in m) w.0 ≡ true) slot_stores
  slot_free = handler_stores (kinds_in m) address places held.books.described.sound.handler

  slot_shown : All (λ w. is_hidden (kind_of (kinds_in m) (w.0 / 4096)) ≡ false) slot_stores
  slot_shown =
      All-weaker (λ (w : ℕ × ℕ). (0x2000 ≤ w.0) × (w.0 < 0x2000 + 8)) (λ (w : ℕ × ℕ). is_hidden (kind_of (kinds_in m) (w.0 / 4096)) ≡ false)
      (λ w at. let frame : w.0 / 4096 ≡ 2 = omega (arith, at.0, at.1) in
      ap is_hidden (ap (kind_of (kinds_in m)) frame ∙ held.books.described.sound.handler)) slot_stores (places 8 0x2000 address)

  pub handler_seen_after : seen (stored m slot_stores) ≡ stored (seen m) slot_stores
  handler_seen_after = stores_seen laws own m held slot_stores slot_free slot_shown

  pub handler_described : descriptors_in (stored m slot_stores) ≡ descriptors_in m
  handler_described = stores_described laws own m held slot_stores slot_free slot_shown

  pub handler_holds : HoldsDescriptors own.frames (stored m slot_stores)
  handler_holds = (stores_holds laws own m held slot_stores slot_free slot_shown).stored

  pub handler_books : (p : ℕ) → is_book_frame own.frames (p / 4096) ≡ true → byte_at (stored m slot_stores) p ≡ byte_at m p
  handler_books = stores_books laws own m held slot_stores slot_free slot_shown

  pub handler_ledger : StandsLedger own m (stored m slot_stores)
  handler_ledger =
      ledger_stands ledger own m (stored m slot_stores) held (handler_holds.size ∙ sym held.stored.size) (stores_others laws own m held slot_stores slot_free slot_shown)

-- other bytes in frames that aren't the books'
pub held_still : StoredLaws → LedgerLaws
    → (own : OwnState) (m n : List ℕ) → HoldsBooks own m → AreBooks (books_in own m) (seen n) → length n ≡ length m
    → ((p : ℕ) → is_book_frame own.frames (p / 4096) ≡ true → byte_at n p ≡ byte_at m p)
    → (books_in own n ≡ books_in own m) × HoldsBooks own n
held_still stored laws own m n held are size same =
    let stands = stored.agree own.frames m n held.stored size (λ p high is. same p is) in
    let ledger : StandsLedger own m n = ledger_stands laws own m n held size (λ p low high. same p (book_place own.frames p low high)) in
    let books : books_in own n ≡ books_in own m = λ i. record {
      frames = stands.0 i;
      root = own.root;
      trap = own.trap;
      ledger = record { book = ledger.book i; log = ledger.log i };
    } in (
      books,
      record {
        books = subst (λ (b : Books). AreBooks b (seen n)) (sym books) are;
        stored = stands.1;
        hidden = λ f is. ap (λ (b : Books). kind_of b.frames.kinds f) books ∙ held.hidden f is;
        regions = ledger.regions;
        log = ledger.counts;
      },
    )
