-- What a call leaves of the nested kernel's record and of memory.
use Rattle.std.specs.Prelude.{◌≡◌, ◌≢◌, ◌⊎◌, ◌≤◌, ◌<◌, ◌+◌, ◌/◌, ◌^◌, ℕ, List, All, IfSome, false, length, true}
use Rattle.phys_mem.specs.Memory.{IsBytes, byte_at, entry_in}
use Rattle.nk_bits.specs.declared.call.CallWords.{CallWords}
use Rattle.nk_body.specs.declared.call.Call.{Call}
use Rattle.nk_body.specs.Calls.{call_of}
use Rattle.nk_bits.specs.declared.kind.Kind.{Kind}
use Rattle.nk_bits.specs.Kinds.{is_guarded, is_storable, kind_of}
use Rattle.page_desc.specs.FrameCounts.{loose_in}
use Rattle.page_desc.specs.PageTables.{HoldsSoundTables}
use Rattle.nk_body.specs.NestedRecord.{IsLedgerKept, Ledger, Nested, nested_in}
use Rattle.nk_body.specs.CallRules.{Sourced, answer_to, bytes_read}
use Rattle.nk_body.specs.CallLeft.{IsCalled, IsWide, left_in, memory_left}
use Rattle.nk_body.specs.KindsKept.{is_reserved, is_settled}

-- memory stands for the record that the call makes; the numbers that a call stores have 64 bits where its words do
pub record CallLaws : Type 0 where
  pub wide : (words : CallWords) → words.a < 2 ^ 64 → words.c < 2 ^ 64 → IsWide (call_of words)
  pub nested : (kinds : List Kind) (root : ℕ) (ledger : Ledger) (m : List ℕ) (call : Call) (source : Sourced)
      → IsCalled kinds root ledger m call source
      → let after : Nested = left_in kinds root ledger m call source in
      nested_in after.tables.kinds after.tables.root after.ledger (memory_left kinds root ledger m call source) ≡ after
  pub sound : (kinds : List Kind) (root : ℕ) (ledger : Ledger) (m : List ℕ) (call : Call) (source : Sourced)
      → IsCalled kinds root ledger m call source
      → let after : Nested = left_in kinds root ledger m call source in
      HoldsSoundTables after.tables.kinds after.tables.root (memory_left kinds root ledger m call source)
  pub kept : (kinds : List Kind) (root : ℕ) (ledger : Ledger) (m : List ℕ) (call : Call) (source : Sourced)
      → IsCalled kinds root ledger m call source
      → let after : Nested = left_in kinds root ledger m call source in IsLedgerKept after.tables.kinds after.ledger

-- kinds, bytes and answers
pub record CallLeavesLaws : Type 0 where
  pub count : (kinds : List Kind) (root : ℕ) (ledger : Ledger) (m : List ℕ) (call : Call) (source : Sourced)
      → length (left_in kinds root ledger m call source).tables.kinds ≡ length kinds
  pub settled : (kinds : List Kind) (root f : ℕ) (ledger : Ledger) (m : List ℕ) (call : Call) (source : Sourced)
      → IsCalled kinds root ledger m call source → is_settled (kind_of kinds f) ≡ true
      → kind_of (left_in kinds root ledger m call source).tables.kinds f ≡ kind_of kinds f
  pub reserved : (kinds : List Kind) (root f : ℕ) (ledger : Ledger) (m : List ℕ) (call : Call) (source : Sourced)
      → IsCalled kinds root ledger m call source
      → is_reserved (kind_of (left_in kinds root ledger m call source).tables.kinds f) ≡ true
      → kind_of (left_in kinds root ledger m call source).tables.kinds f ≡ kind_of kinds f
  pub loose : (kinds : List Kind) (root f : ℕ) (ledger : Ledger) (m : List ℕ) (call : Call) (source : Sourced)
      → IsCalled kinds root ledger m call source
      → 1 ≤ loose_in kinds (entry_in m) f → is_storable (kind_of kinds f) ≡ true
      → is_storable (kind_of (left_in kinds root ledger m call source).tables.kinds f) ≡ true
  pub bytes : (kinds : List Kind) (root place : ℕ) (ledger : Ledger) (m : List ℕ) (call : Call) (source : Sourced)
      → IsCalled kinds root ledger m call source → is_settled (kind_of kinds (place / 4096)) ≡ true
      → is_guarded (kind_of kinds (place / 4096)) ≡ false → (place < 0x2000) ⊎ (0x2008 ≤ place)
      → byte_at (memory_left kinds root ledger m call source) place ≡ byte_at m place
  pub entries : (kinds : List Kind) (root f i : ℕ) (ledger : Ledger) (m : List ℕ) (call : Call) (source : Sourced)
      → IsCalled kinds root ledger m call source → is_settled (kind_of kinds f) ≡ true
      → is_guarded (kind_of kinds f) ≡ false → f ≢ 2 → i < 512
      → entry_in (memory_left kinds root ledger m call source) f i ≡ entry_in m f i
  pub length : (kinds : List Kind) (root : ℕ) (ledger : Ledger) (m : List ℕ) (call : Call) (source : Sourced)
      → IsCalled kinds root ledger m call source
      → length (memory_left kinds root ledger m call source) ≡ length m
  pub are_bytes : (kinds : List Kind) (root : ℕ) (ledger : Ledger) (m : List ℕ) (call : Call) (source : Sourced)
      → IsCalled kinds root ledger m call source → All (λ b. b < 256) (bytes_read source)
      → IsBytes m → IsBytes (memory_left kinds root ledger m call source)
  pub same : (kinds : List Kind) (root : ℕ) (ledger : Ledger) (m : List ℕ) (call : Call) (source : Sourced)
      → (answer_to (nested_in kinds root ledger m) call source).flush ≡ false
      → ((left_in kinds root ledger m call source).tables.kinds ≡ kinds)
      × ((left_in kinds root ledger m call source).tables.root ≡ root)
  pub next : (kinds : List Kind) (root : ℕ) (ledger : Ledger) (m : List ℕ) (call : Call) (source : Sourced)
      → (left_in kinds root ledger m call source).ledger.book.next ≤ ledger.book.next + 1
  pub value : (kinds : List Kind) (root : ℕ) (ledger : Ledger) (m : List ℕ) (call : Call) (source : Sourced)
      → ledger.book.next < 2 ^ 63 → (answer_to (nested_in kinds root ledger m) call source).value < 2 ^ 64
  pub place : (kinds : List Kind) (root : ℕ) (ledger : Ledger) (m : List ℕ) (call : Call) (source : Sourced)
      → IfSome (answer_to (nested_in kinds root ledger m) call source).place (λ place. place < 2 ^ 64)
