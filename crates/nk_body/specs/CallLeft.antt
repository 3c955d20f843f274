-- What a call leaves of the record that kinds, root, ledger and memory stand for, and of memory.
use Rattle.std.specs.Prelude.{◌<◌, ◌^◌, ℕ, List, ⊤}
use Rattle.nk_body.specs.declared.call.Call.{Call}
use Rattle.nk_body.specs.declared.call.Call.TheVariants.{SetHandler, WriteEntry}
use Rattle.nk_bits.specs.declared.kind.Kind.{Kind}
use Rattle.page_desc.specs.PageTables.{HoldsSoundTables}
use Rattle.nk_body.specs.CallRules.{IsSourceOf, Sourced, after_call, memory_after_call, stand_of, wants}
use Rattle.nk_body.specs.NestedRecord.{IsLedgerKept, Ledger, Nested, nested_in}

abbrev pub left_in : List Kind → ℕ → Ledger → List ℕ → Call → Sourced → Nested
left_in kinds root ledger m call source =
    after_call (nested_in kinds root ledger m) call source (stand_of (nested_in kinds root ledger m) call m)

abbrev pub memory_left : List Kind → ℕ → Ledger → List ℕ → Call → Sourced → List ℕ
memory_left kinds root ledger m call source = memory_after_call (nested_in kinds root ledger m) call source m

-- the numbers that a call stores as they are have 64 bits
abbrev pub IsWide : Call → Type 0
IsWide (SetHandler address) = address < 2 ^ 64
IsWide (WriteEntry table index value) = value < 2 ^ 64
IsWide _ = ⊤

-- a call may be made: memory holds sound tables, the ledger is kept, what was read is what the call takes, and the numbers
-- that it stores have 64 bits
pub record IsCalled (kinds : List Kind) (root : ℕ) (ledger : Ledger) (m : List ℕ) (call : Call) (source : Sourced) : Type 0 where
  pub sound : HoldsSoundTables kinds root m
  pub keeps : IsLedgerKept kinds ledger
  pub sourced : IsSourceOf (wants ledger.book call) source
  pub wide : IsWide call
