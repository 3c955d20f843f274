-- What a call leaves, by the rule that it breaks, if any; and the forms of the books in memory, which every call keeps.
use Rattle.std.specs.Prelude.{◌≡◌, List, ℕ, Option}
use Rattle.nk_body.specs.declared.call.Call.{Call}
use Rattle.nk_bits.specs.declared.rule.Rule.{Rule}
use Rattle.page_desc.specs.DescriptorBytes.{HoldsDescriptors}
use Rattle.page_desc.specs.PageTables.{AreDescribed}
use Rattle.region_book.specs.RegionBytes.{HoldsRegions}
use Rattle.write_log.specs.LogBytes.{HoldsLog}
use Rattle.nk_body.specs.CallRules.{Sourced, made_unless, stand_of, verdict, written_unless}
use Rattle.nk_body.specs.NestedRecord.{Books, IsLedgerKept, Nested, OwnState, nested_by}

-- the record after a call, by the rule that it breaks
abbrev pub left_by : Option Rule → Books → List ℕ → Call → Sourced → Nested
left_by rule books m call source = made_unless rule (nested_by books m) call source (stand_of (nested_by books m) call m)

pub record IsMade (books : Books) (m : List ℕ) (call : Call) (source : Sourced) (rule : Option Rule) (after : Books)
    (later : List ℕ) : Type 0 where
  pub judged : rule ≡ verdict (nested_by books m) call source
  pub kinds : after.frames.kinds ≡ (left_by rule books m call source).tables.kinds
  pub root : after.root ≡ (left_by rule books m call source).tables.root
  pub trap : after.trap ≡ (left_by rule books m call source).trap
  pub ledger : after.ledger ≡ (left_by rule books m call source).ledger
  pub memory : later ≡ written_unless rule (nested_by books m) call source m
  pub described : AreDescribed after.frames after.root later
  pub keeps : IsLedgerKept after.frames.kinds after.ledger

-- each book keeps its form in memory
pub record KeepsForm (own : OwnState) (m : List ℕ) : Type 0 where
  pub stored : HoldsDescriptors own.frames m
  pub regions : HoldsRegions own.regions m
  pub log : HoldsLog own.log m
