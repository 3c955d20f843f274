-- Records that no call leaves, and memories that don't stand beside a run's record, each named by the sentence that it
-- guards.
use Rattle.std.proofs.Common.{◌≡◌, ◌≢◌, ◌+◌, ◌*◌, ◌<◌, ℕ, Bool, true, false, List, Some, Option, All, length, ap, sym, ◌∙◌, arith}
use Rattle.std.proofs.lemmas.Bool.{false≢true}
use Rattle.phys_mem.specs.Memory.{byte_at}
use Rattle.nk_bits.specs.declared.kind.Kind.{Kind}
use Rattle.nk_bits.specs.declared.kind.Kind.TheVariants.{Data, Fixed}
use Rattle.nk_bits.specs.declared.rule.Rule.{Rule}
use Rattle.nk_bits.specs.KernelLayout.{handler_slot}
use Rattle.nk_bits.specs.Kinds.{kind_of}
use Rattle.page_desc.specs.DescriptorBytes.{HoldsDescriptors}
use Rattle.page_desc.specs.PageTables.{AreDescribed, HoldsSoundTables, is_table}
use Rattle.region_book.specs.RegionBytes.{HoldsRegions}
use Rattle.region_book.specs.RegionRecords.{RegionRecord}
use Rattle.write_log.specs.LogBytes.{HoldsLog}
use Rattle.nk_body.specs.declared.call.Call.{Call}
use Rattle.nk_body.specs.declared.call.Call.TheVariants.{WriteEntry}
use Rattle.nk_body.specs.CallLeft.{IsCalled}
use Rattle.nk_body.specs.CallMade.{IsMade, KeepsForm, left_by}
use Rattle.nk_body.specs.CallRules.{IsSourceOf, Sourced, verdict, wants, written_unless}
use Rattle.nk_body.specs.NestedRecord.{Books, IsLedgerKept, Ledger, Nested, OwnState, nested_by}
use Rattle.nk_body.specs.ReplayBeside.{IsAccepted, IsBeside, IsMadeBeside, IsTold, frame_at, left_alone, offset_at, told_byte}

-- a call over tables that aren't sound, or a ledger that isn't kept, with what it doesn't take, or of a value of 65 bits
module _ (kinds : List Kind) (root : ℕ) (ledger : Ledger) (m : List ℕ) (source : Sourced) where
  called_over_unsound_tables : (call : Call) → (HoldsSoundTables kinds root m → ⊥)
      → IsCalled kinds root ledger m call source → ⊥
  called_over_unsound_tables call none it = none it.sound

  called_over_an_unkept_ledger : (call : Call) → (IsLedgerKept kinds ledger → ⊥)
      → IsCalled kinds root ledger m call source → ⊥
  called_over_an_unkept_ledger call none it = none it.keeps

  called_with_another_source : (call : Call) → (IsSourceOf (wants ledger.book call) source → ⊥)
      → IsCalled kinds root ledger m call source → ⊥
  called_with_another_source call none it = none it.sourced

  called_with_65_bits : (table index : ℕ)
      → IsCalled kinds root ledger m (WriteEntry table index 0x10000000000000000) source → ⊥
  called_with_65_bits table index it = let wide : 0x10000000000000000 < 0x10000000000000000 = it.wide in omega (arith, wide)

-- a call that tells another rule, leaves another part of the record, or other bytes, or books that nothing describes
module _ (books after : Books) (m later : List ℕ) (call : Call) (source : Sourced) (rule : Option Rule)
    (it : IsMade books m call source rule after later) where
  another_rule : rule ≢ verdict (nested_by books m) call source → ⊥
  another_rule other = other it.judged

  other_kinds : after.frames.kinds ≢ (left_by rule books m call source).tables.kinds → ⊥
  other_kinds other = other it.kinds

  another_root : after.root ≢ (left_by rule books m call source).tables.root → ⊥
  another_root other = other it.root

  another_handler : after.trap ≢ (left_by rule books m call source).trap → ⊥
  another_handler other = other it.trap

  another_ledger : after.ledger ≢ (left_by rule books m call source).ledger → ⊥
  another_ledger other = other it.ledger

  other_bytes : later ≢ written_unless rule (nested_by books m) call source m → ⊥
  other_bytes other = other it.memory

  undescribed_after : (AreDescribed after.frames after.root later → ⊥) → ⊥
  undescribed_after none = none it.described

  unkept_after : (IsLedgerKept after.frames.kinds after.ledger → ⊥) → ⊥
  unkept_after none = none it.keeps

-- a memory in which a book lost its form
module _ (own : OwnState) (m : List ℕ) (it : KeepsForm own m) where
  formless_descriptors : (HoldsDescriptors own.frames m → ⊥) → ⊥
  formless_descriptors none = none it.stored

  formless_regions : (HoldsRegions own.regions m → ⊥) → ⊥
  formless_regions none = none it.regions

  formless_log : (HoldsLog own.log m → ⊥) → ⊥
  formless_log none = none it.log

module _ (opened : ℕ → ℕ → ℕ) (tabled : ℕ → Bool) where
  -- the first byte of a region isn't as it is told
  another_first_byte : (run held : ℕ → ℕ → ℕ) (r : RegionRecord) → r.size ≡ 16
      → held (frame_at r 0) (offset_at r 0) ≢ told_byte opened tabled run r 0 → IsTold opened tabled run held r → ⊥
  another_first_byte run held r sixteen other it = other (it.bytes 0 (omega (arith, sixteen)))

  module _ (nk : Nested) (held : ℕ → ℕ → ℕ) (m : List ℕ) (it : IsBeside opened tabled nk held m) where
    -- a memory of a frame more
    one_frame_more : length m ≡ 4096 * (length nk.tables.kinds + 1) → ⊥
    one_frame_more is = let size = it.size in omega (arith, is, size)

    -- the last byte of a frame of data isn't left alone
    changed_data : (f : ℕ) → kind_of nk.tables.kinds f ≡ Data
        → byte_at m (4096 * f + 4095) ≢ left_alone opened tabled f 4095 → ⊥
    changed_data f data_is other = other (it.free f 4095 data_is (omega arith))

    -- a table is in no frame of them
    untold_table : (f : ℕ) → is_table (kind_of nk.tables.kinds f) ≡ true → tabled f ≡ false → ⊥
    untold_table f table none = false≢true (sym none ∙ it.tables f table)

    -- the first and the last byte of the pool are others than in the run
    another_first_of_the_pool : held 10 0 ≢ nk.held 10 0 → ⊥
    another_first_of_the_pool other = other (it.pool 10 0 (omega arith) (omega arith) (omega arith))

    another_last_of_the_pool : held 25 4095 ≢ nk.held 25 4095 → ⊥
    another_last_of_the_pool other = other (it.pool 25 4095 (omega arith) (omega arith) (omega arith))

    -- a region that isn't as it is told
    untold_region : (All (IsTold opened tabled nk.held held) nk.ledger.book.regions → ⊥) → ⊥
    untold_region none = none it.regions

  -- a call makes of the two records others than that
  another_record : (after other : Nested) (later : List ℕ) → other.trap ≢ after.trap
      → IsMadeBeside opened tabled after other later → ⊥
  another_record after other later differs it = differs (ap (λ (nk : Nested). nk.trap) it.same)

  no_longer_beside : (after other : Nested) (later : List ℕ)
      → (IsBeside opened tabled after other.held later → ⊥) → IsMadeBeside opened tabled after other later → ⊥
  no_longer_beside after other later none it = none it.beside

-- a call that breaks a rule, or takes another source, isn't accepted, nor is one whose handler's frame is data
module _ (nk : Nested) (call : Call) (source : Sourced) (it : IsAccepted nk call source) where
  broken_rule : (rule : Rule) → verdict nk call source ≡ Some rule → ⊥
  broken_rule rule broken = let none = it.none in cc

  another_source : (IsSourceOf (wants nk.ledger.book call) source → ⊥) → ⊥
  another_source none = none it.sourced

  data_at_the_handler : kind_of nk.tables.kinds handler_slot ≢ Fixed → ⊥
  data_at_the_handler other = other it.handler

  unkept : (IsLedgerKept nk.tables.kinds nk.ledger → ⊥) → ⊥
  unkept none = none it.kept
