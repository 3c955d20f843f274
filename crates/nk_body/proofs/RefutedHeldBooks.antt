-- Memories that don't hold the books, and books that no memory stands for, each named by the sentence that it guards.
use Rattle.std.proofs.Common.{◌≡◌, ◌≢◌, ℕ, true, List, length, arith}
use Rattle.nk_bits.specs.declared.kind.Kind.{Kind}
use Rattle.nk_bits.specs.declared.kind.Kind.TheVariants.{Fixed, Hidden, Trap}
use Rattle.nk_bits.specs.Kinds.{kind_of}
use Rattle.phys_mem.specs.MaskedMemory.{is_book_frame, seen}
use Rattle.page_desc.specs.DescriptorBytes.{HoldsDescriptors, kinds_in}
use Rattle.page_desc.specs.PageTables.{AreDescribed}
use Rattle.region_book.specs.RegionBytes.{HoldsRegions}
use Rattle.write_log.specs.LogBytes.{HoldsLog}
use Rattle.nk_body.specs.NestedRecord.{AreBooks, Books, HasFixedFrames, HoldsBooks, IsLedgerKept, OwnState, books_in, handler_in}

module _ (books : Books) (m : List ℕ) (it : AreBooks books m) where
  -- descriptors of other tables, of too few frames, another handler, other fixed frames, and a ledger that isn't sound
  undescribed : (AreDescribed books.frames books.root m → ⊥) → ⊥
  undescribed none = none it.described

  few_frames : length books.frames.kinds ≡ 511 → ⊥
  few_frames is = let least = it.least in omega (arith, is, least)

  another_handler : books.trap ≢ handler_in m → ⊥
  another_handler other = other it.trap

  unfixed_frames : (HasFixedFrames books.frames.kinds → ⊥) → ⊥
  unfixed_frames none = none it.fixed

  unkept_ledger : (IsLedgerKept books.frames.kinds books.ledger → ⊥) → ⊥
  unkept_ledger none = none it.kept

module _ (own : OwnState) (m : List ℕ) (it : HoldsBooks own m) where
  -- books that the memory that is seen doesn't stand for
  of_no_memory : (AreBooks (books_in own m) (seen m) → ⊥) → ⊥
  of_no_memory none = none it.books

  -- descriptors, regions or a log out of form
  formless_descriptors : (HoldsDescriptors own.frames m → ⊥) → ⊥
  formless_descriptors none = none it.stored

  formless_regions : (HoldsRegions own.regions m → ⊥) → ⊥
  formless_regions none = none it.regions

  formless_log : (HoldsLog own.log m → ⊥) → ⊥
  formless_log none = none it.log

  -- a frame of the books that isn't hidden
  seen_book : (f : ℕ) → is_book_frame own.frames f ≡ true → kind_of (kinds_in m) f ≢ Hidden → ⊥
  seen_book f book other = other (it.hidden f book)

-- kinds in which a fixed frame of the nested area, or the trap stack, is another
module _ (kinds : List Kind) (it : HasFixedFrames kinds) where
  another_descriptor_table : kind_of kinds 0 ≢ Fixed → ⊥
  another_descriptor_table other = other it.descriptors

  another_gate_text : kind_of kinds 1 ≢ Fixed → ⊥
  another_gate_text other = other it.gates

  another_handler_slot : kind_of kinds 2 ≢ Fixed → ⊥
  another_handler_slot other = other it.handler

  another_trap_stack : kind_of kinds 3 ≢ Trap → ⊥
  another_trap_stack other = other it.traps

  another_nested_stack : kind_of kinds 4 ≢ Fixed → ⊥
  another_nested_stack other = other it.stack
