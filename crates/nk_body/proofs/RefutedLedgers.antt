-- Ledgers that aren't kept, books that aren't held, and calls that change a book that they don't touch.
use Rattle.std.proofs.Common.{◌≡◌, ◌≢◌, ℕ, ◌/◌, ◌<◌, ◌≤◌, List, ◌∷◌, length, All, refl, sym, ap, subst, ◌∙◌, arith}
use Rattle.std.specs.Prelude.{Some, ◌==◌}
use Rattle.std.proofs.lemmas.Bool.{false≢true}
use Rattle.std.proofs.lemmas.List.Elements.{All-head}
use Rattle.nk_bits.specs.declared.kind.Kind.{Kind}
use Rattle.nk_bits.specs.declared.kind.Kind.TheVariants.{Data, Fixed, Guarded}
use Rattle.nk_bits.specs.Kinds.{is_data, is_storable, kind_of}
use Rattle.phys_mem.specs.MaskedMemory.{is_book_frame}
use Rattle.phys_mem.specs.Memory.{byte_at}
use Rattle.page_desc.specs.DescriptorBytes.{kinds_in}
use Rattle.policy_book.specs.PolicyRules.{is_logged}
use Rattle.region_book.specs.RegionRecords.{Book, RegionRecord, region_of}
use Rattle.write_log.specs.LogRecords.{log_size}
use Rattle.nk_body.specs.declared.call.Call.TheVariants.{DeclareTable, LoadRoot, SetHandler, Write, WriteEntry}
use Rattle.nk_body.specs.BooksTouched.{LeavesBooks}
use Rattle.nk_body.specs.NestedRecord.{AreBooks, Books, HasFixedFrames, HoldsBooks, IsLedgerKept, Ledger, OwnState}

-- a region in a frame that isn't guarded
unguarded_region : (kinds : List Kind) (ledger : Ledger) (r : RegionRecord) (f : ℕ) (regions : List RegionRecord) (frames : List ℕ)
    → ledger.book.regions ≡ r ∷ regions → r.frames ≡ f ∷ frames → kind_of kinds f ≢ Guarded → IsLedgerKept kinds ledger → ⊥
unguarded_region kinds ledger r f regions frames lives lies other kept =
    let each : All (λ (it : RegionRecord). All (λ g. kind_of kinds g ≡ Guarded) it.frames) (r ∷ regions) =
    subst (λ (rs : List RegionRecord). All (λ (it : RegionRecord). All (λ g. kind_of kinds g ≡ Guarded) it.frames) rs) lives kept.frames in
    let here : All (λ g. kind_of kinds g ≡ Guarded) r.frames =
    All-head (λ (it : RegionRecord). All (λ g. kind_of kinds g ≡ Guarded) it.frames) r regions each in
    let all : All (λ g. kind_of kinds g ≡ Guarded) (f ∷ frames) =
    subst (λ (fs : List ℕ). All (λ g. kind_of kinds g ≡ Guarded) fs) lies here in
    other (All-head (λ g. kind_of kinds g ≡ Guarded) f frames all)

-- a frame of the pool that isn't guarded
unguarded_pool : (kinds : List Kind) (ledger : Ledger) (f : ℕ) → 10 ≤ f → f < 26 → kind_of kinds f ≢ Guarded
    → IsLedgerKept kinds ledger → ⊥
unguarded_pool kinds ledger f least most other kept = other (kept.pool f least most)

-- a log of one byte too many
long_log : (kinds : List Kind) (ledger : Ledger) → log_size ledger.log ≡ 65537 → IsLedgerKept kinds ledger → ⊥
long_log kinds ledger size kept = let most = kept.log in omega (arith, size)

-- the frame of the interrupt descriptor table, that of the gates, the handler slot's or the nested kernel's stack is data
module _ (kinds : List Kind) (has : HasFixedFrames kinds) where
  data_at_0 : kind_of kinds 0 ≡ Data → ⊥
  data_at_0 is = false≢true (sym (ap is_data has.descriptors) ∙ ap is_data is)

  data_at_1 : kind_of kinds 1 ≡ Data → ⊥
  data_at_1 is = false≢true (sym (ap is_data has.gates) ∙ ap is_data is)

  data_at_2 : kind_of kinds 2 ≡ Data → ⊥
  data_at_2 is = false≢true (sym (ap is_data has.handler) ∙ ap is_data is)

  data_at_4 : kind_of kinds 4 ≡ Data → ⊥
  data_at_4 is = false≢true (sym (ap is_data has.stack) ∙ ap is_data is)

  -- the trap stack is data, or fixed
  data_at_3 : kind_of kinds 3 ≡ Data → ⊥
  data_at_3 is = false≢true (sym (ap is_data has.traps) ∙ ap is_data is)

  fixed_at_3 : kind_of kinds 3 ≡ Fixed → ⊥
  fixed_at_3 is = false≢true (sym (ap is_storable is) ∙ ap is_storable has.traps)

-- books over such kinds aren't those of memory, and no memory holds them
data_books : (books : Books) (m : List ℕ) → kind_of books.frames.kinds 0 ≡ Data → AreBooks books m → ⊥
data_books books m is are = data_at_0 books.frames.kinds are.fixed is

data_held : (own : OwnState) (m : List ℕ) → kind_of (kinds_in m) 3 ≡ Data → HoldsBooks own m → ⊥
data_held own m is holds = data_at_3 (kinds_in m) holds.books.fixed is

module _ (book : Book) (m later : List ℕ) where
  -- a call that loads a root changes the first descriptor of 512
  root_in_descriptors : (frame : ℕ) → LeavesBooks book (LoadRoot frame) m later → length m ≡ 2097152
      → byte_at later 0x40000 ≢ byte_at m 0x40000 → ⊥
  unfolding is_book_frame
  root_in_descriptors frame leaves size other =
      other (leaves.descriptors refl 0x40000 (omega arith) (ap (λ n. is_book_frame (n / 4096) 64) size))

  -- one that writes an entry changes the first slot, and one that declares a table a written bit
  entry_in_slots : (table index value : ℕ) → LeavesBooks book (WriteEntry table index value) m later
      → byte_at later 0x3C000 ≢ byte_at m 0x3C000 → ⊥
  entry_in_slots table index value leaves other = other (leaves.regions refl 0x3C000 (omega arith) (omega arith))

  table_in_bits : (level frame : ℕ) → LeavesBooks book (DeclareTable level frame) m later
      → byte_at later 0x2A000 ≢ byte_at m 0x2A000 → ⊥
  table_in_bits level frame leaves other = other (leaves.regions refl 0x2A000 (omega arith) (omega arith))

  -- one that sets the handler changes the log's first byte
  handler_in_log : (address : ℕ) → LeavesBooks book (SetHandler address) m later
      → byte_at later 0x1A000 ≢ byte_at m 0x1A000 → ⊥
  handler_in_log address leaves other = other (leaves.log refl 0x1A000 (omega arith) (omega arith))

  -- and a write in a region that is write-once its last
  once_in_log : (region offset place count : ℕ) (r : RegionRecord) → LeavesBooks book (Write region offset place count) m later
      → region_of book region ≡ Some r → r.policy ≡ 1 → byte_at later 0x29FFF ≢ byte_at m 0x29FFF → ⊥
  once_in_log region offset place count r leaves found once other =
      other (leaves.log (ap is_logged found ∙ ap (λ p. p == 4) once) 0x29FFF (omega arith) (omega arith))
