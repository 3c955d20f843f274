-- The record and the books over stores, at the opening, and over calls that are made once more.
use Rattle.std.specs.Prelude.{◌≡◌, Bool, ◌||◌, ◌/◌, ℕ, List, All, length, true}
use Rattle.phys_mem.specs.MaskedMemory.{is_book_frame, seen}
use Rattle.phys_mem.specs.Memory.{byte_at, stored}
use Rattle.nk_body.specs.declared.call.Call.{Call}
use Rattle.nk_bits.specs.declared.kind.Kind.{Kind}
use Rattle.nk_bits.specs.declared.kind.Kind.TheVariants.{Fixed}
use Rattle.nk_bits.specs.Kinds.{is_storable, kind_of}
use Rattle.nk_bits.specs.KernelLayout.{handler_slot}
use Rattle.elf_image.specs.Pages.{IsPageList, pages_of}
use Rattle.boot_map.specs.Division.{IsLayout, division_of}
use Rattle.boot_map.specs.Opening.{IsOpening}
use Rattle.boot_map.specs.OpeningKinds.{kinds}
use Rattle.page_desc.specs.PageTables.{HoldsSoundTables}
use Rattle.nk_body.specs.NestedRecord.{AreBooks, Books, HoldsBooks, IsLedgerKept, Ledger, Nested, OwnState, books_in, held_bytes, nested_in}
use Rattle.nk_body.specs.CallRules.{Sourced, accepted_memory, answer_to, made, stand_of, verdict}
use Rattle.nk_body.specs.SourceWords.{opening_ledger}
use Rattle.nk_body.specs.ReplayBeside.{IsAccepted, IsBeside, IsMadeBeside, declares_table, is_opening_table, opening_byte}

-- stores in frames that may be stored to
pub record StoresLaws : Type 0 where
  pub nested : (kinds : List Kind) (root : ℕ) (ledger : Ledger) (m : List ℕ) (ws : List (ℕ × ℕ))
      → kind_of kinds handler_slot ≡ Fixed → All (λ w. is_storable (kind_of kinds (w.0 / 4096)) ≡ true) ws
      → nested_in kinds root ledger (stored m ws) ≡ nested_in kinds root ledger m
  pub sound : (kinds : List Kind) (root : ℕ) (m : List ℕ) (ws : List (ℕ × ℕ)) → HoldsSoundTables kinds root m
      → All (λ w. is_storable (kind_of kinds (w.0 / 4096)) ≡ true) ws → HoldsSoundTables kinds root (stored m ws)
  pub books : (books : Books) (m : List ℕ) (ws : List (ℕ × ℕ)) → AreBooks books m
      → All (λ w. is_storable (kind_of books.frames.kinds (w.0 / 4096)) ≡ true) ws → AreBooks books (stored m ws)

-- books over other bytes in frames that aren't theirs
pub record HeldBooksLaws : Type 0 where
  pub stays : (own : OwnState) (m n : List ℕ) → HoldsBooks own m → AreBooks (books_in own m) (seen n)
      → length n ≡ length m
      → ((p : ℕ) → is_book_frame own.frames (p / 4096) ≡ true → byte_at n p ≡ byte_at m p)
      → (books_in own n ≡ books_in own m) × HoldsBooks own n

-- the opening's tables and ledger
pub record OpeningSoundLaws : Type 0 where
  pub sound : (b m : List ℕ) (frames : ℕ) → IsLayout b (division_of b frames) → IsPageList b (pages_of b)
      → IsOpening b frames m → HoldsSoundTables (kinds b frames) 5 m
  pub kept : (b : List ℕ) (frames : ℕ) → IsLayout b (division_of b frames)
      → IsLedgerKept (kinds b frames) opening_ledger

-- accepted calls made once more beside the record
pub record BesideLaws : Type 0 where
  pub begins : (b m : List ℕ) (frames : ℕ) → IsOpening b frames m
      → IsBeside (opening_byte b frames) (is_opening_table b frames) (nested_in (kinds b frames) 5 opening_ledger m)
      (held_bytes (kinds b frames) m) m
  pub judged : (nk : Nested) (held : ℕ → ℕ → ℕ) (call : Call) (source : Sourced)
      → verdict (record nk { held = held }) call source ≡ verdict nk call source
  pub answered : (nk : Nested) (held : ℕ → ℕ → ℕ) (call : Call) (source : Sourced)
      → answer_to (record nk { held = held }) call source ≡ answer_to nk call source
  pub stays : (opened : ℕ → ℕ → ℕ) (tabled : ℕ → Bool) (nk : Nested) (held : ℕ → ℕ → ℕ) (m : List ℕ) (call : Call)
      (source : Sourced) (stand : ℕ → ℕ → ℕ) → IsBeside opened tabled nk held m → IsAccepted nk call source
      → let also : Nested = record nk { held = held } in
      IsMadeBeside opened (λ f. tabled f || declares_table f call) (made nk call source stand)
      (made also call source (stand_of also call m)) (accepted_memory also call source m)
