-- Memory that holds the books after a call on regions: what it leaves of descriptors and log, and the frames of regions.
use Rattle.std.proofs.Common.{◌≡◌, ◌⊎◌, ℕ, ◌/◌, ◌<◌, ◌≤◌, true, false, List, length, arith, ap, ◌∙◌, inl, inr}
use Rattle.std.specs.Prelude.{All, IfSome, OnErr, Result, Ok, Err}
use Rattle.std.proofs.lemmas.List.Elements.{All-weaker}
use Rattle.nk_bits.specs.declared.kind.Kind.TheVariants.{Guarded}
use Rattle.nk_bits.specs.Kinds.{is_hidden, kind_of}
use Rattle.phys_mem.specs.MaskedMemory.{is_book_frame}
use Rattle.phys_mem.specs.Memory.{byte_at}
use Rattle.page_desc.specs.DescriptorBytes.{HoldsDescriptors, descriptors_in, kinds_in}
use Rattle.page_desc.specs.StoredLaws.{HeldTablesLaws, StoredLaws}
use Rattle.region_book.specs.RegionRecords.{region_of}
use Rattle.write_log.specs.LogBytes.{HoldsLog, log_in}
use Rattle.write_log.specs.LogLaws.{HeldLogLaws}
use Rattle.nk_body.specs.NestedRecord.{HoldsBooks, OwnState, books_in}
use Rattle.nk_body.proofs.HeldBooks.{book_place, tables_of}
use Rattle.nk_body.proofs.KeptLedgers.{AreGuarded}
use Rattle.nk_body.proofs.RegionFrames.{if_found}

-- what goes on holding where a call breaks a rule
pub err_with : {A B : Type 0} {P Q : Type 0} → (P → Q) → (r : Result A B) → OnErr r P → OnErr r Q
err_with from (Ok a) p = tt
err_with from (Err b) p = from p

-- the frames of memory are counted
pub frames_are : (own : OwnState) (m : List ℕ) → HoldsBooks own m → length m / 4096 ≡ own.frames
frames_are own m held = omega (arith, held.stored.size)

-- the books' bytes outside the regions' frames stay, and so do descriptors and log
pub record StandsBeside (own : OwnState) (m later : List ℕ) : Type 0 where
  pub described : descriptors_in later ≡ descriptors_in m
  pub stored : HoldsDescriptors own.frames later
  pub log : log_in own.log later ≡ log_in own.log m
  pub counts : HoldsLog own.log later

module _ (own : OwnState) (m later : List ℕ) (held : HoldsBooks own m) (size : length later ≡ length m) where
  pub descriptors_stand : StoredLaws
      → ((p : ℕ) → 0x40000 ≤ p → is_book_frame (length m / 4096) (p / 4096) ≡ true → byte_at later p ≡ byte_at m p)
      → (descriptors_in later ≡ descriptors_in m) × HoldsDescriptors own.frames later
  descriptors_stand laws same =
      laws.agree own.frames m later held.stored size
      (λ p high is. same p high (ap (λ n. is_book_frame n (p / 4096)) (frames_are own m held) ∙ is))

  pub beside_stands : StoredLaws → HeldLogLaws
      → ((p : ℕ) → is_book_frame (length m / 4096) (p / 4096) ≡ true → (p < 0x2A000) ⊎ (0x40000 ≤ p) → byte_at later p ≡ byte_at m p)
      → StandsBeside own m later
  beside_stands laws logs same =
      let described = descriptors_stand laws (λ p high is. same p is (inr high)) in
      let log = logs.agree own.log m later held.log size
      (λ p low high. same p (book_place (length m / 4096) p low (omega (arith, high))) (inl high)) in
      record { described = described.0; stored = described.1; log = log.0; counts = log.1 }

-- the frames of a live region are none of the books'
pub frames_apart : HeldTablesLaws → (own : OwnState) (m : List ℕ) (id : ℕ) → HoldsBooks own m
    → IfSome (region_of (books_in own m).ledger.book id) (λ r. All (λ f. is_book_frame (length m / 4096) f ≡ false) r.frames)
frames_apart laws own m id held =
    if_found (AreGuarded (kinds_in m)) (λ r. All (λ f. is_book_frame (length m / 4096) f ≡ false) r.frames)
    (λ r all. All-weaker (λ f. kind_of (kinds_in m) f ≡ Guarded) (λ f. is_book_frame (length m / 4096) f ≡ false)
    (λ f is. ap (λ n. is_book_frame n f) (frames_are own m held) ∙ laws.unhidden own.frames own.root f m (tables_of own m held) (ap is_hidden is)) r.frames all)
    (books_in own m).ledger.book id held.books.kept.frames
