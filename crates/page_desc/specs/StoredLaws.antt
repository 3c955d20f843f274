-- Descriptors in memory, and tables under them, over changes of other bytes.
use Rattle.std.specs.Prelude.{◌≡◌, All, ℕ, ◌/◌, ◌<◌, ◌≤◌, true, false, List, length}
use Rattle.phys_mem.specs.MaskedMemory.{is_book_frame, seen}
use Rattle.phys_mem.specs.Memory.{byte_at, entry_in, stored}
use Rattle.nk_bits.specs.Kinds.{is_hidden, kind_of}
use Rattle.nk_bits.specs.Paging.{walk}
use Rattle.page_desc.specs.DescriptorBytes.{DiffersInDescriptors, HoldsDescriptors, HoldsTables, descriptors_in, kinds_in}
use Rattle.page_desc.specs.PageTables.{is_unguarded}

-- descriptors
pub record StoredLaws : Type 0 where
  pub count : (frames : ℕ) (m : List ℕ) → HoldsDescriptors frames m → (length (kinds_in m) ≡ frames)
      × (length (descriptors_in m).loose ≡ frames) × (length (descriptors_in m).links ≡ frames)
  pub agree : (frames : ℕ) (m n : List ℕ) → HoldsDescriptors frames m → length n ≡ length m
      → ((p : ℕ) → 0x40000 ≤ p → is_book_frame frames (p / 4096) ≡ true → byte_at n p ≡ byte_at m p)
      → (descriptors_in n ≡ descriptors_in m) × HoldsDescriptors frames n
  pub unseen : (frames : ℕ) (m n : List ℕ) → HoldsDescriptors frames m → DiffersInDescriptors m n → seen n ≡ seen m
  pub others : (frames : ℕ) (m n : List ℕ) (p : ℕ) → HoldsDescriptors frames m → DiffersInDescriptors m n
      → is_book_frame frames (p / 4096) ≡ false → byte_at n p ≡ byte_at m p

-- tables under descriptors
pub record HeldTablesLaws : Type 0 where
  pub stores : (frames root : ℕ) (m : List ℕ) (ws : List (ℕ × ℕ)) → HoldsTables frames root m
      → All (λ w. is_unguarded (kinds_in m) w.0 ≡ true) ws
      → All (λ w. is_hidden (kind_of (kinds_in m) (w.0 / 4096)) ≡ false) ws
      → (seen (stored m ws) ≡ stored (seen m) ws) × (descriptors_in (stored m ws) ≡ descriptors_in m)
      × HoldsTables frames root (stored m ws)
  pub unhidden : (frames root f : ℕ) (m : List ℕ) → HoldsTables frames root m
      → is_hidden (kind_of (kinds_in m) f) ≡ false → is_book_frame frames f ≡ false
  pub entries : (frames root f i : ℕ) (m : List ℕ) → HoldsTables frames root m → i < 512
      → is_hidden (kind_of (kinds_in m) f) ≡ false → entry_in m f i ≡ entry_in (seen m) f i
  pub walks : (frames root page : ℕ) (m : List ℕ) → HoldsTables frames root m
      → walk (entry_in m) (length m / 4096) root page ≡ walk (entry_in (seen m)) (length m / 4096) root page
