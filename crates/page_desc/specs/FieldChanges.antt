-- What a store into one field of a descriptor leaves, and when tables may be read while fields are put.
use Rattle.std.specs.Prelude.{◌≡◌, ◌⊎◌, ◌<◌, ◌≤◌, ℕ, ◌+◌, ◌*◌, true, List, length}
use Rattle.phys_mem.specs.MaskedMemory.{is_book_frame}
use Rattle.phys_mem.specs.Memory.{byte_at, entry_in}
use Rattle.nk_bits.specs.declared.kind.Kind.{Kind}
use Rattle.nk_bits.specs.declared.kind.Kind.TheVariants.{Hidden}
use Rattle.nk_bits.specs.Kinds.{kind_of}
use Rattle.page_desc.specs.DescriptorBytes.{field_in}
use Rattle.page_desc.specs.FrameCounts.{IsSlotFixed}

-- two memories of one size differ in no number of a descriptor but those of four bytes from byte `at` on
pub record DiffersInField (frames at : ℕ) (before after : List ℕ) : Type 0 where
  pub size : length after ≡ length before
  pub others : (other f : ℕ) → (other + 4 ≤ at) ⊎ (at + 4 ≤ other) → other ≤ 12 → f < frames
      → field_in after other f ≡ field_in before other f
  pub elsewhere : (p : ℕ) → (p < 0x40000) ⊎ (0x40000 + 16 * frames ≤ p) → byte_at after p ≡ byte_at before p

-- memory has a frame for each kind, and its tables may be read while descriptors are put: the books' frames are hidden, so
-- that no table lies there, and the kernel slot's own tables are fixed
pub record IsReadable (kinds : List Kind) (m : List ℕ) : Type 0 where
  pub size : length m ≡ 4096 * length kinds
  pub least : 65 ≤ length kinds
  pub hidden : (f : ℕ) → is_book_frame (length kinds) f ≡ true → kind_of kinds f ≡ Hidden
  pub slot : IsSlotFixed kinds (entry_in m)
