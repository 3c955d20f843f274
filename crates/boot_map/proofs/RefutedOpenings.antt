-- Memories and tables that are no opening's, each named by the sentence that it guards.
use Rattle.std.proofs.Common.{◌≡◌, ◌≢◌, ◌*◌, ◌^◌, ◌<◌, ◌≤◌, ℕ, true, false, List, Some, length, slice_index, sym, subst, ◌∙◌, inl, inr, arith}
use Rattle.std.specs.Prelude.{IfSome, Option}
use Rattle.std.specs.Result.{result_ok}
use Rattle.std.proofs.lemmas.Bool.{false≢true}
use Rattle.phys_mem.specs.Memory.{byte_at, entry_in}
use Rattle.nk_bits.specs.declared.leaf.Leaf.{Leaf}
use Rattle.nk_bits.specs.KernelLayout.{area_table, image_directory, opening_root, slot_table}
use Rattle.nk_bits.specs.Kinds.{is_storable}
use Rattle.nk_bits.specs.Paging.{frame_of, grants_writes, is_present, slot_value, walk}
use Rattle.elf_image.specs.Pages.{IsPageList, pages_of}
use Rattle.gate_text.specs.Listing.{gate_byte}
use Rattle.boot_map.specs.Division.{IsLayout, division_of}
use Rattle.boot_map.specs.KernelSlot.{HoldsOpeningTables, IsNamedIn, IsWrittenInSlot, slot_leaf, slot_start}
use Rattle.boot_map.specs.Opening.{IsFilled, IsOpening, division_byte}
use Rattle.boot_map.specs.OpeningEntries.{link, opening_entry, table_level}
use Rattle.boot_map.specs.OpeningKinds.{kind_at}
use Rattle.boot_map.specs.OpeningLaws.{HeldOpeningLaws, OpeningTablesLaws}
use Rattle.boot_map.specs.Parts.{part_at}
use Rattle.boot_map.specs.SlotLaws.{SlotLaws, SlotLeafLaws}

-- a memory of 512 frames and a byte, one with another byte, and one that doesn't begin its gates as the listing does
module _ (b m : List ℕ) where
  long_memory : length m ≡ 2097153 → IsOpening b 512 m → ⊥
  long_memory is it = let size : length m ≡ 4096 * 512 = it.length in omega (arith, is, size)

  another_byte : (frames p : ℕ) → p < 4096 * frames → byte_at m p ≢ division_byte b frames p → IsOpening b frames m → ⊥
  another_byte frames p inside other it = other (it.bytes p inside)

  another_first_gate_byte : byte_at m 4096 ≢ gate_byte 0 → IsOpening b 512 m → ⊥
  unfolding division_byte part_at
  another_first_gate_byte other it = other (it.bytes 4096 (omega arith))

-- a frame that is a byte short, and one with another byte at its end
module _ (byte : ℕ → ℕ) (bytes : List ℕ) (it : IsFilled byte bytes) where
  short_frame : length bytes ≡ 4095 → ⊥
  short_frame is = let full = it.full in omega (arith, is, full)

  another_last_byte : slice_index bytes 4095 ≢ byte 4095 → ⊥
  another_last_byte other = other (it.each 4095 (omega arith))

-- no entry names the frame
unnamed : (t : ℕ → ℕ → ℕ) (table frame : ℕ)
    → ((i : ℕ) → i < 512 → is_present (t table i) ≡ true → frame_of (t table i) ≢ frame) → IsNamedIn t table frame → ⊥
unnamed t table frame none it = none it.at it.inside it.present it.names

module _ (frames : ℕ) (t : ℕ → ℕ → ℕ) (frame : ℕ) where
  -- the image has no tables, and no entry of the nested area's grants writes
  unwritten_area : ((i : ℕ) → i < 512 → is_present (t image_directory i) ≡ false)
      → ((i : ℕ) → i < 512 → grants_writes (t area_table i) ≡ false) → IsWrittenInSlot frames t frame → ⊥
  unwritten_area absent none it =
      elim it.slots [
        | inl area ↦
            let no : grants_writes (t it.table it.index) ≡ false =
            subst (λ table. grants_writes (t table it.index) ≡ false) (sym area) (none it.index it.inside) in
            false≢true (sym no ∙ it.written)
        | inr named ↦ false≢true (sym (absent named.at named.inside) ∙ named.present)
      ]

  -- no table in memory has a present entry that names the frame and grants writes
  unwritten_frame : ((table i : ℕ) → table < frames → i < 512 → is_present (t table i) ≡ true
      → frame_of (t table i) ≡ frame → grants_writes (t table i) ≡ false) → IsWrittenInSlot frames t frame → ⊥
  unwritten_frame none it =
      false≢true (sym (none it.table it.index it.in_memory it.inside it.present it.names) ∙ it.written)

module _ (b : List ℕ) (frames : ℕ) where
  -- tables with another entry
  another_entry : (t : ℕ → ℕ → ℕ) (f i : ℕ) → f < frames → i < 512 → 0 < table_level (part_at (division_of b frames) f)
      → t f i ≢ opening_entry b frames f i → HoldsOpeningTables b frames t → ⊥
  another_entry t f i inside below table other it = other (it.entries f i inside below table)

  module _ (layout : IsLayout b (division_of b frames)) where
    -- what the laws leave no room for: another entry, and another walk
    another_entry_in_memory : (laws : OpeningTablesLaws) (m : List ℕ) (f i : ℕ) → IsOpening b frames m → f < frames
        → i < 512 → 0 < table_level (part_at (division_of b frames) f) → entry_in m f i ≢ opening_entry b frames f i → ⊥
    another_entry_in_memory laws m f i opening inside below table other =
        other (laws.entries b m frames f i opening layout inside below table)

    another_walk_in_memory : (laws : OpeningTablesLaws) (m : List ℕ) (page : ℕ) → IsOpening b frames m
        → walk (entry_in m) frames opening_root page ≢ walk (opening_entry b frames) frames opening_root page → ⊥
    another_walk_in_memory laws m page opening other = other (laws.walk b m frames page opening layout)

    another_walk : (laws : HeldOpeningLaws) (t : ℕ → ℕ → ℕ) (page : ℕ) → HoldsOpeningTables b frames t
        → walk t frames opening_root page ≢ walk (opening_entry b frames) frames opening_root page → ⊥
    another_walk laws t page holds other = other (laws.walk b frames page t holds layout)

    -- the root doesn't name the kernel slot
    root_without_slot : (laws : HeldOpeningLaws) (t : ℕ → ℕ → ℕ) → HoldsOpeningTables b frames t
        → t opening_root 511 ≢ slot_value → ⊥
    root_without_slot laws t holds other = other (laws.root b frames t layout holds)

    -- a page of the slot is mapped otherwise
    another_leaf : (laws : SlotLaws) (page : ℕ) → IsPageList b (pages_of b) → slot_start ≤ page → page < 2 ^ 52
        → result_ok (walk (opening_entry b frames) frames opening_root page) ≢ slot_leaf b frames page → ⊥
    another_leaf laws page pages above below other = other (laws.opening b frames page layout pages above below)

  -- a frame of a table is storable
  storable_table : (laws : HeldOpeningLaws) (frame : ℕ) → 0 < table_level (part_at (division_of b frames) frame)
      → is_storable (kind_at b frames frame) ≡ true → ⊥
  storable_table laws frame table is = false≢true (sym (laws.kept b frames frame table) ∙ is)

  -- a leaf of the slot is the user's
  user_leaf : (laws : SlotLeafLaws) (page : ℕ) (leaf : Leaf) → slot_leaf b frames page ≡ Some leaf
      → leaf.rights.user ≡ true → ⊥
  user_leaf laws page leaf found user =
      let no : leaf.rights.user ≡ false =
      subst (λ (o : Option Leaf). IfSome o (λ leaf. leaf.rights.user ≡ false)) found
      (laws.supervisor b frames page) in
      false≢true (sym no ∙ user)

-- and the kernel slot's entry names another table
another_slot_table : (laws : SlotLaws) → link slot_table ≢ slot_value → ⊥
another_slot_table laws other = other laws.link
