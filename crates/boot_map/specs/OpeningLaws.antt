-- The memory, kinds and tables of the opening.
use Rattle.std.specs.Prelude.{◌≡◌, ◌≢◌, ◌⊎◌, ℕ, ◌+◌, ◌*◌, ◌^◌, ◌<◌, ◌≤◌, true, false, List, IfSome, length, slice_index}
use Rattle.phys_mem.specs.Memory.{byte_at, entry_in}
use Rattle.nk_bits.specs.declared.kind.Kind.TheVariants.{Fixed, Table, Trap}
use Rattle.nk_bits.specs.EntryForms.{has_form, has_leaf_form, has_table_form}
use Rattle.nk_bits.specs.Kinds.{allows, is_storable, kind_of, level_of}
use Rattle.nk_bits.specs.Paging.{frame_of, grants_fetches, is_present, is_slot_entry, is_user, grants_writes, rights_of, slot_value, walk}
use Rattle.gate_text.specs.Listing.{gate_byte}
use Rattle.elf_image.specs.Pages.{IsPageList, byte_of, page_count, pages_of}
use Rattle.nk_bits.specs.KernelLayout.{area_directory, area_table, gate_text, handler_slot, idt_and_tss, image_directory, nested_stack, opening_root, slot_table, trap_stack}
use Rattle.boot_map.specs.Division.{IsLayout, division_of, pages_start}
use Rattle.boot_map.specs.OpeningKinds.{kind_at, kinds}
use Rattle.boot_map.specs.OpeningEntries.{opening_entry, table_level}
use Rattle.boot_map.specs.Opening.{IsOpening}
use Rattle.boot_map.specs.Parts.{part_at}
use Rattle.boot_map.specs.KernelSlot.{HoldsSlot, HoldsOpeningTables, IsNamedIn, IsWrittenInSlot, slot_leaf, slot_start}

-- the entries of the opening's tables in its memory
pub record OpeningTablesLaws : Type 0 where
  pub entries : (b m : List ℕ) (frames f i : ℕ) → IsOpening b frames m
      → IsLayout b (division_of b frames) → f < frames → i < 512
      → 0 < table_level (part_at (division_of b frames) f)
      → entry_in m f i ≡ opening_entry b frames f i
  pub walk : (b m : List ℕ) (frames page : ℕ) → IsOpening b frames m
      → IsLayout b (division_of b frames)
      → walk (entry_in m) frames opening_root page
      ≡ walk (opening_entry b frames) frames opening_root page

-- tables that hold the opening's page tables
pub record HeldOpeningLaws : Type 0 where
  pub opening : (b m : List ℕ) (frames : ℕ) → IsOpening b frames m
      → IsLayout b (division_of b frames) → HoldsOpeningTables b frames (entry_in m)
  pub slot : (b : List ℕ) (frames : ℕ) (t : ℕ → ℕ → ℕ) → HoldsOpeningTables b frames t → HoldsSlot b frames t
  pub root : (b : List ℕ) (frames : ℕ) (t : ℕ → ℕ → ℕ) → IsLayout b (division_of b frames)
      → HoldsOpeningTables b frames t → t opening_root 511 ≡ slot_value
  pub walk : (b : List ℕ) (frames page : ℕ) (t : ℕ → ℕ → ℕ) → HoldsOpeningTables b frames t
      → IsLayout b (division_of b frames) → walk t frames opening_root page
      ≡ walk (opening_entry b frames) frames opening_root page
  pub kept : (b : List ℕ) (frames frame : ℕ)
      → 0 < table_level (part_at (division_of b frames) frame) → is_storable (kind_at b frames frame) ≡ false

-- the kinds of the fixed frames, and of all frames
pub record OpeningKindsLaws : Type 0 where
  pub fixed : (b : List ℕ) (frames : ℕ)
      → (kind_at b frames idt_and_tss ≡ Fixed) × (kind_at b frames gate_text ≡ Fixed)
      × (kind_at b frames handler_slot ≡ Fixed) × (kind_at b frames nested_stack ≡ Fixed)
      × (kind_at b frames slot_table ≡ Fixed) × (kind_at b frames area_directory ≡ Fixed)
      × (kind_at b frames area_table ≡ Fixed) × (kind_at b frames image_directory ≡ Fixed)
  pub trap : (b : List ℕ) (frames : ℕ) → kind_at b frames trap_stack ≡ Trap
  pub root : (b : List ℕ) (frames : ℕ) → kind_at b frames opening_root ≡ Table 4
  pub count : (b : List ℕ) (frames : ℕ) → length (kinds b frames) ≡ frames
  pub each : (b : List ℕ) (frames frame : ℕ) → frame < frames
      → kind_of (kinds b frames) frame ≡ kind_at b frames frame

-- the bytes of the gates' text and of the image's pages
pub record OpeningBytesLaws : Type 0 where
  pub gates : (b m : List ℕ) (frames o : ℕ) → IsOpening b frames m
      → IsLayout b (division_of b frames) → o < 4096 → byte_at m (4096 * gate_text + o) ≡ gate_byte o
  pub image : (b m : List ℕ) (frames place o : ℕ) → IsOpening b frames m
      → IsLayout b (division_of b frames) → place < page_count b → o < 4096
      → byte_at m (4096 * (pages_start (division_of b frames) + place) + o)
      ≡ byte_of b (4096 * slice_index (pages_of b) place + o)

-- the entries of tables that hold the opening's, and of the kernel slot's
pub record OpeningEntriesLaws : Type 0 where
  pub levels : (b : List ℕ) (frames f : ℕ) → level_of (kind_of (kinds b frames) f) ≤ 4
  pub leaf : (b : List ℕ) (frames f i : ℕ) (t : ℕ → ℕ → ℕ) → IsLayout b (division_of b frames)
      → IsPageList b (pages_of b) → HoldsOpeningTables b frames t → i < 512 → level_of (kind_of (kinds b frames) f) ≡ 1
      → is_present (t f i) ≡ true
      → allows (kind_of (kinds b frames) (frame_of (t f i))) (rights_of (t f i)) ≡ true
  pub link : (b : List ℕ) (frames f i : ℕ) (t : ℕ → ℕ → ℕ) → IsLayout b (division_of b frames)
      → HoldsOpeningTables b frames t → i < 512 → 2 ≤ level_of (kind_of (kinds b frames) f)
      → is_slot_entry (level_of (kind_of (kinds b frames) f)) i ≡ false → is_present (t f i) ≡ true
      → (level_of (kind_of (kinds b frames) (frame_of (t f i))) + 1 ≡ level_of (kind_of (kinds b frames) f))
      × (grants_writes (t f i) ≡ true) × (is_user (t f i) ≡ true) × (grants_fetches (t f i) ≡ true)
  pub slot : (b : List ℕ) (frames f : ℕ) (t : ℕ → ℕ → ℕ) → IsLayout b (division_of b frames)
      → HoldsOpeningTables b frames t → level_of (kind_of (kinds b frames) f) ≡ 4 → t f 511 ≡ slot_value
  pub named : (b : List ℕ) (frames i : ℕ) (t : ℕ → ℕ → ℕ) → IsLayout b (division_of b frames)
      → HoldsSlot b frames t → i < 512 → is_present (t image_directory i) ≡ true
      → (kind_of (kinds b frames) (frame_of (t image_directory i)) ≡ Fixed)
      × (frame_of (t image_directory i) ≢ handler_slot)
  pub slot_names : (b : List ℕ) (frames i : ℕ) (t : ℕ → ℕ → ℕ) → IsLayout b (division_of b frames)
      → HoldsSlot b frames t → i < 512 → is_present (t slot_table i) ≡ true
      → (frame_of (t slot_table i) ≡ area_directory) ⊎ (frame_of (t slot_table i) ≡ image_directory)
  pub area_names : (b : List ℕ) (frames i : ℕ) (t : ℕ → ℕ → ℕ) → IsLayout b (division_of b frames)
      → HoldsSlot b frames t → i < 512 → is_present (t area_directory i) ≡ true
      → frame_of (t area_directory i) ≡ area_table
  pub written : (b : List ℕ) (frames page : ℕ) (t : ℕ → ℕ → ℕ) → IsLayout b (division_of b frames)
      → IsPageList b (pages_of b) → HoldsSlot b frames t → slot_start ≤ page → page < 2 ^ 52
      → IfSome (slot_leaf b frames page) (λ leaf. leaf.rights.can_write ≡ true → IsWrittenInSlot frames t leaf.frame)
  pub form : (b : List ℕ) (frames f i : ℕ) (t : ℕ → ℕ → ℕ) → IsLayout b (division_of b frames)
      → HoldsOpeningTables b frames t → i < 512 → 1 ≤ level_of (kind_of (kinds b frames) f) → is_present (t f i) ≡ true
      → has_form (level_of (kind_of (kinds b frames) f)) (t f i) ≡ true
  pub slot_links : (b : List ℕ) (frames f i : ℕ) (t : ℕ → ℕ → ℕ) → IsLayout b (division_of b frames)
      → HoldsSlot b frames t → i < 512 → (f ≡ slot_table) ⊎ ((f ≡ area_directory) ⊎ (f ≡ image_directory))
      → is_present (t f i) ≡ true → has_table_form (t f i) ≡ true
  pub slot_leaves : (b : List ℕ) (frames f i : ℕ) (t : ℕ → ℕ → ℕ) → IsLayout b (division_of b frames)
      → HoldsSlot b frames t → i < 512 → (f ≡ area_table) ⊎ IsNamedIn t image_directory f
      → is_present (t f i) ≡ true → has_leaf_form (t f i) ≡ true
