-- Walks of the pages of the kernel slot, and what they find.
use Rattle.std.specs.Prelude.{◌≡◌, ◌⊎◌, ℕ, ◌+◌, ◌^◌, ◌<◌, ◌≤◌, true, false, List, IfSome, Some}
use Rattle.std.specs.Result.{result_ok}
use Rattle.phys_mem.specs.Memory.{entry_in}
use Rattle.nk_bits.specs.declared.kind.Kind.TheVariants.{Code}
use Rattle.nk_bits.specs.declared.leaf.Upper.{Upper}
use Rattle.nk_bits.specs.Kinds.{is_storable}
use Rattle.nk_bits.specs.Paging.{slot_value, upper_walk, walk, walk_below}
use Rattle.elf_image.specs.Pages.{IsPageList, pages_of}
use Rattle.nk_bits.specs.KernelLayout.{gate_text, opening_root, slot_table}
use Rattle.boot_map.specs.Division.{IsLayout, division_of}
use Rattle.boot_map.specs.OpeningKinds.{kind_at}
use Rattle.boot_map.specs.OpeningEntries.{opening_entry, link}
use Rattle.boot_map.specs.Opening.{IsOpening}
use Rattle.boot_map.specs.KernelSlot.{HoldsSlot, IsCodePage, slot_leaf, slot_start, slot_upper}

-- the walk finds the slot's linear layout
pub record SlotLaws : Type 0 where
  pub opening : (b : List ℕ) (frames page : ℕ) → IsLayout b (division_of b frames)
      → IsPageList b (pages_of b) → slot_start ≤ page → page < 2 ^ 52
      → result_ok (walk (opening_entry b frames) frames opening_root page) ≡ slot_leaf b frames page
  pub any : (b : List ℕ) (frames root page : ℕ) (t : ℕ → ℕ → ℕ)
      → IsLayout b (division_of b frames) → IsPageList b (pages_of b)
      → HoldsSlot b frames t → t root 511 ≡ slot_value → slot_start ≤ page → page < 2 ^ 52
      → result_ok (walk t frames root page) ≡ slot_leaf b frames page
  pub held : (b m : List ℕ) (frames : ℕ) → IsOpening b frames m
      → IsLayout b (division_of b frames) → HoldsSlot b frames (entry_in m)
  pub link : link slot_table ≡ slot_value

-- the upper entries of the slot's pages
pub record SlotUpperLaws : Type 0 where
  pub any : (b : List ℕ) (frames root page level : ℕ) (t : ℕ → ℕ → ℕ) → IsLayout b (division_of b frames)
      → IsPageList b (pages_of b) → HoldsSlot b frames t → t root 511 ≡ slot_value → slot_start ≤ page
      → page < 2 ^ 52 → 2 ≤ level → level ≤ 4 → upper_walk t frames root page level ≡ slot_upper b frames page level
  pub in_memory : (b : List ℕ) (frames page level : ℕ) → IsLayout b (division_of b frames) → 2 ≤ level → level ≤ 4
      → IfSome (slot_upper b frames page level) (λ it. it.frame < frames)
  pub below : (b : List ℕ) (frames page level : ℕ) (it : Upper) (t : ℕ → ℕ → ℕ)
      → IsLayout b (division_of b frames) → IsPageList b (pages_of b) → HoldsSlot b frames t → slot_start ≤ page
      → page < 2 ^ 52 → 2 ≤ level → level ≤ 4 → slot_upper b frames page level ≡ Some it
      → result_ok (walk_below t frames page level it) ≡ slot_leaf b frames page

-- what the slot's leaves grant
pub record SlotLeafLaws : Type 0 where
  pub supervisor : (b : List ℕ) (frames page : ℕ)
      → IfSome (slot_leaf b frames page) (λ leaf. leaf.rights.user ≡ false)
  pub in_memory : (b : List ℕ) (frames page : ℕ) → IsLayout b (division_of b frames)
      → IfSome (slot_leaf b frames page) (λ leaf. leaf.frame < frames)
  pub executable : (b : List ℕ) (frames page : ℕ) → IfSome (slot_leaf b frames page)
      (λ leaf. leaf.rights.exec ≡ true
      → ((page ≡ slot_start + 1) × (leaf.frame ≡ gate_text))
      ⊎ IsCodePage b frames page leaf.frame)
  pub code : (b : List ℕ) (frames page frame : ℕ) → IsCodePage b frames page frame
      → kind_at b frames frame ≡ Code
  pub writable : (b : List ℕ) (frames page : ℕ) → IfSome (slot_leaf b frames page)
      (λ leaf. leaf.rights.can_write ≡ true → is_storable (kind_at b frames leaf.frame) ≡ true)
