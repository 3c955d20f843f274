-- What is no layout of an image, no kernel slot and no page of its code, each named by the sentence that it guards.
use Rattle.std.proofs.Common.{◌≡◌, ◌≢◌, ℕ, ◌+◌, ◌<◌, true, false, List, length, slice_index, sym, ap, ◌∙◌, arith}
use Rattle.std.proofs.lemmas.Bool.{false≢true}
use Rattle.elf_image.specs.Pages.{is_executable, page_count, pages_of}
use Rattle.boot_map.specs.declared.part.Part.TheVariants.{ImagePage, MapTable, RangeTable}
use Rattle.boot_map.specs.Division.{Division, IsLayout, division_of, map_tables, need, pages_start}
use Rattle.boot_map.specs.KernelSlot.{HoldsSlot, IsCodePage, is_slot_table}
use Rattle.boot_map.specs.OpeningEntries.{opening_entry}
use Rattle.boot_map.specs.Parts.{IsPartOf, part_at}

module _ (b : List ℕ) (d : Division) (it : IsLayout b d) where
  -- of another image's pages
  another_image : d.pages ≢ page_count b → ⊥
  another_image other = other (ap (λ (d : Division). d.pages) it.division)

  -- a memory below 2 MiB or past 256 MiB, or one in which the opening has no room
  small_memory : d.frames ≡ 511 → ⊥
  small_memory is = let least = it.least in omega (arith, is, least)

  large_memory : d.frames ≡ 65537 → ⊥
  large_memory is = let most = it.most in omega (arith, is, most)

  full_memory : need b d.frames ≡ d.frames + 1 → ⊥
  full_memory is = let room = it.room in omega (arith, is, room)

module _ (b : List ℕ) (frames : ℕ) where
  -- tables of the kernel slot with another entry
  another_entry : (t : ℕ → ℕ → ℕ) (f i : ℕ) → f < frames → i < 512 → is_slot_table (part_at (division_of b frames) f) ≡ true
      → t f i ≢ opening_entry b frames f i → HoldsSlot b frames t → ⊥
  another_entry t f i inside below within other it = other (it.entries f i inside below within)

  -- a page that may not be executed, one that isn't the image's, and another page's frame
  page_of_data : (page frame : ℕ) → is_executable b page ≡ false → IsCodePage b frames page frame → ⊥
  page_of_data page frame none it = false≢true (sym none ∙ it.executable)

  no_page : (page frame : ℕ) → ((i : ℕ) → i < page_count b → slice_index (pages_of b) i ≢ page)
      → IsCodePage b frames page frame → ⊥
  no_page page frame none it = none it.place it.within it.page_is

  another_frame : (page frame : ℕ) → frame ≡ pages_start (division_of b frames) + page_count b
      → IsCodePage b frames page frame → ⊥
  another_frame page frame past it =
      let within = it.within in let stands = it.frame_is in omega (arith, past, within, stands)

module _ (d : Division) where
  -- a table, a page of the image and a table of the direct map past the last
  range_table_past_the_last : IsPartOf d (RangeTable (length d.ranges)) → ⊥
  range_table_past_the_last it = omega (arith, it)

  image_page_past_the_last : IsPartOf d (ImagePage d.pages) → ⊥
  image_page_past_the_last it = omega (arith, it)

  map_table_past_the_last : IsPartOf d (MapTable (map_tables d)) → ⊥
  map_table_past_the_last it = omega (arith, it)
