-- Pages of data whose translations are kept and serve reads, and writes.
use Rattle.std.specs.Prelude.{◌≡◌, ◌≢◌, ◌⊎◌, ℕ, ◌+◌, ◌/◌, ◌%◌, ◌<◌, ◌≤◌, false, List, All, slice_index_or}
use Rattle.nk_bits.specs.declared.access.Access.{Access}
use Rattle.nk_bits.specs.declared.access.Access.TheVariants.{Read, Write}
use Rattle.nk_bits.specs.declared.control.Control.{Control}
use Rattle.nk_bits.specs.Translations.{Translations}
use Rattle.nk_bits.specs.Outcomes.{answered}
use Rattle.nk_bits.specs.Accesses.{accessed, crosses}
use Rattle.page_walk.specs.MemoryAccess.{view_of}
use Rattle.mem_access.specs.declared.window.KeptPage.{KeptPage}
use Rattle.mem_access.specs.declared.window.Window.{Window}

-- the page lies in a memory of so many bytes, and over any memory an access on it finds its bytes one behind the other and
-- leaves the translations
pub record IsKeptPage (size : ℕ) (control : Control) (cpl : ℕ) (access : Access) (tlb : Translations) (page : KeptPage) : Type 0 where
  pub start : page.start % 4096 ≡ 0
  pub base : page.base % 4096 ≡ 0
  pub inside : page.base + 4096 ≤ size
  pub found : (m : List ℕ) (at width : ℕ) → at / 4096 ≡ page.start / 4096 → 1 ≤ width → crosses at width ≡ false →
      answered (record { first = page.base + at % 4096; second = 0 }) tlb ≡ accessed (view_of m control cpl) access tlb at width

-- a page with room is kept for reads
pub record IsReadPage (size : ℕ) (control : Control) (cpl : ℕ) (tlb : Translations) (page : KeptPage) : Type 0 where
  pub room : page.room ≤ 4089
  pub kept : 0 < page.room → IsKeptPage size control cpl Read tlb page

-- a page with room is kept for writes, serves reads too, and is none of the four at these places
pub record IsWritePage (size : ℕ) (control : Control) (cpl : ℕ) (tlb : Translations) (off : List ℕ) (page : KeptPage) : Type 0 where
  pub room : page.room ≤ 4089
  pub kept : 0 < page.room → IsKeptPage size control cpl Write tlb page
  pub read : 0 < page.room → IsKeptPage size control cpl Read tlb page
  pub apart : 0 < page.room → (i : ℕ) → i < 4 → page.base ≢ slice_index_or off i 0

-- each page of a window is kept so, and the places that are kept off are those of pages
pub record IsWindow (size : ℕ) (control : Control) (cpl : ℕ) (tlb : Translations) (window : Window) : Type 0 where
  pub read : All (IsReadPage size control cpl tlb) window.read
  pub write : All (IsWritePage size control cpl tlb window.off) window.write
  pub off : (i : ℕ) → slice_index_or window.off i 0 % 4096 ≡ 0

-- so many bytes from a place on are on none of the four pages at these places
abbrev pub AreBeside : List ℕ → ℕ → ℕ → Type 0
AreBeside places first width = (i : ℕ) → i < 4 → (first + width ≤ slice_index_or places i 0) ⊎ (slice_index_or places i 0 + 4096 ≤ first)

-- what is kept of a page where none at this place is any longer: nothing, or the page, which is elsewhere
pub record IsLeftWithout (place : ℕ) (before after : KeptPage) : Type 0 where
  pub room : after.room ≤ before.room
  pub same : 0 < after.room → after ≡ before
  pub apart : 0 < after.room → before.base ≢ place
