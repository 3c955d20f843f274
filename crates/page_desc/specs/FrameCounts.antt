-- How often the page tables name a frame: its loose leaves and its links, counted anew over all tables in memory.
--
-- A table function t gives the value of entry i of the table in frame f as t f i. A list of kinds has the kind of each
-- frame, so that its length is the number of frames.
use Rattle.std.specs.Prelude.{◌≡◌, ◌<◌, ℕ, zero, suc, ◌+◌, Bool, true, false, ◌&&◌, ◌||◌, ◌==◌, nat_le, if◌then◌else◌, List, length}
use Rattle.std.specs.List.{list_any, range_with_len}
use Rattle.nk_bits.specs.declared.kind.Kind.{Kind}
use Rattle.nk_bits.specs.declared.kind.Kind.TheVariants.{Table, Fixed}
use Rattle.nk_bits.specs.Kinds.{kind_of, level_of}
use Rattle.nk_bits.specs.Paging.{frame_of, is_present, is_user, grants_writes}
use Rattle.nk_bits.specs.KernelLayout.{area_table, image_directory}

-- the sum of g over the numbers below n
unfoldable pub sum_below : ℕ → (ℕ → ℕ) → ℕ
sum_below zero g = 0
sum_below (suc n) g = sum_below n g + g n

-- 1 where the test passes
abbrev pub count_if : Bool → ℕ
count_if b = if b then 1 else 0

-- how many entries pass the test, among the first so many of each frame that is counted, over the first so many frames
unfoldable pub count_in : ℕ → ℕ → (ℕ → Bool) → (ℕ → Bool) → (ℕ → ℕ → ℕ) → ℕ
count_in frames entries is_counted test t =
    sum_below frames (λ f. sum_below entries (λ i. count_if (is_counted f && test (t f i))))

-- the entry is present and names this frame
abbrev pub is_link_to : ℕ → ℕ → Bool
is_link_to frame e = is_present e && frame_of e == frame

-- a leaf is loose where it is present, and writable or user
abbrev pub is_loose : ℕ → Bool
is_loose e = is_present e && (grants_writes e || is_user e)

-- the entry is a loose leaf of this frame
abbrev pub is_loose_leaf : ℕ → ℕ → Bool
is_loose_leaf frame e = is_loose e && frame_of e == frame

-- the frame holds one of the kernel slot's own tables of level 1: the nested area's, or one that a present entry of the image's
-- table of level 2 names
unfoldable pub is_slot_leaf_table : (ℕ → ℕ → ℕ) → ℕ → Bool
is_slot_leaf_table t frame = frame == area_table || list_any (λ i. is_link_to frame (t image_directory i)) (range_with_len 0 512)

-- the frame holds a table of level 1, whose entries are leaves: it is one by its kind, or one of the kernel slot's own
unfoldable pub holds_leaves : List Kind → (ℕ → ℕ → ℕ) → ℕ → Bool
holds_leaves kinds t frame = level_of (kind_of kinds frame) == 1 || is_slot_leaf_table t frame

-- the entries of a table of this level are links
abbrev pub is_link_level : ℕ → Bool
is_link_level level = nat_le 2 level && nat_le level 4

-- the frame holds a table of level 2 to 4 by its kind
unfoldable pub holds_links : List Kind → ℕ → Bool
holds_links kinds frame = is_link_level (level_of (kind_of kinds frame))

-- a frame of this kind may hold a page table: it is one by its kind, or Fixed, as the kernel slot's own tables are
abbrev pub may_hold_table : Kind → Bool
may_hold_table (Table level) = true
may_hold_table Fixed = true
may_hold_table _ = false

-- how many loose leaves the frame has, in all tables of level 1, linked or not
unfoldable pub loose_in : List Kind → (ℕ → ℕ → ℕ) → ℕ → ℕ
loose_in kinds t frame = count_in (length kinds) 512 (holds_leaves kinds t) (is_loose_leaf frame) t

-- how many links name the frame, in all tables of kind Table 2 to Table 4
unfoldable pub links_in : List Kind → (ℕ → ℕ → ℕ) → ℕ → ℕ
links_in kinds t frame = count_in (length kinds) 512 (holds_links kinds) (is_link_to frame) t

-- the kernel slot's tables of level 1 and the table that names them are Fixed: the nested area's, the image's of level 2, and
-- each frame that a present entry of this names
pub record IsSlotFixed (kinds : List Kind) (t : ℕ → ℕ → ℕ) : Type 0 where
  pub table : kind_of kinds area_table ≡ Fixed
  pub directory : kind_of kinds image_directory ≡ Fixed
  pub named : (i : ℕ) → i < 512 → is_present (t image_directory i) ≡ true → kind_of kinds (frame_of (t image_directory i)) ≡ Fixed
