-- The descriptors of frames: the kind of each frame of memory, and the counts of its loose leaves and of its links, as
-- they are carried from one change of the tables to the next.
use Rattle.std.specs.Prelude.{◌≡◌, ◌<◌, ◌≤◌, ℕ, ◌+◌, ◌-◌, ◌^◌, true, ◌&&◌, ◌==◌, if◌then◌else◌, List, length, slice_index}
use Rattle.nk_bits.specs.declared.kind.Kind.{Kind}
use Rattle.nk_bits.specs.Paging.{frame_of, is_present, slot_value}
use Rattle.page_desc.specs.FrameCounts.{is_link_level, is_link_to, is_loose, is_loose_leaf, links_in, loose_in, count_if}

-- by frame: its kind, how many loose leaves it has, and how many links name it
pub record Descriptors : Type 0 where
  pub kinds : List Kind
  pub loose : List ℕ
  pub links : List ℕ

-- the counts that are carried are those of the tables t
pub record AreCounted (d : Descriptors) (t : ℕ → ℕ → ℕ) : Type 0 where
  pub loose : (frame : ℕ) → frame < length d.kinds → slice_index d.loose frame ≡ loose_in d.kinds t frame
  pub links : (frame : ℕ) → frame < length d.kinds → slice_index d.links frame ≡ links_in d.kinds t frame

-- an entry of a table of this level may change from the old value to the new one: if the old value counts for a frame in
-- memory, it was counted; and if the new one does, the count that it raises has room for one more
pub record IsReplaceable (level old new : ℕ) (d : Descriptors) : Type 0 where
  pub loose : (level == 1 && is_loose old) ≡ true → frame_of old < length d.kinds
      → 1 ≤ slice_index d.loose (frame_of old)
  pub links : (is_link_level level && is_present old) ≡ true → frame_of old < length d.kinds
      → 1 ≤ slice_index d.links (frame_of old)
  pub loose_room : (level == 1 && is_loose new) ≡ true → frame_of new < length d.kinds
      → slice_index d.loose (frame_of new) < 2 ^ 32 - 1
  pub links_room : (is_link_level level && is_present new) ≡ true → frame_of new < length d.kinds
      → slice_index d.links (frame_of new) < 2 ^ 32 - 1

-- what comes of it: one less where the old value counted, one more where the new one counts
pub record IsReplaced (level old new : ℕ) (before after : Descriptors) : Type 0 where
  pub kinds : after.kinds ≡ before.kinds
  pub loose : (frame : ℕ) → frame < length before.kinds
      → slice_index after.loose frame + count_if (level == 1 && is_loose_leaf frame old)
      ≡ slice_index before.loose frame + count_if (level == 1 && is_loose_leaf frame new)
  pub links : (frame : ℕ) → frame < length before.kinds
      → slice_index after.links frame + count_if (is_link_level level && is_link_to frame old)
      ≡ slice_index before.links frame + count_if (is_link_level level && is_link_to frame new)

-- what the last entry of a new table of this level holds: the kernel slot's value at level 4, else 0
abbrev pub last_value : ℕ → ℕ
last_value level = if level == 4 then slot_value else 0
