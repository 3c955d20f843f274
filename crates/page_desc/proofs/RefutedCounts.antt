-- Descriptors that aren't those of memory's tables, each named by what is wrong with them.
use Rattle.std.proofs.Common.{◌≡◌, ◌≢◌, ◌+◌, ◌*◌, ◌<◌, ℕ, List, length, slice_index, arith}
use Rattle.phys_mem.specs.Memory.{entry_in}
use Rattle.nk_bits.specs.declared.kind.Kind.{Kind}
use Rattle.page_desc.specs.DescriptorBytes.{HoldsDescriptors}
use Rattle.page_desc.specs.FrameCounts.{IsSlotFixed, links_in, loose_in}
use Rattle.page_desc.specs.FrameDescriptors.{AreCounted, Descriptors}
use Rattle.page_desc.specs.PageTables.{AreDescribed, HoldsSoundTables}
use Rattle.page_desc.specs.SoundTables.{AreTables}

-- counts of a frame that are not those of the tables
module _ (d : Descriptors) (t : ℕ → ℕ → ℕ) (it : AreCounted d t) where
  uncounted_leaf : (frame : ℕ) → frame < length d.kinds → slice_index d.loose frame ≢ loose_in d.kinds t frame → ⊥
  uncounted_leaf frame inside other = other (it.loose frame inside)

  uncounted_link : (frame : ℕ) → frame < length d.kinds → slice_index d.links frame ≢ links_in d.kinds t frame → ⊥
  uncounted_link frame inside other = other (it.links frame inside)

-- descriptors of tables that aren't sound, or with other counts
module _ (d : Descriptors) (root : ℕ) (m : List ℕ) (it : AreDescribed d root m) where
  of_unsound_tables : (HoldsSoundTables d.kinds root m → ⊥) → ⊥
  of_unsound_tables none = none it.sound

  miscounted : (AreCounted d (entry_in m) → ⊥) → ⊥
  miscounted none = none it.counted

-- tables with an entry that isn't lawful, and with tables of the kernel slot that calls may change
module _ (kinds : List Kind) (root : ℕ) (m : List ℕ) (it : HoldsSoundTables kinds root m) where
  unlawful : (AreTables kinds (entry_in m) → ⊥) → ⊥
  unlawful none = none it.tables

  loose_slot : (IsSlotFixed kinds (entry_in m) → ⊥) → ⊥
  loose_slot none = none it.slot

-- a memory of one frame more than there are descriptors
one_frame_more : (frames : ℕ) (m : List ℕ) → length m ≡ 4096 * (frames + 1) → HoldsDescriptors frames m → ⊥
one_frame_more frames m is held = let kept = held.size in omega (arith, is, kept)
