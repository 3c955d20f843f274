-- The slots of the table, and its buckets: those whose pages have one remainder by 1,024, in order of their numbers.
use Rattle.std.specs.Prelude.{◌≡◌, ◌<◌, ◌≤◌, ℕ, ◌+◌, ◌%◌, Bool, true, false, ◌&&◌, ◌==◌, if◌then◌else◌, nat_lt, List, slice_index, slice_index_or}
use Rattle.tlb_model.specs.declared.slot.Slot.{Slot}

-- a slot that keeps nothing
abbrev pub empty_slot : Slot
empty_slot = record { page = 0; generation = 0; leaf = record { frame = 0; rights = record { can_write = false; user = false; exec = false } }; place = 2048 }

abbrev pub slot_at : List Slot → ℕ → Slot
slot_at slots i = slice_index_or slots i empty_slot

-- a translation is kept in the slot, in this generation of the table
abbrev pub is_kept : ℕ → Slot → Bool
is_kept generation slot = (slot.generation == generation) && nat_lt slot.place 2048

-- the slot is one of the bucket's
abbrev pub is_member : ℕ → List Slot → ℕ → ℕ → Bool
is_member generation slots bucket i = is_kept generation (slot_at slots i) && ((slot_at slots i).page % 1024 == bucket)

-- the least number from one on of which a test holds, or 1,024 where it holds of none
pub record IsLeast (test : ℕ → Bool) (from found : ℕ) : Type 0 where
  pub above : from ≤ found
  pub most : found ≤ 1024
  pub is : found < 1024 → test found ≡ true
  pub none : (k : ℕ) → from ≤ k → k < found → test k ≡ false

-- the first slot of a bucket: what is noted of it counts where that slot is one of the bucket's
abbrev pub first_of : ℕ → List Slot → List ℕ → ℕ → ℕ
first_of generation slots firsts bucket =
    let noted = slice_index firsts bucket in
    if is_member generation slots bucket noted then noted else 1024

-- from each bucket's first slot the next ones lead to all of the bucket, in order
pub record IsChained (generation : ℕ) (slots : List Slot) (firsts nexts : List ℕ) : Type 0 where
  pub first : (bucket : ℕ) → bucket < 1024 → IsLeast (is_member generation slots bucket) 0 (first_of generation slots firsts bucket)
  pub next : (i : ℕ) → is_kept generation (slot_at slots i) ≡ true →
      IsLeast (is_member generation slots ((slot_at slots i).page % 1024)) (i + 1) (slice_index nexts i)
