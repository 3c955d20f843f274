-- Masked memory, and memory after stores, that isn't so, each named by the sentence that it guards.
use Rattle.std.proofs.Common.{◌≡◌, ◌≢◌, ◌+◌, ◌*◌, ◌/◌, ◌<◌, ◌≤◌, ℕ, Bool, true, false, List, length, arith}
use Rattle.std.specs.List.{All}
use Rattle.phys_mem.specs.MaskLaws.{MaskLaws}
use Rattle.phys_mem.specs.MaskedMemory.{masked}
use Rattle.phys_mem.specs.Memory.{IsBytes, byte_at, entry_in, frame_bytes, frame_zeroed, number_at, stored}
use Rattle.phys_mem.specs.MemoryLaws.{FrameLaws, MemoryLaws}

module _ (hidden : ℕ → Bool) (m : List ℕ) (laws : MaskLaws) where
  -- what stands in a hidden frame is told
  hidden_byte_told : (p : ℕ) → hidden (p / 4096) ≡ true → byte_at (masked hidden m) p ≡ 7 → ⊥
  hidden_byte_told p is told = let none = laws.byte_hidden hidden m p is in omega (arith, none, told)

  hidden_entry_told : hidden 26 ≡ true → entry_in (masked hidden m) 26 511 ≡ 7 → ⊥
  hidden_entry_told is told = let none = laws.entry_hidden hidden m 26 511 (omega arith) is in omega (arith, none, told)

  hidden_store_told : (ws : List (ℕ × ℕ)) → All (λ w. hidden (w.0 / 4096) ≡ true) ws
      → masked hidden (stored m ws) ≢ masked hidden m → ⊥
  hidden_store_told ws are other = other (laws.stored_hidden hidden m ws are)

  -- what stands in another frame isn't, or is told otherwise once the frame is zeroed
  seen_frame_changed : (f : ℕ) → hidden f ≡ false → frame_bytes (masked hidden m) f ≢ frame_bytes m f → ⊥
  seen_frame_changed f is other = other (laws.frame_seen hidden m f is)

  seen_zeros_changed : (f : ℕ) → 4096 * f + 4096 ≤ length m → hidden f ≡ false
      → masked hidden (frame_zeroed m f) ≢ frame_zeroed (masked hidden m) f → ⊥
  seen_zeros_changed f fits is other = other (laws.zeroed_seen hidden m f fits is)

  -- a byte is too large
  byte_256 : (p : ℕ) → IsBytes m → byte_at (masked hidden m) p ≡ 256 → ⊥
  byte_256 p bytes is = let small = laws.bytes hidden m bytes p in omega (arith, small, is)

module _ (m : List ℕ) (bytes : IsBytes m) where
  -- a number of one byte is too large, and an entry
  number_256 : (laws : MemoryLaws) (p : ℕ) → number_at m 1 p ≡ 256 → ⊥
  number_256 laws p is = let small : number_at m 1 p < 256 = laws.number_bound m 1 p bytes in omega (arith, small, is)

  entry_of_65_bits : (laws : FrameLaws) (f i : ℕ) → entry_in m f i ≡ 0x10000000000000000 → ⊥
  entry_of_65_bits laws f i is =
      let small : entry_in m f i < 0x10000000000000000 = laws.entry_bound m f i bytes in omega (arith, small, is)

-- stores elsewhere, and zeros in another frame, change a frame
module _ (m : List ℕ) (laws : FrameLaws) where
  changed_by_stores_elsewhere : (ws : List (ℕ × ℕ)) (f : ℕ) → All (λ w. w.0 / 4096 ≢ f) ws
      → frame_bytes (stored m ws) f ≢ frame_bytes m f → ⊥
  changed_by_stores_elsewhere ws f apart other = other (laws.frame_elsewhere m ws f apart)

  changed_by_zeros_elsewhere : 4096 * 26 + 4096 ≤ length m → frame_bytes (frame_zeroed m 26) 27 ≢ frame_bytes m 27
      → ⊥
  changed_by_zeros_elsewhere fits other =
      other (laws.frame_zeroed_elsewhere m 26 27 fits (λ same. omega (arith, same)))
