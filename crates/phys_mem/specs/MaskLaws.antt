-- What memory with frames hidden holds, by any test of a frame's number.
use Rattle.std.specs.Prelude.{◌≡◌, ℕ, ◌+◌, ◌*◌, ◌/◌, ◌%◌, ◌<◌, ◌≤◌, Bool, true, false, List, length, All}
use Rattle.phys_mem.specs.Memory.{IsBytes, byte_at, number_at, entry_in, stored, frame_bytes, frame_zeroed}
use Rattle.phys_mem.specs.MaskedMemory.{masked}

pub record MaskLaws : Type 0 where
  pub byte_hidden : (hidden : ℕ → Bool) (m : List ℕ) (p : ℕ) → hidden (p / 4096) ≡ true
      → byte_at (masked hidden m) p ≡ 0
  pub byte_seen : (hidden : ℕ → Bool) (m : List ℕ) (p : ℕ) → hidden (p / 4096) ≡ false
      → byte_at (masked hidden m) p ≡ byte_at m p
  pub number_seen : (hidden : ℕ → Bool) (m : List ℕ) (n p : ℕ) → p % 4096 + n ≤ 4096
      → hidden (p / 4096) ≡ false → number_at (masked hidden m) n p ≡ number_at m n p
  pub entry_seen : (hidden : ℕ → Bool) (m : List ℕ) (f i : ℕ) → i < 512 → hidden f ≡ false
      → entry_in (masked hidden m) f i ≡ entry_in m f i
  pub entry_hidden : (hidden : ℕ → Bool) (m : List ℕ) (f i : ℕ) → i < 512 → hidden f ≡ true
      → entry_in (masked hidden m) f i ≡ 0
  pub frame_seen : (hidden : ℕ → Bool) (m : List ℕ) (f : ℕ) → hidden f ≡ false
      → frame_bytes (masked hidden m) f ≡ frame_bytes m f
  pub stored_seen : (hidden : ℕ → Bool) (m : List ℕ) (ws : List (ℕ × ℕ))
      → All (λ w. hidden (w.0 / 4096) ≡ false) ws → masked hidden (stored m ws) ≡ stored (masked hidden m) ws
  pub stored_hidden : (hidden : ℕ → Bool) (m : List ℕ) (ws : List (ℕ × ℕ))
      → All (λ w. hidden (w.0 / 4096) ≡ true) ws → masked hidden (stored m ws) ≡ masked hidden m
  pub zeroed_seen : (hidden : ℕ → Bool) (m : List ℕ) (f : ℕ) → 4096 * f + 4096 ≤ length m → hidden f ≡ false
      → masked hidden (frame_zeroed m f) ≡ frame_zeroed (masked hidden m) f
  pub bytes : (hidden : ℕ → Bool) (m : List ℕ) → IsBytes m → IsBytes (masked hidden m)
  pub unhidden : (hidden : ℕ → Bool) (m : List ℕ)
      → ((p : ℕ) → hidden (p / 4096) ≡ true → byte_at m p ≡ 0) → masked hidden m ≡ m
  pub alike : (hidden : ℕ → Bool) (m n : List ℕ) → length m ≡ length n
      → ((p : ℕ) → hidden (p / 4096) ≡ false → byte_at m p ≡ byte_at n p) → masked hidden m ≡ masked hidden n
  pub length : (hidden : ℕ → Bool) (m : List ℕ) → length (masked hidden m) ≡ length m
