-- What memory holds after stores, and after a frame is zeroed.
use Rattle.std.specs.Prelude.{◌≡◌, ◌≢◌, ◌⊎◌, ℕ, ◌+◌, ◌*◌, ◌/◌, ◌%◌, ◌^◌, ◌<◌, ◌≤◌, ◌++◌, List, length, All}
use Rattle.phys_mem.specs.Memory.{IsBytes, byte_at, number_at, entry_in, stores, stored, frame_bytes, frame_zeroed}

-- bytes and numbers after stores
pub record MemoryLaws : Type 0 where
  pub append : (m : List ℕ) (ws more : List (ℕ × ℕ)) → stored m (ws ++ more) ≡ stored (stored m ws) more
  pub byte_elsewhere : (m : List ℕ) (ws : List (ℕ × ℕ)) (p : ℕ) → All (λ w. w.0 ≢ p) ws
      → byte_at (stored m ws) p ≡ byte_at m p
  pub number_elsewhere : (m : List ℕ) (ws : List (ℕ × ℕ)) (n p : ℕ) → All (λ w. (w.0 < p) ⊎ (p + n ≤ w.0)) ws
      → number_at (stored m ws) n p ≡ number_at m n p
  pub number_stored : (m : List ℕ) (n p v : ℕ) → p + n ≤ length m
      → number_at (stored m (stores n p v)) n p ≡ v % 256 ^ n
  pub length : (m : List ℕ) (ws : List (ℕ × ℕ)) → length (stored m ws) ≡ length m
  pub number_bound : (m : List ℕ) (n p : ℕ) → IsBytes m → number_at m n p < 256 ^ n
  pub bytes : (m : List ℕ) (ws : List (ℕ × ℕ)) → All (λ w. w.1 < 256) ws → IsBytes m → IsBytes (stored m ws)
  pub places : (n p v : ℕ) → All (λ w. (p ≤ w.0) × (w.0 < p + n)) (stores n p v)
  pub values : (n p v : ℕ) → All (λ w. w.1 < 256) (stores n p v)

-- frames, and the entries of the tables in them
pub record FrameLaws : Type 0 where
  pub entry_elsewhere : (m : List ℕ) (ws : List (ℕ × ℕ)) (f i : ℕ) → i < 512 → All (λ w. w.0 / 4096 ≢ f) ws
      → entry_in (stored m ws) f i ≡ entry_in m f i
  pub entry_stored : (m : List ℕ) (f i v : ℕ) → 4096 * f + 4096 ≤ length m → i < 512 → v < 2 ^ 64
      → entry_in (stored m (stores 8 (4096 * f + 8 * i) v)) f i ≡ v
  pub entry_apart : (m : List ℕ) (a b v f i : ℕ) → b < 512 → i < 512 → (f ≡ a → i ≡ b → ⊥)
      → entry_in (stored m (stores 8 (4096 * a + 8 * b) v)) f i ≡ entry_in m f i
  pub entry_bound : (m : List ℕ) (f i : ℕ) → IsBytes m → entry_in m f i < 2 ^ 64
  pub entry_zeroed : (m : List ℕ) (a i : ℕ) → 4096 * a + 4096 ≤ length m → i < 512
      → entry_in (frame_zeroed m a) a i ≡ 0
  pub entry_zeroed_elsewhere : (m : List ℕ) (a f i : ℕ) → 4096 * a + 4096 ≤ length m → i < 512 → f ≢ a
      → entry_in (frame_zeroed m a) f i ≡ entry_in m f i
  pub byte_zeroed : (m : List ℕ) (a p : ℕ) → 4096 * a + 4096 ≤ length m → p / 4096 ≡ a
      → byte_at (frame_zeroed m a) p ≡ 0
  pub byte_zeroed_elsewhere : (m : List ℕ) (a p : ℕ) → 4096 * a + 4096 ≤ length m → p / 4096 ≢ a
      → byte_at (frame_zeroed m a) p ≡ byte_at m p
  pub length_zeroed : (m : List ℕ) (a : ℕ) → 4096 * a + 4096 ≤ length m
      → length (frame_zeroed m a) ≡ length m
  pub frame_elsewhere : (m : List ℕ) (ws : List (ℕ × ℕ)) (f : ℕ) → All (λ w. w.0 / 4096 ≢ f) ws
      → frame_bytes (stored m ws) f ≡ frame_bytes m f
  pub frame_zeroed_elsewhere : (m : List ℕ) (a f : ℕ) → 4096 * a + 4096 ≤ length m → f ≢ a
      → frame_bytes (frame_zeroed m a) f ≡ frame_bytes m f
  pub within_frame : (n p v f : ℕ) → 4096 * f ≤ p → p + n ≤ 4096 * f + 4096
      → All (λ w. w.0 / 4096 ≡ f) (stores n p v)
