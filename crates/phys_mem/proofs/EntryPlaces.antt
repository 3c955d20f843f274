-- The entries of tables in a memory, after stores.
use Rattle.std.proofs.Common.{◌≡◌, ◌≢◌, ◌⊎◌, ℕ, ◌+◌, ◌*◌, ◌/◌, ◌^◌, ◌<◌, ◌≤◌, List, length, All, arith, ◌∙◌, inl, inr}
use Rattle.std.proofs.lemmas.List.Elements.{All-weaker}
use Rattle.std.proofs.lemmas.Bool.{cases_order}
use Rattle.std.proofs.Math.Nat.{mod-eq_of_lt}
use Rattle.phys_mem.specs.Memory.{IsBytes, entry_in, stores, stored}
use Rattle.phys_mem.proofs.MemoryLaws.{byte_elsewhere, number_same, number_bound, number_stored, number_elsewhere, stores_within}

-- the stores of a number that lies within a frame are in that frame
pub stores_in_frame : (n p v f : ℕ) → 4096 * f ≤ p → p + n ≤ 4096 * f + 4096 → All (λ w. w.0 / 4096 ≡ f) (stores n p v)
stores_in_frame n p v f low high =
    All-weaker (λ w. (p ≤ w.0) × (w.0 < p + n)) (λ w. w.0 / 4096 ≡ f) (λ w h. omega (arith, h.0, h.1)) (stores n p v) (stores_within n p v)

-- an entry is a number of 64 bits
pub entry_bound : (m : List ℕ) (f i : ℕ) → IsBytes m → entry_in m f i < 2 ^ 64
unfolding entry_in
entry_bound m f i bytes = number_bound m 8 (4096 * f + 8 * i) bytes

-- an entry stays where no store is in its frame
pub entry_elsewhere : (m : List ℕ) (ws : List (ℕ × ℕ)) (f i : ℕ) → i < 512 → All (λ w. w.0 / 4096 ≢ f) ws → entry_in (stored m ws) f i ≡ entry_in m f i
unfolding entry_in
entry_elsewhere m ws f i small apart =
    number_same (stored m ws) m 8 (4096 * f + 8 * i)
    (λ q a b. byte_elsewhere m ws q (All-weaker (λ w. w.0 / 4096 ≢ f) (λ w. w.0 ≢ q) (λ w s e. s (omega (arith, a, b, e))) ws apart))

-- the eight stores at one place are apart from the eight bytes at another
apart_stores : (p v q : ℕ) → (p + 8 ≤ q) ⊎ (q + 8 ≤ p) → All (λ w. (w.0 < q) ⊎ (q + 8 ≤ w.0)) (stores 8 p v)
apart_stores p v q apart =
    All-weaker (λ w. (p ≤ w.0) × (w.0 < p + 8)) (λ w. (w.0 < q) ⊎ (q + 8 ≤ w.0))
    (λ w h. elim apart [ inl below ↦ inl (omega (arith, h.1, below)) | inr above ↦ inr (omega (arith, h.0, above)) ]) (stores 8 p v) (stores_within 8 p v)

-- two entries that differ have no byte in common
entries_apart : (a b f i : ℕ) → b < 512 → i < 512 → (f ≡ a → i ≡ b → ⊥) →
    (4096 * a + 8 * b + 8 ≤ 4096 * f + 8 * i) ⊎ (4096 * f + 8 * i + 8 ≤ 4096 * a + 8 * b)
entries_apart a b f i at_b at_i differ =
    elim (cases_order (512 * a + b) (512 * f + i)) [
      | inl same ↦ absurd (differ (omega (arith, same, at_b, at_i)) (omega (arith, same, at_b, at_i)))
      | inr (inl below) ↦ inl (omega (arith, below))
      | inr (inr above) ↦ inr (omega (arith, above))
    ]

-- eight bytes stored at an entry's place are that entry, and no other entry changes
pub entry_stored : (m : List ℕ) (f i v : ℕ) → 4096 * f + 4096 ≤ length m → i < 512 → v < 2 ^ 64 → entry_in (stored m (stores 8 (4096 * f + 8 * i) v)) f i ≡ v
unfolding entry_in
entry_stored m f i v fits small at_v = number_stored m 8 (4096 * f + 8 * i) v (omega (arith, fits, small)) ∙ mod-eq_of_lt at_v

pub entry_apart : (m : List ℕ) (a b v f i : ℕ) → b < 512 → i < 512 → (f ≡ a → i ≡ b → ⊥) → entry_in (stored m (stores 8 (4096 * a + 8 * b) v)) f i ≡ entry_in m f i
unfolding entry_in
entry_apart m a b v f i at_b at_i differ =
    number_elsewhere m (stores 8 (4096 * a + 8 * b) v) 8 (4096 * f + 8 * i)
    (apart_stores (4096 * a + 8 * b) v (4096 * f + 8 * i) (entries_apart a b f i at_b at_i differ))
