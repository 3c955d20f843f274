-- What a change of the bits leaves.
use Rattle.std.specs.Prelude.{◌≡◌, ◌⊎◌, ◌<◌, ◌≤◌, ℕ, List, length}
use Rattle.phys_mem.specs.Memory.{byte_at}

-- two memories of one size differ in no byte but those of the bits
pub record DiffersInBits (before after : List ℕ) : Type 0 where
  pub size : length after ≡ length before
  pub elsewhere : (p : ℕ) → (p < 0x2A000) ⊎ (0x3C000 ≤ p) → byte_at after p ≡ byte_at before p
