-- The bytes of the gates' text.
use Rattle.std.specs.Prelude.{◌≡◌, ℕ, ◌+◌, ◌<◌, ◌==◌, true, length, slice_index}
use Rattle.std.specs.List.{list_any}
use Rattle.decode_fields.specs.Protected.{is_protected_at}
use Rattle.gate_text.specs.GatePoints.{instruction_bytes, is_point}
use Rattle.gate_text.specs.Listing.{ascend, cr0_loads, gate_at, gate_byte, listing}

pub record ListingLaws : Type 0 where
  pub rows : ascend 0 4096 listing ≡ true
  pub bytes : (at : ℕ) → at < 4096 → gate_byte at < 256
  pub loads : (at : ℕ) → is_protected_at gate_at at ≡ list_any (λ place. place == at) cr0_loads
  pub instructions : (at k : ℕ) → is_point at ≡ true → k < length (instruction_bytes at)
      → gate_byte (at + k) ≡ slice_index (instruction_bytes at) k
