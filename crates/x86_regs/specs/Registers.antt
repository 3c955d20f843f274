-- The parts of the general registers that instructions name, and partial writes (SDM volume 1, 3.4.1). A width is in
-- bits.
use Rattle.std.specs.Prelude.{◌≡◌, ℕ, ◌+◌, ◌*◌, ◌/◌, ◌%◌, ◌^◌, ◌<◌, List, slice_index, slice_set, nat_le, if◌then◌else◌}
use Rattle.decode_fields.specs.declared.place.Place.{Place}
use Rattle.decode_fields.specs.declared.place.Place.TheVariants.{Nothing, Reg, High, Mem, Value}
use Rattle.decode_fields.specs.Widths.{IsWidth}

-- a general register and a width, or the second byte of one of the first four
abbrev pub IsRegister : Place → ℕ → Type 0
IsRegister (Reg n) w = (n < 16) × IsWidth w
IsRegister (High n) w = (n < 4) × (w ≡ 8)
IsRegister _ w = ⊥

-- the register's low w bits, or its bits 15 to 8; a place that isn't a register holds nothing
abbrev pub held : List ℕ → Place → ℕ → ℕ
held general (Reg n) w = slice_index general n % 2 ^ w
held general (High n) w = slice_index general n / 2 ^ 8 % 2 ^ 8
held general _ w = 0

-- the register after a write of w bits: 32 bits clear its upper half, and 8 or 16 keep the bits above
abbrev pub low_written : ℕ → ℕ → ℕ → ℕ
low_written w old value = if nat_le 32 w then value % 2 ^ w else old / 2 ^ w * 2 ^ w + value % 2 ^ w

-- the register after a write of its bits 15 to 8, which keeps the bits above and below
abbrev pub high_written : ℕ → ℕ → ℕ
high_written old value = old / 2 ^ 16 * 2 ^ 16 + value % 2 ^ 8 * 2 ^ 8 + old % 2 ^ 8

-- the registers after a write to a place, which keeps every other register
abbrev pub written : List ℕ → Place → ℕ → ℕ → List ℕ
written general (Reg n) w value = slice_set general n (low_written w (slice_index general n) value)
written general (High n) w value = slice_set general n (high_written (slice_index general n) value)
written general _ w value = general
