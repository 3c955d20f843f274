-- The prefix bytes in front of an opcode, and what they say (SDM volume 2, 2.1.1 and 2.2.1).
use Rattle.std.specs.Prelude.{ℕ, ◌==◌, Bool, ◌&&◌, ◌||◌, nat_le, nat_lt, if◌then◌else◌, Option, Some, None, List, [], ◌∷◌, length, reverse, find, slice_get, ◌-◌}
use Rattle.std.specs.List.{list_any, take_while}
use Rattle.decode_fields.specs.declared.parts.Prefixes.{Prefixes}
use Rattle.decode_fields.specs.declared.parts.Rep.{Rep}
use Rattle.decode_fields.specs.declared.parts.Rep.TheVariants.{No, WhileEqual, WhileNot}

-- REX: 40 to 4F
abbrev pub is_rex : ℕ → Bool
is_rex byte = nat_le 0x40 byte && nat_lt byte 0x50

-- the operand size, LOCK, the two repeats, and the segment overrides without effect
abbrev pub legacy_prefixes : List ℕ
legacy_prefixes = 0x66 ∷ 0xF0 ∷ 0xF2 ∷ 0xF3 ∷ 0x2E ∷ 0x36 ∷ 0x3E ∷ 0x26 ∷ []

-- a byte that may stand before an opcode
abbrev pub is_prefix : ℕ → Bool
is_prefix byte = is_rex byte || list_any (λ prefix. prefix == byte) legacy_prefixes

-- the prefix bytes at the front
abbrev pub prefix_bytes : List ℕ → List ℕ
prefix_bytes bytes = take_while is_prefix bytes

-- F2 and F3
abbrev pub is_repeat : ℕ → Bool
is_repeat byte = byte == 0xF2 || byte == 0xF3

-- what a repeat prefix asks for
abbrev pub rep_named : Option ℕ → Rep
rep_named None = No
rep_named (Some byte) = if byte == 0xF3 then WhileEqual else WhileNot

-- the last of F2 and F3 counts
abbrev pub rep_of : List ℕ → Rep
rep_of front = rep_named (find is_repeat (reverse front))

-- a REX byte, as an option
abbrev pub rex_named : Option ℕ → Option ℕ
rex_named None = None
rex_named (Some byte) = if is_rex byte then Some byte else None

-- REX counts as the last prefix byte alone
abbrev pub rex_of : List ℕ → Option ℕ
rex_of front = rex_named (slice_get front (length front - 1))

-- what these prefix bytes say together
abbrev pub prefixes_of : List ℕ → Prefixes
prefixes_of front = record {
  length = length front;
  narrow = list_any (λ byte. byte == 0x66) front;
  lock = list_any (λ byte. byte == 0xF0) front;
  rep = rep_of front;
  rex = rex_of front;
}
