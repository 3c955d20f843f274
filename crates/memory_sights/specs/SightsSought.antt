-- The byte at a linear address, by its page's translation.
use Rattle.std.specs.Prelude.{ℕ, ◌==◌, ◌||◌, if◌then◌else◌, List, Option, Some, None}
use Rattle.nk_bits.specs.declared.leaf.Leaf.{Leaf}
use Rattle.nk_bits.specs.Accesses.{place_in}
use Rattle.phys_mem.specs.Memory.{byte_at}

-- the byte at an address whose page has this translation, if that serves a read at this CPL
abbrev pub byte_for : List ℕ → ℕ → ℕ → Option Leaf → Option ℕ
byte_for m cpl va None = None
byte_for m cpl va (Some leaf) = if cpl == 0 || leaf.rights.user then Some (byte_at m (place_in leaf va)) else None
