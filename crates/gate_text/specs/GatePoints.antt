-- The offsets of the gates' text at which the supervisor may stand with WP clear, and the instruction that the listing
-- has there.
use Rattle.std.specs.Prelude.{ℕ, ◌%◌, Bool, ◌==◌, ◌&&◌, ◌||◌, nat_le, nat_lt, if◌then◌else◌, List, [], ◌∷◌}
use Rattle.std.specs.List.{list_any}
use Rattle.gate_text.specs.Listing.{ListingRow, listing}

-- in the entry gate from behind its load of CR0 on, in the exit gate up to its jump back, and in the trap gate likewise
abbrev pub gate_points : List ℕ
gate_points = 16 ∷ 17 ∷ 27 ∷ 29 ∷ 32 ∷ 37 ∷ 40 ∷ 45 ∷ 448 ∷ 449 ∷ 452 ∷ 457 ∷ 460 ∷ 465 ∷ []

-- both instructions of a stub, for the vectors 32 to 47: at 64 + 8v and 66 + 8v
abbrev pub is_stub_point : ℕ → Bool
is_stub_point offset = nat_le 320 offset && nat_lt offset 448 && (offset % 8 == 0 || offset % 8 == 2)

unfoldable pub is_point : ℕ → Bool
is_point offset = list_any (λ point. point == offset) gate_points || is_stub_point offset

-- the bytes of the row that begins at an offset; none where no row does
abbrev pub bytes_from : List ListingRow → ℕ → List ℕ
bytes_from [] at = []
bytes_from (r ∷ rows) at = if r.offset == at then r.bytes else bytes_from rows at

unfoldable pub instruction_bytes : ℕ → List ℕ
instruction_bytes at = bytes_from listing at
