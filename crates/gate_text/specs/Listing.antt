-- The text of the gates: the listing, row by row, and the byte that it puts at each offset.
use Rattle.std.specs.Prelude.{ℕ, ◌+◌, ◌-◌, ◌*◌, Bool, ◌&&◌, nat_le, nat_lt, if◌then◌else◌, Option, Some, None, List, [], ◌∷◌, ◌++◌, length, slice_index}
use Rattle.std.specs.List.{flat_map, range_with_len}
use Rattle.std.specs.Int.{to_le_bytes, w32}

-- a row of the listing: an offset, and the bytes that stand from it on
pub record ListingRow : Type 0 where
  pub offset : ℕ
  pub bytes : List ℕ

abbrev pub row : ℕ → List ℕ → ListingRow
row offset bytes = record { offset = offset; bytes = bytes }

-- the entry gate clears WP and takes the nested stack, the exit gate sets WP and goes back
unfoldable pub entry_and_exit : List ListingRow
entry_and_exit =
    row 0 (0x9C ∷ []) ∷  -- pushfq
    row 1 (0xFA ∷ []) ∷  -- cli
    row 2 (0x49 ∷ 0x89 ∷ 0xE2 ∷ []) ∷  -- mov r10, rsp
    row 5 (0x0F ∷ 0x20 ∷ 0xC0 ∷ []) ∷  -- mov rax, cr0
    row 8 (0x25 ∷ 0xFF ∷ 0xFF ∷ 0xFE ∷ 0xFF ∷ []) ∷  -- and eax, 0xFFFEFFFF
    row 13 (0x0F ∷ 0x22 ∷ 0xC0 ∷ []) ∷  -- mov cr0, rax
    row 16 (0xFA ∷ []) ∷  -- cli
    row 17 (0x48 ∷ 0xBC ∷ 0x00 ∷ 0x50 ∷ 0x00 ∷ 0x00 ∷ 0x80 ∷ 0xFF ∷ 0xFF ∷ 0xFF ∷ []) ∷  -- mov rsp, 0xFFFFFF8000005000
    row 27 (0x0F ∷ 0x0B ∷ []) ∷  -- the body's place
    row 29 (0x0F ∷ 0x20 ∷ 0xC0 ∷ []) ∷  -- mov rax, cr0
    row 32 (0x0D ∷ 0x00 ∷ 0x00 ∷ 0x01 ∷ 0x00 ∷ []) ∷  -- or eax, 0x10000
    row 37 (0x0F ∷ 0x22 ∷ 0xC0 ∷ []) ∷  -- mov cr0, rax
    row 40 (0xA9 ∷ 0x00 ∷ 0x00 ∷ 0x01 ∷ 0x00 ∷ []) ∷  -- test eax, 0x10000
    row 45 (0x74 ∷ 0xEE ∷ []) ∷  -- jz 29
    row 47 (0x4C ∷ 0x89 ∷ 0xD4 ∷ []) ∷  -- mov rsp, r10
    row 50 (0x4C ∷ 0x89 ∷ 0xC8 ∷ []) ∷  -- mov rax, r9
    row 53 (0x9D ∷ []) ∷  -- popfq
    row 54 (0xC3 ∷ []) ∷  -- ret
    []

-- the stub to which the gate of vector v leads: push v; jmp 448
abbrev pub stub : ℕ → List ListingRow
stub v =
    row (64 + 8 * v) (0x6A ∷ v ∷ []) ∷
    row (66 + 8 * v) (0xE9 ∷ to_le_bytes w32 (377 - 8 * v)) ∷
    []

-- the trap gate sets WP and goes on to the outer kernel's handler, or halts for good
unfoldable pub trap_gate : List ListingRow
trap_gate =
    row 448 (0x50 ∷ []) ∷  -- push rax
    row 449 (0x0F ∷ 0x20 ∷ 0xC0 ∷ []) ∷  -- mov rax, cr0
    row 452 (0x0D ∷ 0x00 ∷ 0x00 ∷ 0x01 ∷ 0x00 ∷ []) ∷  -- or eax, 0x10000
    row 457 (0x0F ∷ 0x22 ∷ 0xC0 ∷ []) ∷  -- mov cr0, rax
    row 460 (0xA9 ∷ 0x00 ∷ 0x00 ∷ 0x01 ∷ 0x00 ∷ []) ∷  -- test eax, 0x10000
    row 465 (0x74 ∷ 0xEE ∷ []) ∷  -- jz 449
    row 467 (0x58 ∷ []) ∷  -- pop rax
    row 468 (0xFF ∷ 0x25 ∷ 0x26 ∷ 0x0E ∷ 0x00 ∷ 0x00 ∷ []) ∷  -- jmp [0xFFFFFF8000002000], the handler slot
    row 474 (0xF4 ∷ []) ∷  -- hlt
    row 475 (0xEB ∷ 0xFD ∷ []) ∷  -- jmp 474
    []

-- the whole text, by ascending offsets, with a stub for each vector from 0 to 47
unfoldable pub listing : List ListingRow
listing = entry_and_exit ++ (flat_map stub (range_with_len 0 48) ++ trap_gate)

-- the row has a byte at this offset
abbrev pub reaches : ListingRow → ℕ → Bool
reaches r at = nat_le r.offset at && nat_lt at (r.offset + length r.bytes)

-- the byte that the rows put at an offset, and INT3 where none reaches it
abbrev pub byte_by : List ListingRow → ℕ → ℕ
byte_by [] at = 0xCC
byte_by (r ∷ rows) at = if reaches r at then slice_index r.bytes (at - r.offset) else byte_by rows at

-- the byte of the gates' text at an offset
unfoldable pub gate_byte : ℕ → ℕ
gate_byte at = byte_by listing at

-- each row begins at or after the end of the row before it, and the last one ends at most here
abbrev pub ascend : ℕ → ℕ → List ListingRow → Bool
ascend from end [] = nat_le from end
ascend from end (r ∷ rows) = nat_le from r.offset && ascend (r.offset + length r.bytes) end rows

-- the text as bytes at places, none of which stands past its 4,096
abbrev pub gate_at : ℕ → Option ℕ
gate_at at = if nat_lt at 4096 then Some (gate_byte at) else None

-- the offsets of the loads of CR0 in the three gates
abbrev pub cr0_loads : List ℕ
cr0_loads = 13 ∷ 37 ∷ 457 ∷ []
