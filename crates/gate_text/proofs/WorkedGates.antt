-- The text of the gates at worked values: the bytes by the pages of SDM volume 2, and where its jumps lead.
use Rattle.std.proofs.Common.{◌≡◌, ℕ, ◌+◌, ◌*◌, ◌%◌, ◌^◌, Bool, true, false, ◌==◌, ◌&&◌, Some, None, List, [], ◌∷◌, length, map, refl}
use Rattle.std.specs.Prelude.{filter}
use Rattle.std.specs.List.{list_all, range_with_len}
use Rattle.decode_fields.specs.Immediates.{number_of, signed_number}
use Rattle.gate_text.specs.GatePoints.{bytes_from, gate_points, instruction_bytes, is_point, is_stub_point}
use Rattle.gate_text.specs.Listing.{ascend, byte_by, cr0_loads, entry_and_exit, gate_at, gate_byte, listing, reaches, row, stub, trap_gate}

-- so many bytes of the text
bytes_at : ℕ → ℕ → List ℕ
bytes_at at n = map gate_byte (range_with_len at n)

-- where a jump leads whose displacement of n bytes is its last part
target : ℕ → ℕ → ℕ
target at n = (at + n + signed_number (8 * n) (bytes_at at n)) % 2 ^ 64

-- PUSHFQ 9C, CLI FA, POPFQ 9D and RET C3 at the ends of the entry and the exit gate; INT3 CC beside the gates, between two
-- stubs, and up to the last byte
ends :
    (gate_byte 0 ≡ 0x9C) × (gate_byte 1 ≡ 0xFA) × (gate_byte 16 ≡ 0xFA) × (gate_byte 53 ≡ 0x9D) × (gate_byte 54 ≡ 0xC3) ×
    (gate_byte 55 ≡ 0xCC) × (gate_byte 63 ≡ 0xCC) × (gate_byte 71 ≡ 0xCC) × (gate_byte 447 ≡ 0xCC) × (gate_byte 477 ≡ 0xCC) ×
    (gate_byte 4095 ≡ 0xCC)
unfolding gate_byte listing entry_and_exit trap_gate
ends = (refl, refl, refl, refl, refl, refl, refl, refl, refl, refl, refl)

-- the text has 4,096 bytes
edge : (gate_at 0 ≡ Some 0x9C) × (gate_at 4095 ≡ Some 0xCC) × (gate_at 4096 ≡ None) × (gate_at (2 ^ 64) ≡ None)
unfolding gate_byte listing entry_and_exit trap_gate
edge = (refl, refl, refl, refl)

-- MOV from CR0 is 0F 20 C0, MOV to CR0 0F 22 C0, and it stands at these three places
loads :
    (cr0_loads ≡ 13 ∷ 37 ∷ 457 ∷ []) × (map (λ at. bytes_at at 3) cr0_loads ≡ (0x0F ∷ 0x22 ∷ 0xC0 ∷ []) ∷ (0x0F ∷ 0x22 ∷ 0xC0 ∷ []) ∷ (0x0F ∷ 0x22 ∷ 0xC0 ∷ []) ∷ []) ×
    (bytes_at 5 3 ≡ 0x0F ∷ 0x20 ∷ 0xC0 ∷ []) × (bytes_at 29 3 ≡ 0x0F ∷ 0x20 ∷ 0xC0 ∷ []) × (bytes_at 449 3 ≡ 0x0F ∷ 0x20 ∷ 0xC0 ∷ [])
unfolding bytes_at gate_byte listing entry_and_exit trap_gate
loads = (refl, refl, refl, refl, refl)

-- WP is bit 16 of CR0 (SDM volume 3, 2.5): AND EAX (25) clears it alone, OR EAX (0D) sets it, and TEST EAX (A9) looks at it
wp_bits :
    (gate_byte 8 ≡ 0x25) × (number_of 4 (bytes_at 9 4) ≡ 0xFFFEFFFF) × (gate_byte 32 ≡ 0x0D) × (number_of 4 (bytes_at 33 4) ≡ 2 ^ 16) ×
    (gate_byte 40 ≡ 0xA9) × (number_of 4 (bytes_at 41 4) ≡ 2 ^ 16) × (gate_byte 452 ≡ 0x0D) × (number_of 4 (bytes_at 453 4) ≡ 2 ^ 16) ×
    (gate_byte 460 ≡ 0xA9) × (number_of 4 (bytes_at 461 4) ≡ 2 ^ 16)
unfolding bytes_at gate_byte listing entry_and_exit trap_gate
wp_bits = (refl, refl, refl, refl, refl, refl, refl, refl, refl, refl)

-- MOV r/m64, r64 is 89 /r: R10 from RSP, RSP from R10, RAX from R9, with REX.WB 49 and REX.WR 4C; MOV RSP, imm64 is 48 BC with
-- the end of the nested stack's page; PUSH RAX is 50 and POP RAX 58; UD2, 0F 0B, holds the body's place
moves :
    (bytes_at 2 3 ≡ 0x49 ∷ 0x89 ∷ 0xE2 ∷ []) × (bytes_at 47 3 ≡ 0x4C ∷ 0x89 ∷ 0xD4 ∷ []) × (bytes_at 50 3 ≡ 0x4C ∷ 0x89 ∷ 0xC8 ∷ []) ×
    (bytes_at 17 2 ≡ 0x48 ∷ 0xBC ∷ []) × (number_of 8 (bytes_at 19 8) ≡ 0xFFFFFF8000005000) × (bytes_at 27 2 ≡ 0x0F ∷ 0x0B ∷ []) ×
    (gate_byte 448 ≡ 0x50) × (gate_byte 467 ≡ 0x58)
unfolding bytes_at gate_byte listing entry_and_exit trap_gate
moves = (refl, refl, refl, refl, refl, refl, refl, refl)

-- JZ rel8 (74) leads back to the read of CR0, in the exit gate and in the trap gate; JMP rel8 (EB) back to HLT (F4); and the
-- place of JMP r/m64 (FF 25), which counts from its end in the text's page, is the handler slot
jumps :
    (gate_byte 45 ≡ 0x74) × (target 46 1 ≡ 29) × (gate_byte 465 ≡ 0x74) × (target 466 1 ≡ 449) × (gate_byte 474 ≡ 0xF4) ×
    (gate_byte 475 ≡ 0xEB) × (target 476 1 ≡ 474) × (bytes_at 468 2 ≡ 0xFF ∷ 0x25 ∷ []) ×
    (0xFFFFFF8000001000 + target 470 4 ≡ 0xFFFFFF8000002000)
unfolding target bytes_at gate_byte listing entry_and_exit trap_gate
jumps = (refl, refl, refl, refl, refl, refl, refl, refl, refl)

-- PUSH imm8 (6A) of the vector, which its sign doesn't change, and JMP rel32 (E9) to the trap gate: the stubs of the vectors
-- 0, 13, 32 and 47, and what all 48 do
stubs :
    (stub 0 ≡ row 64 (0x6A ∷ 0 ∷ []) ∷ row 66 (0xE9 ∷ 0x79 ∷ 0x01 ∷ 0 ∷ 0 ∷ []) ∷ []) ×
    (stub 13 ≡ row 168 (0x6A ∷ 13 ∷ []) ∷ row 170 (0xE9 ∷ 0x11 ∷ 0x01 ∷ 0 ∷ 0 ∷ []) ∷ []) ×
    (stub 32 ≡ row 320 (0x6A ∷ 32 ∷ []) ∷ row 322 (0xE9 ∷ 0x79 ∷ 0 ∷ 0 ∷ 0 ∷ []) ∷ []) ×
    (stub 47 ≡ row 440 (0x6A ∷ 47 ∷ []) ∷ row 442 (0xE9 ∷ 1 ∷ 0 ∷ 0 ∷ 0 ∷ []) ∷ [])
stubs = (refl, refl, refl, refl)

leads : ℕ → Bool
leads v = gate_byte (64 + 8 * v) == 0x6A && gate_byte (65 + 8 * v) == v && gate_byte (66 + 8 * v) == 0xE9 && target (67 + 8 * v) 4 == 448

all_lead : list_all leads (range_with_len 0 48) ≡ true
unfolding leads target bytes_at gate_byte listing entry_and_exit trap_gate
all_lead = refl

-- a row reaches the bytes from its offset on, and no other; of a byte that none reaches INT3 stands there
rows :
    (reaches (row 8 (1 ∷ 2 ∷ 3 ∷ [])) 7 ≡ false) × (reaches (row 8 (1 ∷ 2 ∷ 3 ∷ [])) 8 ≡ true) × (reaches (row 8 (1 ∷ 2 ∷ 3 ∷ [])) 10 ≡ true) ×
    (reaches (row 8 (1 ∷ 2 ∷ 3 ∷ [])) 11 ≡ false) × (reaches (row 8 []) 8 ≡ false) × (byte_by [] 0 ≡ 0xCC) ×
    (byte_by (row 8 (1 ∷ 2 ∷ []) ∷ row 10 (3 ∷ []) ∷ []) 9 ≡ 2) × (byte_by (row 8 (1 ∷ 2 ∷ []) ∷ row 10 (3 ∷ []) ∷ []) 10 ≡ 3) ×
    (byte_by (row 8 (1 ∷ 2 ∷ []) ∷ row 10 (3 ∷ []) ∷ []) 11 ≡ 0xCC)
rows = (refl, refl, refl, refl, refl, refl, refl, refl, refl)

-- rows that touch, and that end at the end, are in order
orders :
    (ascend 0 0 [] ≡ true) × (ascend 0 3 (row 0 (1 ∷ 2 ∷ []) ∷ row 2 (3 ∷ []) ∷ []) ≡ true) ×
    (ascend 0 4 (row 1 (1 ∷ []) ∷ row 3 (3 ∷ []) ∷ []) ≡ true)
orders = (refl, refl, refl)

-- there are 46 points: fourteen in the gates, and two in each stub of the vectors 32 to 47, from 320 up to 448
points :
    (length gate_points ≡ 14) × (length (filter is_stub_point (range_with_len 0 480)) ≡ 32) × (length (filter is_point (range_with_len 0 480)) ≡ 46) ×
    (is_point 16 ≡ true) × (is_point 27 ≡ true) × (is_point 45 ≡ true) × (is_point 448 ≡ true) × (is_point 465 ≡ true) ×
    (is_stub_point 319 ≡ false) × (is_stub_point 320 ≡ true) × (is_stub_point 321 ≡ false) × (is_stub_point 322 ≡ true) ×
    (is_stub_point 442 ≡ true) × (is_stub_point 447 ≡ false) × (is_stub_point 448 ≡ false) × (is_stub_point 450 ≡ false)
unfolding is_point
points = (refl, refl, refl, refl, refl, refl, refl, refl, refl, refl, refl, refl, refl, refl, refl, refl)

-- the instruction that begins at an offset, and none inside one
instructions :
    (instruction_bytes 16 ≡ 0xFA ∷ []) × (instruction_bytes 322 ≡ 0xE9 ∷ 0x79 ∷ 0 ∷ 0 ∷ 0 ∷ []) × (instruction_bytes 465 ≡ 0x74 ∷ 0xEE ∷ []) ×
    (instruction_bytes 14 ≡ []) × (instruction_bytes 4095 ≡ []) × (length (instruction_bytes 17) ≡ 10) ×
    (bytes_from (row 8 (1 ∷ 2 ∷ []) ∷ row 10 (3 ∷ []) ∷ []) 10 ≡ 3 ∷ []) × (bytes_from (row 8 (1 ∷ 2 ∷ []) ∷ row 10 (3 ∷ []) ∷ []) 9 ≡ [])
unfolding instruction_bytes listing entry_and_exit trap_gate
instructions = (refl, refl, refl, refl, refl, refl, refl, refl)
