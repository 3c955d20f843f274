-- The gates of the interrupt descriptor table, vector by vector: SDM volume 3, 6.14.1. INT at CPL 3 may name a vector
-- where the level of its gate, bits 5 and 6 of the type byte, is 3.
use Rattle.std.proofs.Common.{◌≡◌, ◌+◌, ◌*◌, ◌/◌, ◌%◌, ◌^◌, ◌==◌, ◌&&◌, ℕ, List, [], ◌∷◌, filter, refl}
use Rattle.std.specs.Prelude.{not}
use Rattle.std.specs.List.{range_with_len}
use Rattle.boot_map.specs.Opening.{byte_of_number, gate_of, gate_type, idt_and_tss_byte}

-- the level of the gate of a vector, as its sixteen bytes have it in the table
abbrev level_in_table : ℕ → ℕ
level_in_table v = idt_and_tss_byte (16 * v + 5) / 2 ^ 5 % 4

abbrev vectors : List ℕ
vectors = range_with_len 0 48

-- of the 48 gates those of INT3, of INTO and of vector 47 are open to CPL 3, and no other is: not that of a page fault
open_to_users : filter (λ v. level_in_table v == 3) vectors ≡ 3 ∷ 4 ∷ 47 ∷ []
unfolding idt_and_tss_byte gate_of byte_of_number
open_to_users = refl

-- all others have level 0
closed_to_users : filter (λ v. not (level_in_table v == 0)) vectors ≡ 3 ∷ 4 ∷ 47 ∷ []
unfolding idt_and_tss_byte gate_of byte_of_number
closed_to_users = refl

-- each is a present 64-bit interrupt gate: present is bit 7, and the type in the low four bits is 14
abbrev type_in_table : ℕ → ℕ
type_in_table v = idt_and_tss_byte (16 * v + 5)

none_else : filter (λ v. not (type_in_table v / 128 == 1 && type_in_table v % 32 == 14)) vectors ≡ []
unfolding idt_and_tss_byte gate_of byte_of_number
none_else = refl

-- the first of them, the page fault's, and the last
types : (gate_type 0 ≡ 0x8E) × (gate_type 2 ≡ 0x8E) × (gate_type 3 ≡ 0xEE) × (gate_type 4 ≡ 0xEE) × (gate_type 5 ≡ 0x8E)
    × (gate_type 14 ≡ 0x8E) × (gate_type 32 ≡ 0x8E) × (gate_type 46 ≡ 0x8E) × (gate_type 47 ≡ 0xEE)
types = (refl, refl, refl, refl, refl, refl, refl, refl, refl)
