-- Worked spellings, by the SDM's opcode maps: of two byte strings that spell the same instruction one is the least, and
-- the other is refuted.
use Rattle.std.proofs.Common.{◌≡◌, ℕ, ◌<◌, true, false, Some, None, [], ◌∷◌, refl, arith}
use Rattle.std.proofs.lemmas.List.Elements.{All-cons, All-nil}
use Rattle.decode_fields.specs.declared.parts.Rep.TheVariants.{No, WhileEqual}
use Rattle.decode_fields.specs.declared.place.Place.TheVariants.{Reg, Value}
use Rattle.decode_fields.specs.ModRm.{modrm_length, place_of}
use Rattle.x86_decode.specs.declared.instruction.Instr.{Instr}
use Rattle.x86_decode.specs.declared.operation.Op.TheVariants.{Mov}
use Rattle.x86_decode.specs.declared.reader.Map.TheVariants.{OneByte}
use Rattle.x86_decode.specs.RowForms.{ev_gv, zb_ib}
use Rattle.x86_decode.specs.OpcodeTable.{Always, one_byte_table}
use Rattle.x86_decode.specs.Spelling.{AreBytes, Spells}
use Rattle.asm_text.specs.Assembly.{front_of, number_bytes_of, place_bytes}
use Rattle.asm_text.specs.LeastSpelling.{IsLeastSpelling, is_not_behind}

false_true : false ≡ true → ⊥
false_true h = cc

-- the order: length first, then byte by byte
shorter_first : is_not_behind (0xFF ∷ []) (0x00 ∷ (0x00 ∷ [])) ≡ true
shorter_first = refl

longer_behind : is_not_behind (0x00 ∷ (0x00 ∷ [])) (0xFF ∷ []) ≡ false
longer_behind = refl

first_decides : is_not_behind (0x89 ∷ (0xC8 ∷ [])) (0x8B ∷ (0xC1 ∷ [])) ≡ true
first_decides = refl

greater_behind : is_not_behind (0x8B ∷ (0xC1 ∷ [])) (0x89 ∷ (0xC8 ∷ [])) ≡ false
greater_behind = refl

last_decides : is_not_behind (0x48 ∷ (0x89 ∷ (0xC9 ∷ []))) (0x48 ∷ (0x89 ∷ (0xC8 ∷ []))) ≡ false
last_decides = refl

same_is_ahead : is_not_behind (0x90 ∷ []) (0x90 ∷ []) ≡ true
same_is_ahead = refl

-- prefix bytes ascend, with REX behind them; numbers have their least byte first
all_prefixes : front_of true true WhileEqual (Some 0x48) ≡ 0x66 ∷ (0xF0 ∷ (0xF3 ∷ (0x48 ∷ [])))
all_prefixes = refl

no_prefixes : front_of false false No None ≡ []
no_prefixes = refl

least_byte_first : number_bytes_of 4 0x12345678 ≡ 0x78 ∷ (0x56 ∷ (0x34 ∷ (0x12 ∷ [])))
least_byte_first = refl

-- [rsp + 8] has an SIB byte and one byte of displacement, [rip + 16] four bytes of it
on_the_stack : place_bytes 0x44 0x24 8 ≡ 0x44 ∷ (0x24 ∷ (0x08 ∷ []))
on_the_stack = refl

by_the_next : place_bytes 0x05 0 16 ≡ 0x05 ∷ (0x10 ∷ (0x00 ∷ (0x00 ∷ (0x00 ∷ []))))
by_the_next = refl

two_are : (a b : ℕ) → a < 256 → b < 256 → AreBytes (a ∷ (b ∷ []))
two_are a b first second =
    All-cons (λ n. n < 256) a (b ∷ []) first (All-cons (λ n. n < 256) b [] second (All-nil (λ n. n < 256)))

-- MOV AL, 41h: B0 41, and C6 C0 41 is longer
mov_al : Instr
mov_al = record { op = Mov; width = 8; to = Reg 0; from = Value; value = 0x41; rep = No; lock = false }

al_spelled : Spells mov_al (0xB0 ∷ (0x41 ∷ []))
unfolding mov_al one_byte_table
al_spelled = record {
  parts = record { front = []; map = OneByte; opcode = 0xB0; row = record { when = Always; op = Mov; shape = zb_ib }; operands = 0x41 ∷ [] };
  fit = record { prefixes = refl; listed = (0, omega arith, refl); stands = refl; whole = refl };
  spelled = refl;
  are_bytes = two_are 0xB0 0x41 (omega arith) (omega arith);
  meaning = refl;
}

longer_refuted : IsLeastSpelling mov_al (0xC6 ∷ (0xC0 ∷ (0x41 ∷ []))) → ⊥
longer_refuted least = false_true (least.least (0xB0 ∷ (0x41 ∷ [])) al_spelled)

-- MOV EAX, ECX: 89 C8, and 8B C1 is as long but greater
mov_eax : Instr
mov_eax = record { op = Mov; width = 32; to = Reg 0; from = Reg 1; value = 0; rep = No; lock = false }

eax_spelled : Spells mov_eax (0x89 ∷ (0xC8 ∷ []))
unfolding mov_eax one_byte_table modrm_length place_of
eax_spelled = record {
  parts = record { front = []; map = OneByte; opcode = 0x89; row = record { when = Always; op = Mov; shape = ev_gv }; operands = 0xC8 ∷ [] };
  fit = record { prefixes = refl; listed = (0, omega arith, refl); stands = refl; whole = refl };
  spelled = refl;
  are_bytes = two_are 0x89 0xC8 (omega arith) (omega arith);
  meaning = refl;
}

greater_refuted : IsLeastSpelling mov_eax (0x8B ∷ (0xC1 ∷ [])) → ⊥
greater_refuted least = false_true (least.least (0x89 ∷ (0xC8 ∷ [])) eax_spelled)

-- the same with REX that says nothing is longer
rex_refuted : IsLeastSpelling mov_eax (0x40 ∷ (0x89 ∷ (0xC8 ∷ []))) → ⊥
rex_refuted least = false_true (least.least (0x89 ∷ (0xC8 ∷ [])) eax_spelled)
