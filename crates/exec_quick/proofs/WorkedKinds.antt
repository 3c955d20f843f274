-- Kinds of one operation and width at worked values: what bytes decode to, by the opcode tables of SDM volume 2, is the
-- instruction that a quick form of the kind means, whose own operation and width, another's, don't count. RAX is
-- register 0, RBX is register 3, and memory is at [RBX].
use Rattle.std.proofs.Common.{◌≡◌, ℕ, false, List, [], ◌∷◌, inl, inr, refl, ap, arith}
use Rattle.decode_fields.specs.declared.place.Address.{Address}
use Rattle.decode_fields.specs.declared.place.Place.{Place}
use Rattle.decode_fields.specs.declared.place.Place.TheVariants.{Mem, Nothing, Reg}
use Rattle.decode_fields.specs.declared.parts.Rep.TheVariants.{No}
use Rattle.decode_fields.specs.ModRm.{modrm_length, place_of}
use Rattle.x86_decode.specs.declared.instruction.Decoded.{Decoded}
use Rattle.x86_decode.specs.declared.instruction.Decoded.TheVariants.{Whole}
use Rattle.x86_decode.specs.declared.operation.Op.{Op}
use Rattle.x86_decode.specs.declared.operation.Op.TheVariants as op
use Rattle.x86_decode.specs.Grid.{entry_at, slots_from}
use Rattle.x86_decode.specs.Reader.{decoded_of}
use Rattle.x86_regs.specs.Effects.{refusal}
use Rattle.exec_quick.specs.declared.quick.Kind.{Kind}
use Rattle.exec_quick.specs.declared.quick.Kind.TheVariants as kind
use Rattle.exec_quick.specs.declared.quick.Quick.{Quick}
use Rattle.exec_quick.specs.QuickForms.{StandsFor, instruction_of, quick_address}

-- a quick form of a kind and size with these operands and this number, whose own operation is HLT at sixteen bits
abbrev form : Kind → ℕ → ℕ → ℕ → ℕ → Quick
form kind size to from value = record {
  kind = kind;
  op = op.Hlt;
  width = 16;
  size = size;
  at = 0;
  to = to;
  from = from;
  base = 3;
  index = 16;
  scale = 1;
  follows_rip = false;
  displacement = 0;
  value = value;
  rep = No;
}

-- the bytes decode to what the form means
abbrev IsDecoded : List ℕ → Quick → Type 0
IsDecoded bytes q = decoded_of bytes ≡ Whole (instruction_of q) q.size

-- over a register: ADD, SUB, AND, OR, XOR, ADC and SBB of RBX and RAX, and of EBX and EAX
combined : IsDecoded (0x48 ∷ 0x01 ∷ 0xC3 ∷ []) (form kind.Add64 3 3 0 0)
    × IsDecoded (0x01 ∷ 0xC3 ∷ []) (form kind.Add32 2 3 0 0)
    × IsDecoded (0x48 ∷ 0x29 ∷ 0xC3 ∷ []) (form kind.Sub64 3 3 0 0)
    × IsDecoded (0x29 ∷ 0xC3 ∷ []) (form kind.Sub32 2 3 0 0)
    × IsDecoded (0x48 ∷ 0x21 ∷ 0xC3 ∷ []) (form kind.And64 3 3 0 0)
    × IsDecoded (0x21 ∷ 0xC3 ∷ []) (form kind.And32 2 3 0 0)
    × IsDecoded (0x48 ∷ 0x09 ∷ 0xC3 ∷ []) (form kind.Or64 3 3 0 0)
    × IsDecoded (0x09 ∷ 0xC3 ∷ []) (form kind.Or32 2 3 0 0)
    × IsDecoded (0x48 ∷ 0x31 ∷ 0xC3 ∷ []) (form kind.Xor64 3 3 0 0)
    × IsDecoded (0x31 ∷ 0xC3 ∷ []) (form kind.Xor32 2 3 0 0)
    × IsDecoded (0x48 ∷ 0x11 ∷ 0xC3 ∷ []) (form kind.Adc64 3 3 0 0)
    × IsDecoded (0x11 ∷ 0xC3 ∷ []) (form kind.Adc32 2 3 0 0)
    × IsDecoded (0x48 ∷ 0x19 ∷ 0xC3 ∷ []) (form kind.Sbb64 3 3 0 0)
    × IsDecoded (0x19 ∷ 0xC3 ∷ []) (form kind.Sbb32 2 3 0 0)
unfolding entry_at slots_from modrm_length place_of
combined = (refl, refl, refl, refl, refl, refl, refl, refl, refl, refl, refl, refl, refl, refl)

-- INC, DEC, NEG and NOT of RBX and of EBX, whose digit stands in ModRM
alone : IsDecoded (0x48 ∷ 0xFF ∷ 0xC3 ∷ []) (form kind.Inc64 3 3 17 0)
    × IsDecoded (0xFF ∷ 0xC3 ∷ []) (form kind.Inc32 2 3 17 0)
    × IsDecoded (0x48 ∷ 0xFF ∷ 0xCB ∷ []) (form kind.Dec64 3 3 17 0)
    × IsDecoded (0xFF ∷ 0xCB ∷ []) (form kind.Dec32 2 3 17 0)
    × IsDecoded (0x48 ∷ 0xF7 ∷ 0xDB ∷ []) (form kind.Neg64 3 3 17 0)
    × IsDecoded (0xF7 ∷ 0xDB ∷ []) (form kind.Neg32 2 3 17 0)
    × IsDecoded (0x48 ∷ 0xF7 ∷ 0xD3 ∷ []) (form kind.Not64 3 3 17 0)
    × IsDecoded (0xF7 ∷ 0xD3 ∷ []) (form kind.Not32 2 3 17 0)
unfolding entry_at slots_from modrm_length place_of
alone = (refl, refl, refl, refl, refl, refl, refl, refl)

-- SHL, SHR, SAR, ROL and ROR of RBX and of EBX by five
shifted : IsDecoded (0x48 ∷ 0xC1 ∷ 0xE3 ∷ 0x05 ∷ []) (form kind.Shl64 4 3 16 5)
    × IsDecoded (0xC1 ∷ 0xE3 ∷ 0x05 ∷ []) (form kind.Shl32 3 3 16 5)
    × IsDecoded (0x48 ∷ 0xC1 ∷ 0xEB ∷ 0x05 ∷ []) (form kind.Shr64 4 3 16 5)
    × IsDecoded (0xC1 ∷ 0xEB ∷ 0x05 ∷ []) (form kind.Shr32 3 3 16 5)
    × IsDecoded (0x48 ∷ 0xC1 ∷ 0xFB ∷ 0x05 ∷ []) (form kind.Sar64 4 3 16 5)
    × IsDecoded (0xC1 ∷ 0xFB ∷ 0x05 ∷ []) (form kind.Sar32 3 3 16 5)
    × IsDecoded (0x48 ∷ 0xC1 ∷ 0xC3 ∷ 0x05 ∷ []) (form kind.Rol64 4 3 16 5)
    × IsDecoded (0xC1 ∷ 0xC3 ∷ 0x05 ∷ []) (form kind.Rol32 3 3 16 5)
    × IsDecoded (0x48 ∷ 0xC1 ∷ 0xCB ∷ 0x05 ∷ []) (form kind.Ror64 4 3 16 5)
    × IsDecoded (0xC1 ∷ 0xCB ∷ 0x05 ∷ []) (form kind.Ror32 3 3 16 5)
unfolding entry_at slots_from modrm_length place_of
shifted = (refl, refl, refl, refl, refl, refl, refl, refl, refl, refl)

-- RAX and EAX with the number at [RBX]
combined_with_memory : IsDecoded (0x48 ∷ 0x03 ∷ 0x03 ∷ []) (form kind.AddLoad64 3 0 17 0)
    × IsDecoded (0x03 ∷ 0x03 ∷ []) (form kind.AddLoad32 2 0 17 0)
    × IsDecoded (0x48 ∷ 0x2B ∷ 0x03 ∷ []) (form kind.SubLoad64 3 0 17 0)
    × IsDecoded (0x2B ∷ 0x03 ∷ []) (form kind.SubLoad32 2 0 17 0)
    × IsDecoded (0x48 ∷ 0x23 ∷ 0x03 ∷ []) (form kind.AndLoad64 3 0 17 0)
    × IsDecoded (0x23 ∷ 0x03 ∷ []) (form kind.AndLoad32 2 0 17 0)
    × IsDecoded (0x48 ∷ 0x0B ∷ 0x03 ∷ []) (form kind.OrLoad64 3 0 17 0)
    × IsDecoded (0x0B ∷ 0x03 ∷ []) (form kind.OrLoad32 2 0 17 0)
    × IsDecoded (0x48 ∷ 0x33 ∷ 0x03 ∷ []) (form kind.XorLoad64 3 0 17 0)
    × IsDecoded (0x33 ∷ 0x03 ∷ []) (form kind.XorLoad32 2 0 17 0)
unfolding entry_at slots_from modrm_length place_of
combined_with_memory = (refl, refl, refl, refl, refl, refl, refl, refl, refl, refl)

-- the number at [RBX] with RAX, EAX and AL, and with one
combined_in_memory : IsDecoded (0x48 ∷ 0x01 ∷ 0x03 ∷ []) (form kind.AddStore64 3 17 0 0)
    × IsDecoded (0x01 ∷ 0x03 ∷ []) (form kind.AddStore32 2 17 0 0)
    × IsDecoded (0x48 ∷ 0x29 ∷ 0x03 ∷ []) (form kind.SubStore64 3 17 0 0)
    × IsDecoded (0x29 ∷ 0x03 ∷ []) (form kind.SubStore32 2 17 0 0)
    × IsDecoded (0x48 ∷ 0x21 ∷ 0x03 ∷ []) (form kind.AndStore64 3 17 0 0)
    × IsDecoded (0x21 ∷ 0x03 ∷ []) (form kind.AndStore32 2 17 0 0)
    × IsDecoded (0x48 ∷ 0x09 ∷ 0x03 ∷ []) (form kind.OrStore64 3 17 0 0)
    × IsDecoded (0x09 ∷ 0x03 ∷ []) (form kind.OrStore32 2 17 0 0)
    × IsDecoded (0x48 ∷ 0xFF ∷ 0x03 ∷ []) (form kind.IncStore64 3 17 17 0)
    × IsDecoded (0xFF ∷ 0x03 ∷ []) (form kind.IncStore32 2 17 17 0)
    × IsDecoded (0xFE ∷ 0x03 ∷ []) (form kind.IncStore8 2 17 17 0)
    × IsDecoded (0x48 ∷ 0xFF ∷ 0x0B ∷ []) (form kind.DecStore64 3 17 17 0)
    × IsDecoded (0xFF ∷ 0x0B ∷ []) (form kind.DecStore32 2 17 17 0)
    × IsDecoded (0xFE ∷ 0x0B ∷ []) (form kind.DecStore8 2 17 17 0)
    × IsDecoded (0x20 ∷ 0x03 ∷ []) (form kind.AndStore8 2 17 0 0)
    × IsDecoded (0x08 ∷ 0x03 ∷ []) (form kind.OrStore8 2 17 0 0)
unfolding entry_at slots_from modrm_length place_of
combined_in_memory = (refl, refl, refl, refl, refl, refl, refl, refl, refl, refl, refl, refl, refl, refl, refl, refl)

-- CMP and TEST of registers
compared : IsDecoded (0x48 ∷ 0x39 ∷ 0xC3 ∷ []) (form kind.Cmp64 3 3 0 0)
    × IsDecoded (0x39 ∷ 0xC3 ∷ []) (form kind.Cmp32 2 3 0 0)
    × IsDecoded (0x48 ∷ 0x85 ∷ 0xC3 ∷ []) (form kind.Test64 3 3 0 0)
    × IsDecoded (0x85 ∷ 0xC3 ∷ []) (form kind.Test32 2 3 0 0)
    × IsDecoded (0x38 ∷ 0xC3 ∷ []) (form kind.Cmp8 2 3 0 0)
    × IsDecoded (0x84 ∷ 0xC3 ∷ []) (form kind.Test8 2 3 0 0)
unfolding entry_at slots_from modrm_length place_of
compared = (refl, refl, refl, refl, refl, refl)

-- the same with the number at [RBX], as the second operand and as the first
compared_with_memory : IsDecoded (0x48 ∷ 0x3B ∷ 0x03 ∷ []) (form kind.CmpLoad64 3 0 17 0)
    × IsDecoded (0x3B ∷ 0x03 ∷ []) (form kind.CmpLoad32 2 0 17 0)
    × IsDecoded (0x3A ∷ 0x03 ∷ []) (form kind.CmpLoad8 2 0 17 0)
    × IsDecoded (0x48 ∷ 0x39 ∷ 0x03 ∷ []) (form kind.CmpStore64 3 17 0 0)
    × IsDecoded (0x39 ∷ 0x03 ∷ []) (form kind.CmpStore32 2 17 0 0)
    × IsDecoded (0x38 ∷ 0x03 ∷ []) (form kind.CmpStore8 2 17 0 0)
    × IsDecoded (0x48 ∷ 0x85 ∷ 0x03 ∷ []) (form kind.TestStore64 3 17 0 0)
    × IsDecoded (0x85 ∷ 0x03 ∷ []) (form kind.TestStore32 2 17 0 0)
    × IsDecoded (0x84 ∷ 0x03 ∷ []) (form kind.TestStore8 2 17 0 0)
unfolding entry_at slots_from modrm_length place_of
compared_with_memory = (refl, refl, refl, refl, refl, refl, refl, refl, refl)

-- moves between registers, MOVZX, MOVSX and MOVSXD among them
moved : IsDecoded (0x48 ∷ 0x89 ∷ 0xC3 ∷ []) (form kind.Mov64 3 3 0 0)
    × IsDecoded (0x89 ∷ 0xC3 ∷ []) (form kind.Mov32 2 3 0 0)
    × IsDecoded (0x0F ∷ 0xB6 ∷ 0xC3 ∷ []) (form kind.MovzxByte32 3 0 3 0)
    × IsDecoded (0x0F ∷ 0xB7 ∷ 0xC3 ∷ []) (form kind.MovzxWord32 3 0 3 0)
    × IsDecoded (0x48 ∷ 0x0F ∷ 0xBE ∷ 0xC3 ∷ []) (form kind.MovsxByte64 4 0 3 0)
    × IsDecoded (0x0F ∷ 0xBE ∷ 0xC3 ∷ []) (form kind.MovsxByte32 3 0 3 0)
    × IsDecoded (0x48 ∷ 0x0F ∷ 0xBF ∷ 0xC3 ∷ []) (form kind.MovsxWord64 4 0 3 0)
    × IsDecoded (0x0F ∷ 0xBF ∷ 0xC3 ∷ []) (form kind.MovsxWord32 3 0 3 0)
    × IsDecoded (0x48 ∷ 0x63 ∷ 0xC3 ∷ []) (form kind.Movsxd64 3 0 3 0)
unfolding entry_at slots_from modrm_length place_of
moved = (refl, refl, refl, refl, refl, refl, refl, refl, refl)

-- the same from [RBX]
loaded : IsDecoded (0x48 ∷ 0x8B ∷ 0x03 ∷ []) (form kind.Load64 3 0 17 0)
    × IsDecoded (0x8B ∷ 0x03 ∷ []) (form kind.Load32 2 0 17 0)
    × IsDecoded (0x8A ∷ 0x03 ∷ []) (form kind.Load8 2 0 17 0)
    × IsDecoded (0x0F ∷ 0xB6 ∷ 0x03 ∷ []) (form kind.LoadByte 3 0 17 0)
    × IsDecoded (0x0F ∷ 0xB7 ∷ 0x03 ∷ []) (form kind.MovzxWordLoad32 3 0 17 0)
    × IsDecoded (0x48 ∷ 0x0F ∷ 0xBE ∷ 0x03 ∷ []) (form kind.MovsxByteLoad64 4 0 17 0)
    × IsDecoded (0x0F ∷ 0xBE ∷ 0x03 ∷ []) (form kind.MovsxByteLoad32 3 0 17 0)
    × IsDecoded (0x48 ∷ 0x0F ∷ 0xBF ∷ 0x03 ∷ []) (form kind.MovsxWordLoad64 4 0 17 0)
    × IsDecoded (0x0F ∷ 0xBF ∷ 0x03 ∷ []) (form kind.MovsxWordLoad32 3 0 17 0)
    × IsDecoded (0x48 ∷ 0x63 ∷ 0x03 ∷ []) (form kind.MovsxdLoad64 3 0 17 0)
unfolding entry_at slots_from modrm_length place_of
loaded = (refl, refl, refl, refl, refl, refl, refl, refl, refl, refl)

-- MOV to [RBX] at four widths
stored : IsDecoded (0x48 ∷ 0x89 ∷ 0x03 ∷ []) (form kind.Store64 3 17 0 0)
    × IsDecoded (0x89 ∷ 0x03 ∷ []) (form kind.Store32 2 17 0 0)
    × IsDecoded (0x66 ∷ 0x89 ∷ 0x03 ∷ []) (form kind.Store16 3 17 0 0)
    × IsDecoded (0x88 ∷ 0x03 ∷ []) (form kind.Store8 2 17 0 0)
unfolding entry_at slots_from modrm_length place_of
stored = (refl, refl, refl, refl)

-- the same with an operation and a width of its own, where the kind says one of the two alone
abbrev own : Quick → Op → ℕ → Quick
own q operation width = record q { op = operation; width = width }

-- PUSH and POP of RBX, whose kind says 64 bits
stacked_64 : IsDecoded (0x53 ∷ []) (own (form kind.Push64 1 17 3 0) op.Push 16)
    × IsDecoded (0x5B ∷ []) (own (form kind.Pop64 1 3 17 0) op.Pop 16)
unfolding entry_at slots_from modrm_length place_of
stacked_64 = (refl, refl)

-- JMP, ten conditional branches and LOOP, by five bytes on, at 64 bits
branched : IsDecoded (0xEB ∷ 0x05 ∷ []) (own (form kind.Jump 2 17 16 5) op.Hlt 64)
    × IsDecoded (0x72 ∷ 0x05 ∷ []) (own (form kind.JumpBelow 2 17 16 5) op.Hlt 64)
    × IsDecoded (0x73 ∷ 0x05 ∷ []) (own (form kind.JumpNotBelow 2 17 16 5) op.Hlt 64)
    × IsDecoded (0x74 ∷ 0x05 ∷ []) (own (form kind.JumpZero 2 17 16 5) op.Hlt 64)
    × IsDecoded (0x75 ∷ 0x05 ∷ []) (own (form kind.JumpNotZero 2 17 16 5) op.Hlt 64)
    × IsDecoded (0x76 ∷ 0x05 ∷ []) (own (form kind.JumpNotAbove 2 17 16 5) op.Hlt 64)
    × IsDecoded (0x77 ∷ 0x05 ∷ []) (own (form kind.JumpAbove 2 17 16 5) op.Hlt 64)
    × IsDecoded (0x7C ∷ 0x05 ∷ []) (own (form kind.JumpLess 2 17 16 5) op.Hlt 64)
    × IsDecoded (0x7D ∷ 0x05 ∷ []) (own (form kind.JumpNotLess 2 17 16 5) op.Hlt 64)
    × IsDecoded (0x7E ∷ 0x05 ∷ []) (own (form kind.JumpNotGreater 2 17 16 5) op.Hlt 64)
    × IsDecoded (0x7F ∷ 0x05 ∷ []) (own (form kind.JumpGreater 2 17 16 5) op.Hlt 64)
    × IsDecoded (0xE2 ∷ 0x05 ∷ []) (own (form kind.Loop 2 17 16 5) op.Hlt 64)
unfolding entry_at slots_from modrm_length place_of
branched = (refl, refl, refl, refl, refl, refl, refl, refl, refl, refl, refl, refl)

-- CLI of 64 bits, as the row without operands says
cleared : IsDecoded (0xFA ∷ []) (own (form kind.ClearInterrupts 1 17 17 0) op.Hlt 64)
unfolding entry_at slots_from modrm_length place_of
cleared = refl

-- a whole quick form: ADD RBX, RAX, at every CPL; and CLI at CPL 0
add_stands : StandsFor (form kind.Add64 3 3 0 0) (decoded_of (0x48 ∷ 0x01 ∷ 0xC3 ∷ []))
unfolding entry_at slots_from modrm_length place_of
add_stands = record {
  means = refl;
  ready = record {
    width = inr (inl refl);
    to = omega arith;
    from = omega arith;
    base = omega arith;
    index = omega arith;
  };
  register = λ first. omega arith;
  form = refl;
  lawful = λ cpl supervisor. refl;
}

abbrev cli : Quick
cli = own (form kind.ClearInterrupts 1 17 17 0) op.Hlt 64

cli_stands : StandsFor cli (decoded_of (0xFA ∷ []))
unfolding entry_at slots_from modrm_length place_of
cli_stands = record {
  means = refl;
  ready = record {
    width = inr (inr (inr refl));
    to = omega arith;
    from = omega arith;
    base = omega arith;
    index = omega arith;
  };
  register = λ first. absurd (cc);
  form = refl;
  lawful = λ cpl supervisor. ap (refusal (instruction_of cli)) (supervisor refl);
}

-- RBX and RAX aren't EBX and EAX, and the first operand is no memory
abbrev width_of : Decoded → ℕ
width_of (Whole instr size) = instr.width
width_of _ = 0

abbrev first_of : Decoded → Place
first_of (Whole instr size) = instr.to
first_of _ = Nothing

narrower : IsDecoded (0x48 ∷ 0x01 ∷ 0xC3 ∷ []) (form kind.Add32 3 3 0 0) → ⊥
unfolding entry_at slots_from modrm_length place_of
narrower it = let same : 64 ≡ 32 = ap width_of it in absurd (omega (arith, same))

no_memory : (address : Address) → Reg 3 ≡ Mem address → ⊥
no_memory address e = cc

in_memory : IsDecoded (0x48 ∷ 0x01 ∷ 0xC3 ∷ []) (form kind.AddStore64 3 17 0 0) → ⊥
unfolding entry_at slots_from modrm_length place_of
in_memory it = no_memory (quick_address (form kind.AddStore64 3 17 0 0)) (ap first_of it)
