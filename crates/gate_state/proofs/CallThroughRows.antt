-- The fourteen instructions of the entry and exit gates that a call runs: their bytes stand where the listing has them,
-- and decode to the instruction with the last of them.
use Rattle.std.proofs.Common.{◌≡◌, ℕ, zero, suc, ◌+◌, ◌-◌, ◌^◌, ◌<◌, Bool, true, ◌&&◌, nat_eq, nat_le, List, [], ◌∷◌, length, get_or, refl, ap, ◌∙◌, arith}
use Rattle.std.proofs.lemmas.Bool.{and_parts, eqb-true}
use Rattle.decode_fields.specs.declared.place.Place.TheVariants.{Reg, Value}
use Rattle.decode_fields.specs.ModRm.{modrm_length, place_of}
use Rattle.x86_decode.specs.declared.instruction.Instr.{Instr}
use Rattle.x86_decode.specs.declared.instruction.Decoded.TheVariants.{Whole}
use Rattle.x86_decode.specs.declared.operation.Op.TheVariants as op
use Rattle.x86_decode.specs.Grid.{entry_at, slots_from}
use Rattle.x86_decode.specs.Reader.{decoded_of}
use Rattle.gate_text.specs.GatePoints.{instruction_bytes}
use Rattle.gate_text.specs.Listing.{entry_and_exit, gate_byte, listing, trap_gate}
use Rattle.gate_state.proofs.FetchKnown.{reads_on}
use Rattle.gate_state.proofs.WindowRows.{cli, instr, jz, mov_cr0_rax, mov_rax_cr0, mov_rsp, or_eax, test_eax}

-- one general register takes what another holds
abbrev pub copy : ℕ → ℕ → Instr
copy to from = instr op.Mov 64 (Reg to) (Reg from) 0

-- EAX without WP
abbrev pub and_eax : Instr
and_eax = instr op.And 32 (Reg 0) Value 0xFFFEFFFF

-- these bytes stand in the gates' text from this offset on
abbrev stand_from : List ℕ → ℕ → Bool
stand_from [] offset = true
stand_from (byte ∷ rest) offset = nat_eq (gate_byte offset) byte && stand_from rest (offset + 1)

stands_each : (bytes : List ℕ) (offset k : ℕ) → stand_from bytes offset ≡ true → k < length bytes
    → gate_byte (offset + k) ≡ get_or bytes k 0
stands_each [] offset k stands below = absurd (omega (arith, below))
stands_each (byte ∷ rest) offset zero stands below =
    let here : offset + 0 ≡ offset = omega arith in
    let parts = and_parts (nat_eq (gate_byte offset) byte) (stand_from rest (offset + 1)) stands in
    ap gate_byte here ∙ eqb-true _ _ parts.0
stands_each (byte ∷ rest) offset (suc k) stands below =
    let next : offset + suc k ≡ offset + 1 + k = omega arith in
    let parts = and_parts (nat_eq (gate_byte offset) byte) (stand_from rest (offset + 1)) stands in
    ap gate_byte next ∙ stands_each rest (offset + 1) k parts.1 (omega (arith, below))

-- the listing's bytes at an offset, which decode to this instruction of this size
pub record IsRow (offset : ℕ) (i : Instr) (size : ℕ) : Type 0 where
  pub few : nat_le (length (instruction_bytes offset)) 15 ≡ true
  pub within : nat_le (offset + length (instruction_bytes offset)) 4096 ≡ true
  pub stands : stand_from (instruction_bytes offset) offset ≡ true
  pub reads : reads_on [] (instruction_bytes offset) ≡ true
  pub decodes : decoded_of (instruction_bytes offset) ≡ Whole i size

pub row_stands : (offset : ℕ) (i : Instr) (size : ℕ) → IsRow offset i size
    → (k : ℕ) → k < length (instruction_bytes offset)
    → gate_byte (offset + k) ≡ get_or (instruction_bytes offset) k 0
row_stands offset i size row k below = stands_each (instruction_bytes offset) offset k row.stands below

pub record AreCallRows : Type 0 where
  pub row_2 : IsRow 2 (copy 10 4) 3
  pub row_5 : IsRow 5 mov_rax_cr0 3
  pub row_8 : IsRow 8 and_eax 5
  pub row_13 : IsRow 13 mov_cr0_rax 3
  pub row_16 : IsRow 16 cli 1
  pub row_17 : IsRow 17 (mov_rsp 0xFFFFFF8000005000) 10
  pub row_29 : IsRow 29 mov_rax_cr0 3
  pub row_32 : IsRow 32 or_eax 5
  pub row_37 : IsRow 37 mov_cr0_rax 3
  pub row_40 : IsRow 40 test_eax 5
  pub row_45 : IsRow 45 (jz (2 ^ 64 - 18)) 2
  pub row_47 : IsRow 47 (copy 4 10) 3
  pub row_50 : IsRow 50 (copy 0 9) 3

pub call_rows : AreCallRows
unfolding instruction_bytes gate_byte listing entry_and_exit trap_gate entry_at slots_from modrm_length place_of
call_rows = record {
  row_2 = record { few = refl; within = refl; stands = refl; reads = refl; decodes = refl };
  row_5 = record { few = refl; within = refl; stands = refl; reads = refl; decodes = refl };
  row_8 = record { few = refl; within = refl; stands = refl; reads = refl; decodes = refl };
  row_13 = record { few = refl; within = refl; stands = refl; reads = refl; decodes = refl };
  row_16 = record { few = refl; within = refl; stands = refl; reads = refl; decodes = refl };
  row_17 = record { few = refl; within = refl; stands = refl; reads = refl; decodes = refl };
  row_29 = record { few = refl; within = refl; stands = refl; reads = refl; decodes = refl };
  row_32 = record { few = refl; within = refl; stands = refl; reads = refl; decodes = refl };
  row_37 = record { few = refl; within = refl; stands = refl; reads = refl; decodes = refl };
  row_40 = record { few = refl; within = refl; stands = refl; reads = refl; decodes = refl };
  row_45 = record { few = refl; within = refl; stands = refl; reads = refl; decodes = refl };
  row_47 = record { few = refl; within = refl; stands = refl; reads = refl; decodes = refl };
  row_50 = record { few = refl; within = refl; stands = refl; reads = refl; decodes = refl };
}
