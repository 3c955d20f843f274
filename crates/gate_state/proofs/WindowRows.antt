-- What the decoder reads at each gate point, and that the listing has those rows there.
use Rattle.std.proofs.Common.{◌≡◌, ℕ, zero, suc, ◌+◌, ◌-◌, ◌*◌, ◌^◌, ◌<◌, ◌≤◌, true, false, refl, [], ◌∷◌, inl, inr, arith, subst, sym}
use Rattle.std.specs.Prelude.{⊤}
use Rattle.std.proofs.lemmas.Bool.{cases_eq}
use Rattle.decode_fields.specs.declared.parts.Rep.TheVariants.{No}
use Rattle.decode_fields.specs.declared.place.Place.{Place}
use Rattle.decode_fields.specs.declared.place.Place.TheVariants.{Nothing, Reg, Value}
use Rattle.decode_fields.specs.ModRm.{modrm_length, place_of}
use Rattle.x86_decode.specs.declared.instruction.Instr.{Instr}
use Rattle.x86_decode.specs.declared.instruction.Decoded.TheVariants.{Whole}
use Rattle.x86_decode.specs.declared.operation.Op.{Op}
use Rattle.x86_decode.specs.declared.operation.Op.TheVariants as op
use Rattle.x86_decode.specs.Grid.{entry_at, slots_from}
use Rattle.x86_decode.specs.Reader.{decoded_of}
use Rattle.gate_text.specs.GatePoints.{instruction_bytes, is_point}
use Rattle.gate_text.specs.Listing.{entry_and_exit, listing, trap_gate}

-- an instruction that is neither repeated nor locked, with its width, its operands and its number
abbrev pub instr : Op → ℕ → Place → Place → ℕ → Instr
instr op width to from value =
    record { op = op; width = width; to = to; from = from; value = value; rep = No; lock = false }

abbrev pub cli : Instr
cli = instr op.Cli 64 Nothing Nothing 0

abbrev pub mov_rsp : ℕ → Instr
mov_rsp value = instr op.Mov 64 (Reg 4) Value value

abbrev pub mov_rax_cr0 : Instr
mov_rax_cr0 = instr op.Movfc 64 (Reg 0) Nothing 0

abbrev pub or_eax : Instr
or_eax = instr op.Or 32 (Reg 0) Value 0x10000

abbrev pub mov_cr0_rax : Instr
mov_cr0_rax = instr op.Movtc 64 Nothing (Reg 0) 0

abbrev pub test_eax : Instr
test_eax = instr op.Test 32 (Reg 0) Value 0x10000

abbrev pub jz : ℕ → Instr
jz by = instr (op.J 4) 64 Nothing Value by

abbrev pub jmp : ℕ → Instr
jmp by = instr op.Jmp 64 Nothing Value by

abbrev pub push_value : ℕ → Instr
push_value value = instr op.Push 64 Nothing Value value

abbrev pub push_rax : Instr
push_rax = instr op.Push 64 Nothing (Reg 0) 0

-- a load of CR0, by its bytes
pub load_bytes : decoded_of (0x0F ∷ 0x22 ∷ 0xC0 ∷ []) ≡ Whole mov_cr0_rax 3
unfolding entry_at slots_from modrm_length place_of
load_bytes = refl

-- the rows but those of the stubs
pub record AreRows : Type 0 where
  pub row_16 : decoded_of (instruction_bytes 16) ≡ Whole cli 1
  pub row_17 : decoded_of (instruction_bytes 17) ≡ Whole (mov_rsp 0xFFFFFF8000005000) 10
  pub row_29 : decoded_of (instruction_bytes 29) ≡ Whole mov_rax_cr0 3
  pub row_32 : decoded_of (instruction_bytes 32) ≡ Whole or_eax 5
  pub row_37 : decoded_of (instruction_bytes 37) ≡ Whole mov_cr0_rax 3
  pub row_40 : decoded_of (instruction_bytes 40) ≡ Whole test_eax 5
  pub row_45 : decoded_of (instruction_bytes 45) ≡ Whole (jz (2 ^ 64 - 18)) 2
  pub row_448 : decoded_of (instruction_bytes 448) ≡ Whole push_rax 1
  pub row_449 : decoded_of (instruction_bytes 449) ≡ Whole mov_rax_cr0 3
  pub row_452 : decoded_of (instruction_bytes 452) ≡ Whole or_eax 5
  pub row_457 : decoded_of (instruction_bytes 457) ≡ Whole mov_cr0_rax 3
  pub row_460 : decoded_of (instruction_bytes 460) ≡ Whole test_eax 5
  pub row_465 : decoded_of (instruction_bytes 465) ≡ Whole (jz (2 ^ 64 - 18)) 2

pub rows : AreRows
unfolding instruction_bytes listing entry_and_exit trap_gate entry_at slots_from modrm_length place_of
rows = record {
  row_16 = refl;
  row_17 = refl;
  row_29 = refl;
  row_32 = refl;
  row_37 = refl;
  row_40 = refl;
  row_45 = refl;
  row_448 = refl;
  row_449 = refl;
  row_452 = refl;
  row_457 = refl;
  row_460 = refl;
  row_465 = refl;
}

-- what holds of each number below n
abbrev pub Below : (ℕ → Type 0) → ℕ → Type 0
Below P zero = ⊤
Below P (suc n) = P n × Below P n

pub below_at : (P : ℕ → Type 0) (n k : ℕ) → Below P n → k < n → P k
below_at P zero k all within = absurd (omega arith)
below_at P (suc n) k all within = elim (cases_eq k n) [
  | inl here ↦ subst P (sym here) all.0
  | inr before ↦ below_at P n k all.1 (omega arith)
]

-- the stub of vector v: PUSH v, and JMP to the trap gate
abbrev pub Pushes : ℕ → Type 0
Pushes v = decoded_of (instruction_bytes (64 + 8 * v)) ≡ Whole (push_value v) 2

abbrev pub Jumps : ℕ → Type 0
Jumps v = decoded_of (instruction_bytes (66 + 8 * v)) ≡ Whole (jmp (377 - 8 * v)) 5

abbrev pub ArePoints : ℕ → Type 0
ArePoints v = (is_point (64 + 8 * v) ≡ true) × (is_point (66 + 8 * v) ≡ true)

all_push : Below (λ k. Pushes (32 + k)) 16
unfolding instruction_bytes listing entry_and_exit trap_gate entry_at slots_from modrm_length place_of
all_push = (
  refl,
  (
    refl,
    (
      refl,
      (
        refl,
        (
          refl,
          (
            refl,
            (
              refl,
              (
                refl,
                (refl, (refl, (refl, (refl, (refl, (refl, (refl, (refl, tt)))))))),
              ),
            ),
          ),
        ),
      ),
    ),
  ),
)

all_jump : Below (λ k. Jumps (32 + k)) 16
unfolding instruction_bytes listing entry_and_exit trap_gate entry_at slots_from modrm_length place_of
all_jump = (
  refl,
  (
    refl,
    (
      refl,
      (
        refl,
        (
          refl,
          (
            refl,
            (
              refl,
              (
                refl,
                (refl, (refl, (refl, (refl, (refl, (refl, (refl, (refl, tt)))))))),
              ),
            ),
          ),
        ),
      ),
    ),
  ),
)

all_points : Below (λ k. ArePoints (32 + k)) 16
unfolding is_point
all_points =
    let both : (true ≡ true) × (true ≡ true) = (refl, refl) in (
      both,
      (
        both,
        (
          both,
          (
            both,
            (
              both,
              (
                both,
                (
                  both,
                  (
                    both,
                    (both, (both, (both, (both, (both, (both, (both, (both, tt)))))))),
                  ),
                ),
              ),
            ),
          ),
        ),
      ),
    )

-- what holds of sixteen numbers from 32 on
pub from_32 : (P : ℕ → Type 0) → Below (λ k. P (32 + k)) 16 → (v : ℕ) → 32 ≤ v → v < 48 → P v
from_32 P all v low high =
    let back : 32 + (v - 32) ≡ v = omega arith in
    subst P back (below_at (λ k. P (32 + k)) 16 (v - 32) all (omega arith))

pub stub_push : (v : ℕ) → 32 ≤ v → v < 48 → Pushes v
stub_push v low high = from_32 Pushes all_push v low high

pub stub_jump : (v : ℕ) → 32 ≤ v → v < 48 → Jumps v
stub_jump v low high = from_32 Jumps all_jump v low high

pub stub_points : (v : ℕ) → 32 ≤ v → v < 48 → ArePoints v
stub_points v low high = from_32 ArePoints all_points v low high
