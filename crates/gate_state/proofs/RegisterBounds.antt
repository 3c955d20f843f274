-- Registers of 64 bits stay so: after one is written, at a handler, after a return, and with a byte in AL.
use Rattle.std.proofs.Common.{◌≡◌, ℕ, ◌+◌, ◌-◌, ◌*◌, ◌/◌, ◌%◌, ◌^◌, ◌<◌, true, List, length, refl, sym, ap, subst, ◌∙◌, arith, inl, inr, get_or-set_other, get_or-set_same, length-set}
use Rattle.std.specs.Prelude.{slice_index, slice_set, ◌==◌}
use Rattle.std.proofs.lemmas.Bool.{cases_eq, eqb-true, or_cases}
use Rattle.std.proofs.lemmas.Nat.{mod_below}
use Rattle.nk_bits.specs.Paging.{is_canonical}
use Rattle.x86_regs.specs.declared.delivery.Frame.{Frame}
use Rattle.x86_regs.specs.declared.registers.Regs.{Regs}
use Rattle.x86_regs.specs.EffectsKept.{AreRegisters}
use Rattle.x86_regs.specs.Operands.{rsp, with_register}
use Rattle.trap_unit.specs.TrapDelivery.{at_handler}
use Rattle.trap_unit.specs.TrapReturn.{at_return}
use Rattle.cpu_step.specs.Turns.{with_al}

-- a list with one number replaced keeps a bound
set_bound : (xs : List ℕ) (n v k : ℕ) → n < length xs → v < 2 ^ 64 → ((j : ℕ) → slice_index xs j < 2 ^ 64) → slice_index (slice_set xs n v) k < 2 ^ 64
set_bound xs n v k within small all = elim (cases_eq k n) [
  | inl same ↦
      let P : ℕ → Type 0 = λ x. x < 2 ^ 64 in
      subst P (sym (ap (λ j. slice_index (slice_set xs n v) j) same ∙ get_or-set_same xs n v 0 within)) small
  | inr other ↦
      let P : ℕ → Type 0 = λ x. x < 2 ^ 64 in
      subst P (sym (get_or-set_other xs n k v 0 other)) (all k)
]

-- a register written whole
pub registers_with : (regs : Regs) (n value : ℕ) → n < 16 → AreRegisters regs → AreRegisters (record regs { general = with_register regs.general n value })
registers_with regs n value few are = record {
  count = length-set regs.general n _ ∙ are.count;
  bounds = λ k. set_bound regs.general n (value % 2 ^ 64) k (omega (arith, are.count)) (mod_below value (2 ^ 64) (omega arith)) are.bounds;
  rip = are.rip;
}

-- other registers, at another address
pub registers_at : (regs other : Regs) → AreRegisters regs → other.general ≡ regs.general → other.rip < 2 ^ 64 → AreRegisters other
registers_at regs other are same small = record {
  count = ap length same ∙ are.count;
  bounds = λ k. let P : List ℕ → Type 0 = λ xs. slice_index xs k < 2 ^ 64 in subst P (sym same) (are.bounds k);
  rip = small;
}

pub handler_registers : (regs : Regs) (handler top : ℕ) → AreRegisters regs → handler < 2 ^ 64 → AreRegisters (at_handler regs handler top)
handler_registers regs handler top are small =
    registers_at (record regs { general = with_register regs.general rsp top }) (at_handler regs handler top) (registers_with regs rsp top (omega arith) are) refl small

-- a canonical address has 64 bits
pub canonical_small : (va : ℕ) → is_canonical va ≡ true → va < 2 ^ 64
canonical_small va canonical = elim (or_cases (va / 2 ^ 47 == 0) (va / 2 ^ 47 == 2 ^ 17 - 1) canonical) [
  | inl low ↦ omega (arith, eqb-true (va / 2 ^ 47) 0 low)
  | inr high ↦ omega (arith, eqb-true (va / 2 ^ 47) (2 ^ 17 - 1) high)
]

pub return_registers : (regs : Regs) (frame : Frame) → AreRegisters regs → is_canonical frame.rip ≡ true → AreRegisters (at_return regs frame)
return_registers regs frame are canonical =
    registers_at (record regs { general = with_register regs.general rsp frame.rsp }) (at_return regs frame) (registers_with regs rsp frame.rsp (omega arith) are) refl (canonical_small frame.rip canonical)

-- a byte in AL keeps the bits above it
al_small : (old byte : ℕ) → old < 2 ^ 64 → old / 2 ^ 8 * 2 ^ 8 + byte % 2 ^ 8 < 2 ^ 64
al_small old byte small = omega arith

pub al_registers : (regs : Regs) (byte : ℕ) → AreRegisters regs → AreRegisters (with_al regs byte)
al_registers regs byte are = record {
  count = length-set regs.general 0 _ ∙ are.count;
  bounds = λ k. set_bound regs.general 0 (slice_index regs.general 0 / 2 ^ 8 * 2 ^ 8 + byte % 2 ^ 8) k (omega (arith, are.count)) (al_small (slice_index regs.general 0) byte (are.bounds 0)) are.bounds;
  rip = are.rip;
}
