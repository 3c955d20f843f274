-- Gate points, openings, registers of control and states that aren't what the invariant says of them, each named by the
-- sentence that it guards.
use Rattle.std.proofs.Common.{◌≡◌, ◌+◌, ◌/◌, ◌%◌, ◌^◌, ◌≤◌, ℕ, true, false, inl, inr, sym, ◌∙◌, arith}
use Rattle.std.proofs.lemmas.Bool.{false≢true}
use Rattle.nk_bits.specs.KernelLayout.{gate_address}
use Rattle.decode_fields.specs.Protected.{is_protected_at}
use Rattle.byte_scanner.specs.ImageCode.{code_at}
use Rattle.gate_text.specs.GatePoints.{is_point}
use Rattle.page_desc.specs.PageTables.{HoldsSoundTables}
use Rattle.cpu_step.specs.Processor.{Processor}
use Rattle.gate_state.specs.GateCalls.{IsCalling}
use Rattle.gate_state.specs.GateWindow.{IsAtPoint}
use Rattle.gate_state.specs.GuardedStates.{IsAdmitted, IsControlled, IsCr0, IsGuarded, KeepsOpeningBytes}
use Rattle.gate_state.specs.MachineStates.{MachineState, Opening}
use Rattle.gate_state.proofs.RefutedLeaves.{cr0_without_paging_is_not_lawful}

-- a user, a processor that is halted, and one elsewhere; and an offset that is no point
module _ (offset : ℕ) (p : Processor) (it : IsAtPoint offset p) where
  user_at_a_point : p.regs.cpl ≡ 3 → ⊥
  user_at_a_point is = let kernel = it.supervisor in omega (arith, is, kernel)

  halted_at_a_point : p.halted ≡ true → ⊥
  halted_at_a_point is = false≢true (sym it.runs ∙ is)

  beside_the_point : p.regs.rip ≡ gate_address + offset + 1 → ⊥
  beside_the_point is = let stands = it.rip in omega (arith, is, stands)

  at_no_point : is_point offset ≡ false → ⊥
  at_no_point none = false≢true (sym none ∙ it.point)

-- a caller that is halted
halted_caller : (p : Processor) → IsCalling p → p.halted ≡ true → ⊥
halted_caller p it is = false≢true (sym it.runs ∙ is)

-- an image with a protected encoding in its code
unclean_opening : (o : Opening) (place : ℕ) → is_protected_at (code_at o.image) place ≡ true → IsAdmitted o → ⊥
unclean_opening o place stands it = false≢true (sym (it.clean place) ∙ stands)

-- CR0 with NW and without CD, and with EM
write_through_without_cd : IsCr0 0xA0010001 → ⊥
write_through_without_cd (inl is) = omega (arith, is)
write_through_without_cd (inr (inl is)) = omega (arith, is)
write_through_without_cd (inr (inr (inl is))) = omega (arith, is)
write_through_without_cd (inr (inr (inr (inl is)))) = omega (arith, is)
write_through_without_cd (inr (inr (inr (inr (inl is))))) = omega (arith, is)
write_through_without_cd (inr (inr (inr (inr (inr is))))) = omega (arith, is)

emulated : IsCr0 0x80010005 → ⊥
emulated (inl is) = omega (arith, is)
emulated (inr (inl is)) = omega (arith, is)
emulated (inr (inr (inl is))) = omega (arith, is)
emulated (inr (inr (inr (inl is)))) = omega (arith, is)
emulated (inr (inr (inr (inr (inl is))))) = omega (arith, is)
emulated (inr (inr (inr (inr (inr is))))) = omega (arith, is)

module _ (p : Processor) (it : IsControlled p) where
  unpaged : p.control.cr0 / 2 ^ 31 % 2 ≡ 0 → ⊥
  unpaged clear = cr0_without_paging_is_not_lawful p.control.cr0 clear it.cr0

  wide_instruction_pointer : 2 ^ 64 ≤ p.regs.rip → ⊥
  wide_instruction_pointer wide = let small = it.registers.rip in omega (arith, wide, small)

module _ (o : Opening) (s : MachineState) (it : IsGuarded o s) where
  -- tables that aren't sound, and bytes of the opening that changed
  unsound_tables : (HoldsSoundTables s.kinds s.processor.control.root s.memory → ⊥) → ⊥
  unsound_tables none = none it.tables

  changed_memory : (KeepsOpeningBytes o s.kinds s.memory → ⊥) → ⊥
  changed_memory none = none it.memory
