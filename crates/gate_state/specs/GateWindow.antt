-- The gate points: where the supervisor may stand with WP clear, and what its registers are there.
use Rattle.std.specs.Prelude.{◌≡◌, ℕ, ◌+◌, ◌%◌, Bool, true, false, not, ◌==◌, ◌&&◌, ◌||◌, if◌then◌else◌, slice_index, ◌-◌}
use Rattle.x86_alu.specs.SignedNumbers.{bit}
use Rattle.x86_alu.specs.Flags.{zero_flag, with_flag}
use Rattle.x86_regs.specs.Combinations.{interrupt_flag}
use Rattle.x86_regs.specs.Operands.{rax, rsp}
use Rattle.cpu_step.specs.Processor.{Processor}
use Rattle.gate_text.specs.GatePoints.{is_point}
use Rattle.nk_bits.specs.KernelLayout.{gate_address, nested_stack_top, trap_stack_top}

-- no interrupt is delivered: IF is clear
abbrev pub is_uninterrupted : Processor → Bool
is_uninterrupted p = not (bit p.regs.flags interrupt_flag)

-- RSP holds this address
abbrev pub stands_on : ℕ → Processor → Bool
stands_on address p = slice_index p.regs.general rsp == address

-- RAX holds this number
abbrev pub has_rax : ℕ → Processor → Bool
has_rax number p = slice_index p.regs.general rax == number

-- what holds at each gate point besides: in the entry gate; where CR0 was read, where WP was set in RAX, where that was
-- loaded, and where it was tested; in the stub of a vector; at the beginning of the trap gate
abbrev pub holds_at : ℕ → Processor → Bool
holds_at offset p =
    if offset == 16 then true
    else if offset == 17 then is_uninterrupted p
    else if offset == 27 then is_uninterrupted p && stands_on nested_stack_top p
    else if offset == 29 || offset == 449 then true
    else if offset == 32 || offset == 452 then has_rax p.control.cr0 p
    else if offset == 37 || offset == 457 then has_rax (with_flag 16 true p.control.cr0) p
    else if offset == 40 || offset == 460 then not (bit (slice_index p.regs.general rax) 16)
    else if offset == 45 || offset == 465 then bit p.regs.flags zero_flag
    else if offset == 448 then is_uninterrupted p && stands_on (trap_stack_top - 48) p
    else if offset % 8 == 0 then is_uninterrupted p && stands_on (trap_stack_top - 40) p
    else is_uninterrupted p && stands_on (trap_stack_top - 48) p

-- the supervisor stands at a gate point, at this offset of the gates' text, and isn't halted
pub record IsAtPoint (offset : ℕ) (p : Processor) : Type 0 where
  pub supervisor : p.regs.cpl ≡ 0
  pub runs : p.halted ≡ false
  pub rip : p.regs.rip ≡ gate_address + offset
  pub point : is_point offset ≡ true
  pub holds : holds_at offset p ≡ true

pub record IsGatePoint (p : Processor) : Type 0 where
  pub offset : ℕ
  pub stands : IsAtPoint offset p
