-- The return from a trap by the frame that IRETQ pops (SDM volume 2, IRET/IRETD/IRETQ; volume 3, 6.14.3).
use Rattle.std.specs.Prelude.{ℕ, ◌%◌, ◌^◌, Bool, ◌==◌, ◌&&◌, ◌||◌, if◌then◌else◌, Result, Ok, Err}
use Rattle.nk_bits.specs.Paging.{is_canonical}
use Rattle.x86_regs.specs.declared.delivery.Frame.{Frame}
use Rattle.x86_regs.specs.declared.faults.Fault.{Fault}
use Rattle.x86_regs.specs.declared.faults.Fault.TheVariants as fault
use Rattle.x86_regs.specs.declared.registers.Regs.{Regs}
use Rattle.x86_regs.specs.Combinations.{flags_popped}
use Rattle.x86_regs.specs.Operands.{rsp, with_register}

-- the low 16 bits of what is popped for CS and for SS
abbrev pub selector : ℕ → ℕ
selector popped = popped % 2 ^ 16

-- the selectors of CPL 3; at CPL 0 also those of CPL 0, whose SS may be null
abbrev pub may_return : ℕ → ℕ → ℕ → Bool
may_return cpl cs ss =
    (cs == 0x1B && ss == 0x23) || (cpl == 0 && cs == 0x08 && (ss == 0x10 || ss == 0))

-- the registers after the return: RSP is the frame's, and the other general registers stay; at another CPL than 0 so
-- does IF
abbrev pub at_return : Regs → Frame → Regs
at_return regs frame = record {
  general = with_register regs.general rsp frame.rsp;
  rip = frame.rip;
  flags = flags_popped regs.cpl regs.flags frame.flags;
  cpl = if selector frame.cs == 0x1B then 3 else 0;
  ss = selector frame.ss;
}

-- the return, or #GP(0)
unfoldable pub returned : Regs → Frame → Result Regs Fault
returned regs frame =
    if may_return regs.cpl (selector frame.cs) (selector frame.ss) && is_canonical frame.rip
    then Ok (at_return regs frame)
    else Err (fault.General 0)

-- a return that changed the registers in place: these are the registers after it
abbrev pub return_with : Result Unit Fault → Regs → Result Regs Fault
return_with (Ok done) regs = Ok regs
return_with (Err fault) regs = Err fault
