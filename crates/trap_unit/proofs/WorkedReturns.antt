-- Returns at worked values: SDM volume 2, IRET/IRETD/IRETQ.
use Rattle.std.proofs.Common.{◌≡◌, ℕ, [], ◌∷◌, refl}
use Rattle.std.specs.Prelude.{Result, Ok, Err}
use Rattle.x86_alu.specs.Flags.{with_flag}
use Rattle.x86_regs.specs.declared.delivery.Frame.{Frame}
use Rattle.x86_regs.specs.declared.faults.Fault.{Fault}
use Rattle.x86_regs.specs.declared.faults.Fault.TheVariants as fault
use Rattle.x86_regs.specs.declared.registers.Regs.{Regs}
use Rattle.trap_unit.specs.TrapReturn.{returned}

-- RSP, RIP, RFLAGS, the CPL and SS
abbrev regs : ℕ → ℕ → ℕ → ℕ → ℕ → Regs
regs sp rip flags cpl ss = record {
  general = 0 ∷ 1 ∷ 2 ∷ 3 ∷ sp ∷ 5 ∷ 6 ∷ 7 ∷ 8 ∷ 9 ∷ 10 ∷ 11 ∷ 12 ∷ 13 ∷ 14 ∷ 15 ∷ [];
  rip = rip;
  flags = flags;
  cpl = cpl;
  ss = ss;
}

abbrev frame : ℕ → ℕ → ℕ → ℕ → Frame
frame rip cs flags ss = record { rip = rip; cs = cs; flags = flags; rsp = 0x5000; ss = ss }

abbrev refused : Result Regs Fault
refused = Err (fault.General 0)

-- from CPL 0 to CPL 3 and to CPL 0; the flags are those popped, as far as they are kept
from_supervisor :
    (returned (regs 0x4000 0x1000 2 0 0x10) (frame 0x2000 0x1B 0x246 0x23) ≡ Ok (regs 0x5000 0x2000 0x246 3 0x23)) ×
    (returned (regs 0x4000 0x1000 0x202 0 0x10) (frame 0x2000 0x1B 0xFFFFFFFFFFFFFFFF 0x23)
    ≡ Ok (regs 0x5000 0x2000 0xED7 3 0x23)) ×
    (returned (regs 0x4000 0x1000 0x202 0 0x10) (frame 0x2000 0x10008 0 0x10) ≡ Ok (regs 0x5000 0x2000 2 0 0x10)) ×
    (returned (regs 0x4000 0x1000 0x202 0 0x10) (frame 0xFFFF800000000000 8 0x202 0x20000)
    ≡ Ok (regs 0x5000 0xFFFF800000000000 0x202 0 0))
unfolding returned
from_supervisor = (refl, refl, refl, refl)

-- from CPL 3 to CPL 3 alone; IF stays
from_user :
    (returned (regs 0x4000 0x1000 0x202 3 0x23) (frame 0x2000 0x1B 0x46 0x23) ≡ Ok (regs 0x5000 0x2000 0x246 3 0x23)) ×
    (returned (regs 0x4000 0x1000 2 3 0x23) (frame 0x2000 0x1B 0x246 0x23) ≡ Ok (regs 0x5000 0x2000 0x46 3 0x23)) ×
    (returned (regs 0x4000 0x1000 2 3 0x23) (frame 0x2000 8 0x246 0x10) ≡ refused) ×
    (returned (regs 0x4000 0x1000 2 3 0x23) (frame 0x2000 8 0x246 0) ≡ refused)
unfolding returned with_flag
from_user = (refl, refl, refl, refl)

-- no pair, and an address that isn't canonical
refusals :
    (returned (regs 0x4000 0x1000 2 0 0x10) (frame 0x2000 0x1B 2 0x10) ≡ refused) ×
    (returned (regs 0x4000 0x1000 2 0 0x10) (frame 0x2000 8 2 0x23) ≡ refused) ×
    (returned (regs 0x4000 0x1000 2 0 0x10) (frame 0x2000 0x1B 2 0) ≡ refused) ×
    (returned (regs 0x4000 0x1000 2 0 0x10) (frame 0x2000 0x10 2 0x10) ≡ refused) ×
    (returned (regs 0x4000 0x1000 2 0 0x10) (frame 0x800000000000 0x1B 2 0x23) ≡ refused) ×
    (returned (regs 0x4000 0x1000 2 0 0x10) (frame 0xFFFF7FFFFFFFFFFF 8 2 0x10) ≡ refused)
unfolding returned
refusals = (refl, refl, refl, refl, refl, refl)
