-- What an effect keeps, and what the translations grant to it: the words of the laws on effects.
use Rattle.std.specs.Prelude.{◌≡◌, ℕ, ◌^◌, ◌<◌, ⊤, true, length, slice_index}
use Rattle.nk_bits.specs.declared.access.Access.TheVariants as access
use Rattle.nk_bits.specs.Claims.{Claim}
use Rattle.nk_bits.specs.Accesses.{IsAccessSize, IsTarget, Serves, View, crosses, next_page}
use Rattle.x86_regs.specs.declared.effects.Act.{Act}
use Rattle.x86_regs.specs.declared.effects.Act.TheVariants as act
use Rattle.x86_regs.specs.declared.effects.Write.{Write}
use Rattle.x86_regs.specs.declared.faults.Fault.{Fault}
use Rattle.x86_regs.specs.declared.faults.Fault.TheVariants as fault
use Rattle.x86_regs.specs.declared.registers.Regs.{Regs}

-- sixteen general registers of 64 bits, and RIP
pub record AreRegisters (regs : Regs) : Type 0 where
  pub count : length regs.general ≡ 16
  pub bounds : (n : ℕ) → slice_index regs.general n < 2 ^ 64
  pub rip : regs.rip < 2 ^ 64

-- an act that loads neither a control register nor a table
abbrev pub LoadsNothing : Act → Type 0
LoadsNothing (act.Cr0 value) = ⊥
LoadsNothing (act.Cr2 value) = ⊥
LoadsNothing (act.Cr3 value) = ⊥
LoadsNothing (act.Cr4 value) = ⊥
LoadsNothing (act.Idt base limit) = ⊥
LoadsNothing _ = ⊤

-- the numbers of a fault have 64 bits
abbrev pub IsSmallFault : Fault → Type 0
IsSmallFault (fault.General code) = code < 2 ^ 64
IsSmallFault (fault.Page code address) = (code < 2 ^ 64) × (address < 2 ^ 64)
IsSmallFault _ = ⊤

-- what an act puts out is a byte, a vector is one of 256, and a value for CR2 has 64 bits
abbrev pub IsSmallAct : Act → Type 0
IsSmallAct (act.Out byte port) = byte < 256
IsSmallAct (act.Interrupt vector) = vector < 256
IsSmallAct (act.Cr2 value) = value < 2 ^ 64
IsSmallAct _ = ⊤

-- a write to a memory of so many bytes is granted: on each of its pages a translation of which the test holds serves it,
-- and gives its place there
pub record IsGranted (view : View) (test : Claim) (size : ℕ) (write : Write) : Type 0 where
  pub sized : IsAccessSize write.width
  pub target : IsTarget size write.va write.width write.target
  pub first : Serves view access.Write test write.va write.target.first
  pub second : crosses write.va write.width ≡ true → Serves view access.Write test (next_page write.va) write.target.second
