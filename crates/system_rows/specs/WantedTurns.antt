-- What a turn leaves is what its row wants, by the definition of a turn.
use Rattle.std.specs.Prelude.{◌≡◌, ◌≢◌, ℕ, ◌*◌, ◌/◌, ◌<◌, false, List, [], Option, Some, bit_or, slice_index}
use Rattle.phys_mem.specs.Memory.{number_at}
use Rattle.cpu_step.specs.declared.stepped.Stepped.TheVariants as stepped
use Rattle.cpu_step.specs.Processor.{Processor, started}
use Rattle.cpu_step.specs.Turns.{turned}
use Rattle.system_rows.specs.declared.machine.Machine.{Machine}
use Rattle.system_rows.specs.declared.machine.Left.{Left}
use Rattle.system_rows.specs.declared.row.After.{After}
use Rattle.system_rows.specs.declared.row.State.{State}

-- the sixteen general registers
abbrev pub AreGeneralWanted : State → State → Type 0
AreGeneralWanted wanted found = (n : ℕ) → n < 16 → slice_index wanted.regs.general n ≡ slice_index found.regs.general n

-- RIP, the flags but for those that the manual leaves undefined, the CPL and SS
pub record IsPrivilegeWanted (wanted found : State) (undefined : ℕ) : Type 0 where
  pub rip : wanted.regs.rip ≡ found.regs.rip
  pub flags : bit_or wanted.regs.flags undefined ≡ bit_or found.regs.flags undefined
  pub cpl : wanted.regs.cpl ≡ found.regs.cpl
  pub ss : wanted.regs.ss ≡ found.regs.ss

-- the control registers, and whether the processor is halted
pub record IsControlWanted (wanted found : State) : Type 0 where
  pub cr0 : wanted.cr0 ≡ found.cr0
  pub cr2 : wanted.cr2 ≡ found.cr2
  pub cr3 : wanted.cr3 ≡ found.cr3
  pub cr4 : wanted.cr4 ≡ found.cr4
  pub halted : wanted.halted ≡ found.halted

-- each eight bytes of memory below a word of this number, but for those from this place on
abbrev pub AreWordsWanted : List ℕ → List ℕ → Option ℕ → ℕ → Type 0
AreWordsWanted wanted found free count =
    (word : ℕ) → word < count → free ≢ Some (8 * word) → number_at wanted 8 (8 * word) ≡ number_at found 8 (8 * word)

-- all of it, in what was found: no delivery shut the machine down, and registers and memory are those that are wanted
pub record IsAsWanted (after : After) (machine : Machine) (left : Left) : Type 0 where
  pub runs : left.is_shut_down ≡ false
  pub general : AreGeneralWanted after.state left.state
  pub privilege : IsPrivilegeWanted after.state left.state after.undefined
  pub control : IsControlWanted after.state left.state
  pub memory : AreWordsWanted machine.wanted.bytes machine.found.bytes after.free 32768

-- a processor with the registers of a state, which keeps no translation, and the registers of a processor
abbrev pub processor_of : State → Processor
processor_of s =
    started s.regs (record { cr0 = s.cr0; cr2 = s.cr2; root = s.cr3 / 4096; cr4 = s.cr4; efer = 0xD00 })
    (record { idt = 0xFFFFFF8000000000; limit = 767; tss = 0xFFFFFF8000000400 }) []

abbrev pub state_in : Processor → State
state_in p = record {
  regs = p.regs;
  cr0 = p.control.cr0;
  cr2 = p.control.cr2;
  cr3 = 4096 * p.control.root;
  cr4 = p.control.cr4;
  halted = p.halted;
}

-- the defined turn of such a processor over this memory leaves what is wanted, in registers and in memory
pub record LeavesWanted (before : State) (after : After) (m wanted : List ℕ) : Type 0 where
  pub runs : (turned (processor_of before) m).stepped ≢ stepped.Shutdown
  pub general : AreGeneralWanted after.state (state_in (turned (processor_of before) m).processor)
  pub privilege : IsPrivilegeWanted after.state (state_in (turned (processor_of before) m).processor) after.undefined
  pub control : IsControlWanted after.state (state_in (turned (processor_of before) m).processor)
  pub memory : AreWordsWanted wanted (turned (processor_of before) m).memory after.free 32768
