-- What a turn leaves where its row wants something else, each named by the sentence that it guards.
use Rattle.std.proofs.Common.{◌≡◌, ◌≢◌, ℕ, ◌*◌, ◌<◌, List, Some, slice_index}
use Rattle.std.specs.Prelude.{bit_or}
use Rattle.phys_mem.specs.Memory.{number_at}
use Rattle.cpu_step.specs.declared.stepped.Stepped.TheVariants as stepped
use Rattle.cpu_step.specs.Turns.{turned}
use Rattle.system_rows.specs.declared.row.After.{After}
use Rattle.system_rows.specs.declared.row.State.{State}
use Rattle.system_rows.specs.WantedTurns.{IsControlWanted, IsPrivilegeWanted, LeavesWanted, processor_of, state_in}

module _ (before : State) (after : After) (m wanted : List ℕ) (it : LeavesWanted before after m wanted) where
  abbrev found : State
  found = state_in (turned (processor_of before) m).processor

  shutdown : (turned (processor_of before) m).stepped ≡ stepped.Shutdown → ⊥
  shutdown is = it.runs is

  another_register : (n : ℕ) → n < 16 → slice_index after.state.regs.general n ≢ slice_index found.regs.general n → ⊥
  another_register n inside other = other (it.general n inside)

  another_step : after.state.regs.rip ≢ found.regs.rip → ⊥
  another_step other = other it.privilege.rip

  another_fault : after.state.cr2 ≢ found.cr2 → ⊥
  another_fault other = other it.control.cr2

  another_word : (word : ℕ) → word < 32768 → after.free ≢ Some (8 * word)
      → number_at wanted 8 (8 * word) ≢ number_at (turned (processor_of before) m).memory 8 (8 * word) → ⊥
  another_word word inside compared other = other (it.memory word inside compared)

module _ (wanted found : State) (undefined : ℕ) (it : IsPrivilegeWanted wanted found undefined) where
  another_address : wanted.regs.rip ≢ found.regs.rip → ⊥
  another_address other = other it.rip

  another_flag : bit_or wanted.regs.flags undefined ≢ bit_or found.regs.flags undefined → ⊥
  another_flag other = other it.flags

  another_privilege : wanted.regs.cpl ≢ found.regs.cpl → ⊥
  another_privilege other = other it.cpl

  another_stack : wanted.regs.ss ≢ found.regs.ss → ⊥
  another_stack other = other it.ss

module _ (wanted found : State) (it : IsControlWanted wanted found) where
  another_fault_address : wanted.cr2 ≢ found.cr2 → ⊥
  another_fault_address other = other it.cr2

  another_root : wanted.cr3 ≢ found.cr3 → ⊥
  another_root other = other it.cr3

  another_protection : wanted.cr0 ≢ found.cr0 → ⊥
  another_protection other = other it.cr0

  another_extension : wanted.cr4 ≢ found.cr4 → ⊥
  another_extension other = other it.cr4

  another_rest : wanted.halted ≢ found.halted → ⊥
  another_rest other = other it.halted
