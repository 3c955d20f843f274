-- A state in which each vector can be delivered.
use Rattle.std.specs.Prelude.{◌≡◌, ℕ, ◌<◌, Option, Ok}
use Rattle.trap_unit.specs.TrapDelivery.{delivered}
use Rattle.gate_state.specs.MachineStates.{MachineState}

-- the delivery of any vector from 0 to 47, with any error code or without one, doesn't shut the machine down
abbrev pub DeliversAny : MachineState → Type 0
DeliversAny s = (vector : ℕ) (code : Option ℕ) → vector < 48
    → (delivered s.processor.regs s.processor.control s.processor.tables vector code s.memory s.processor.tlb).answer
    ≡ Ok tt
