-- What a turn stores: the bytes of its instruction's one write, and then those of the delivery that it ends in, by the same
-- cases as the turn. A place is listed with the byte that goes there, whether or not that byte stood there before.
use Rattle.std.specs.Prelude.{ℕ, ◌+◌, ◌*◌, Bool, true, false, if◌then◌else◌, List, [], ◌++◌, Option, Some, None, Result, Ok, Err, ◌-◌, ◌/◌}
use Rattle.nk_bits.specs.Outcomes.{Outcome}
use Rattle.nk_bits.specs.Translations.{Translations, faulted}
use Rattle.nk_bits.specs.KernelLayout.{nested_stack_top}
use Rattle.page_walk.specs.MemoryAccess.{stores_at}
use Rattle.x86_regs.specs.declared.effects.Act.{Act}
use Rattle.x86_regs.specs.declared.effects.Act.TheVariants as act
use Rattle.x86_regs.specs.declared.effects.Effect.{Effect}
use Rattle.x86_regs.specs.declared.effects.Write.{Write}
use Rattle.x86_regs.specs.declared.faults.Fault.{Fault}
use Rattle.x86_regs.specs.declared.faults.Fault.TheVariants as fault
use Rattle.x86_regs.specs.declared.registers.Regs.{Regs}
use Rattle.trap_unit.specs.declared.shutdown.Shut.{Shut}
use Rattle.trap_unit.specs.DeliveryStores.{delivery_stores}
use Rattle.trap_unit.specs.TrapDelivery.{interrupt_allowed}
use Rattle.trap_unit.specs.TrapReturn.{returned}
use Rattle.cpu_step.specs.Processor.{Processor, deliverable}
use Rattle.x86_regs.specs.Effects.{memory_after}
use Rattle.cpu_step.specs.Turns.{error_code_of, control_after, instruction_made, is_at_body, vector_of, woken}

-- a vector is delivered, with an error code or without
abbrev pub trap_stores : ℕ → Option ℕ → Processor → List ℕ → List (ℕ × ℕ)
trap_stores vector code p m = delivery_stores p.regs p.control p.tables vector code m p.tlb

-- a fault is delivered
abbrev pub fault_stores : Fault → Processor → List ℕ → List (ℕ × ℕ)
fault_stores it p m = trap_stores (vector_of it) (error_code_of it) (record p { control = control_after it p.control }) m

-- the page fault at the body's place
abbrev pub body_stores : Processor → List ℕ → List (ℕ × ℕ)
body_stores p m = fault_stores (fault.Page 3 (nested_stack_top - 8)) (record p { tlb = faulted p.tlb (nested_stack_top / 4096 - 1) }) m

-- the one write of an instruction
abbrev pub write_stores : Option Write → List (ℕ × ℕ)
write_stores None = []
write_stores (Some write) = stores_at write.va write.width write.target write.value

-- INT n and INT3: their delivery, or that of #GP(8n + 2)
abbrev pub interrupt_stores : Result Bool Shut → ℕ → Regs → Processor → List ℕ → List (ℕ × ℕ)
interrupt_stores (Ok true) vector before p m = trap_stores vector None p m
interrupt_stores (Ok false) vector before p m = fault_stores (fault.General (8 * vector + 2)) (record p { regs = before }) m
interrupt_stores (Err shut) vector before p m = []

-- IRETQ: nothing, or the delivery of its fault
abbrev pub return_stores : Result Regs Fault → Regs → Processor → List ℕ → List (ℕ × ℕ)
return_stores (Ok regs) before p m = []
return_stores (Err it) before p m = fault_stores it (record p { regs = before }) m

-- what an instruction asks of the processor, whose registers were `before`: two of its acts may end in a delivery
abbrev pub act_stores : Act → Regs → Processor → List ℕ → List (ℕ × ℕ)
act_stores (act.Interrupt vector) before p m =
    let allowed : Outcome Shut Bool = interrupt_allowed p.control p.tables p.regs.cpl vector m p.tlb in
    interrupt_stores allowed.answer vector before (record p { tlb = allowed.tlb }) m
act_stores (act.Return frame) before p m = return_stores (returned p.regs frame) before p m
act_stores _ before p m = []

-- an instruction: the delivery of its fault, or its write and then what it asks of the processor, over memory after the write
abbrev pub effect_stores : Result Effect Fault → Processor → List ℕ → Translations → List (ℕ × ℕ)
effect_stores (Err it) p m tlb = fault_stores it (record p { tlb = tlb }) m
effect_stores (Ok effect) p m tlb =
    write_stores effect.write
    ++ act_stores effect.act p.regs (record p { regs = effect.regs; tlb = tlb }) (memory_after effect.write m)

-- the turn of an instruction, or at the body's place
unfoldable pub instruction_stores : Processor → List ℕ → List (ℕ × ℕ)
instruction_stores p m =
    if is_at_body p.regs then body_stores p m
    else let made : Outcome Fault Effect = instruction_made p m in effect_stores made.answer p m made.tlb

-- the delivery of a vector, if one is due, or an instruction
abbrev pub stores_unless : Option ℕ → Processor → List ℕ → List (ℕ × ℕ)
stores_unless (Some vector) p m = trap_stores vector None (woken vector p) m
stores_unless None p m = instruction_stores (record p { shielded = false }) m

-- what a turn stores, in order
unfoldable pub turn_stores : Processor → List ℕ → List (ℕ × ℕ)
turn_stores p m = stores_unless (deliverable p) p m
