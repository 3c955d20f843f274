-- One turn of the processor: an interrupt that is delivered, or an instruction with what it asks of the processor.
use Rattle.std.specs.Prelude.{ℕ, ◌+◌, ◌-◌, ◌*◌, ◌/◌, ◌==◌, ◌&&◌, Bool, true, false, not, if◌then◌else◌, List, Option, Some, None, Result, Ok, Err, bit_and}
use Rattle.decode_fields.specs.declared.place.Place.TheVariants.{Reg}
use Rattle.nk_bits.specs.declared.call.Delivery.{Delivery}
use Rattle.nk_bits.specs.declared.control.Control.{Control}
use Rattle.nk_bits.specs.Translations.{Translations, faulted, flushed, invalidated}
use Rattle.nk_bits.specs.Outcomes.{Outcome, and_then}
use Rattle.nk_bits.specs.Accesses.{wp_of}
use Rattle.nk_bits.specs.KernelLayout.{body_address, nested_stack_top}
use Rattle.page_walk.specs.MemoryAccess.{view_of}
use Rattle.port_bus.specs.PortWords.{port_byte, console_byte, input_after}
use Rattle.x86_alu.specs.Flags.{with_flag}
use Rattle.x86_regs.specs.declared.effects.Act.{Act}
use Rattle.x86_regs.specs.declared.effects.Act.TheVariants as act
use Rattle.x86_regs.specs.declared.effects.Effect.{Effect}
use Rattle.x86_regs.specs.declared.faults.Fault.{Fault}
use Rattle.x86_regs.specs.declared.faults.Fault.TheVariants as fault
use Rattle.x86_regs.specs.declared.registers.Regs.{Regs}
use Rattle.x86_regs.specs.Registers.{written}
use Rattle.x86_regs.specs.Effects.{effect_of, memory_after}
use Rattle.trap_unit.specs.declared.shutdown.Shut.{Shut}
use Rattle.trap_unit.specs.TrapDelivery.{Delivered, delivered, interrupt_allowed}
use Rattle.trap_unit.specs.TrapReturn.{returned}
use Rattle.cpu_step.specs.declared.stepped.Stepped.{Stepped}
use Rattle.cpu_step.specs.declared.stepped.Stepped.TheVariants as stepped
use Rattle.cpu_step.specs.InstructionFetch.{instruction_at}
use Rattle.cpu_step.specs.Processor.{Processor, deliverable}

-- processor and memory after a turn, and what the turn shows
pub record Turned : Type 0 where
  pub processor : Processor
  pub memory : List ℕ
  pub stepped : Stepped

abbrev pub turned_to : Processor → List ℕ → Stepped → Turned
turned_to p m stepped = record { processor = p; memory = m; stepped = stepped }

abbrev pub ran : Processor → List ℕ → Turned
ran p m = turned_to p m stepped.Ran

-- the vector of a fault, and its error code (SDM volume 3, table 6-1)
abbrev pub vector_of : Fault → ℕ
vector_of fault.Divide = 0
vector_of fault.Opcode = 6
vector_of fault.Stack = 12
vector_of (fault.General code) = 13
vector_of (fault.Page code address) = 14

abbrev pub error_code_of : Fault → Option ℕ
error_code_of fault.Divide = None
error_code_of fault.Opcode = None
error_code_of fault.Stack = Some 0
error_code_of (fault.General code) = Some code
error_code_of (fault.Page code address) = Some code

-- a page fault leaves its linear address in CR2
abbrev pub control_after : Fault → Control → Control
control_after (fault.Page code address) control = record control { cr2 = address }
control_after _ control = control

-- what a delivery shows: the RIP that it pushes, and CR2 beside vector 14
abbrev pub delivery_of : ℕ → Option ℕ → Processor → Delivery
delivery_of vector code p = record {
  vector = vector;
  code = code;
  rip = p.regs.rip;
  cr2 = if vector == 14 then Some p.control.cr2 else None;
}

abbrev pub stepped_by : Result Unit Shut → Delivery → Stepped
stepped_by (Ok done) it = stepped.Delivered it
stepped_by (Err shut) it = stepped.Shutdown

-- a vector is delivered, with an error code or without
unfoldable pub trapped : ℕ → Option ℕ → Processor → List ℕ → Turned
trapped vector code p m =
    let it : Delivered = delivered p.regs p.control p.tables vector code m p.tlb in
    turned_to (record p { regs = it.regs; tlb = it.tlb }) it.memory (stepped_by it.answer (delivery_of vector code p))

-- a fault is delivered
abbrev pub fault_raised : Fault → Processor → List ℕ → Turned
fault_raised it p m = trapped (vector_of it) (error_code_of it) (record p { control = control_after it p.control }) m

-- the vector that is delivered waits no longer, and the processor is awake
abbrev pub woken : ℕ → Processor → Processor
woken vector p = record p { pending = with_flag (vector - 32) false p.pending; halted = false }

-- the supervisor stands at the body's place, offset 27 of the gates' text
abbrev pub is_at_body : Regs → Bool
is_at_body regs = regs.cpl == 0 && regs.rip == body_address

-- the body is to run there where WP is clear; with WP set its first push is a page fault on the nested stack
abbrev pub enters_body : Processor → Bool
enters_body p = is_at_body p.regs && not (wp_of p.control.cr0)

abbrev pub refused_body : Processor → List ℕ → Turned
refused_body p m = fault_raised (fault.Page 3 (nested_stack_top - 8)) (record p { tlb = faulted p.tlb (nested_stack_top / 4096 - 1) }) m

-- CR0 keeps PE (0), WP (16), NW (29), CD (30) and PG (31); other bits are lost
abbrev pub kept_in_cr0 : ℕ → ℕ
kept_in_cr0 value = bit_and value 0xE0010001

-- the general registers with a byte in AL
abbrev pub with_al : Regs → ℕ → Regs
with_al regs byte = record regs { general = written regs.general (Reg 0) 8 byte }

-- a byte goes to the console, or is lost
abbrev pub console_shown : Option ℕ → Processor → List ℕ → Turned
console_shown None p m = ran p m
console_shown (Some byte) p m = turned_to p m (stepped.Console byte)

-- INT n and INT3, where their gate allows it, are delivered with RIP at the next instruction; else #GP(8n + 2) is, with
-- the registers from before
abbrev pub interrupted_by : Result Bool Shut → ℕ → Regs → Processor → List ℕ → Turned
interrupted_by (Ok true) vector before p m = trapped vector None p m
interrupted_by (Ok false) vector before p m = fault_raised (fault.General (8 * vector + 2)) (record p { regs = before }) m
interrupted_by (Err shut) vector before p m = turned_to (record p { regs = before }) m stepped.Shutdown

abbrev pub interrupted : ℕ → Regs → Processor → List ℕ → Turned
interrupted vector before p m =
    let allowed : Outcome Shut Bool = interrupt_allowed p.control p.tables p.regs.cpl vector m p.tlb in
    interrupted_by allowed.answer vector before (record p { tlb = allowed.tlb }) m

-- IRETQ returns, or its fault is delivered with the registers from before
abbrev pub returned_by : Result Regs Fault → Regs → Processor → List ℕ → Turned
returned_by (Ok regs) before p m = ran (record p { regs = regs }) m
returned_by (Err it) before p m = fault_raised it (record p { regs = before }) m

-- what an instruction asks of the processor, whose registers were `before`, with its registers written and memory after
-- its write
abbrev pub acted : Act → Regs → Processor → List ℕ → Turned
acted act.Quiet before p m = ran p m
acted (act.Out byte port) before p m = console_shown (console_byte port byte) p m
acted (act.In port) before p m =
    ran (record p { regs = with_al p.regs (port_byte p.input port); input = input_after p.input port }) m
acted act.Halt before p m = ran (record p { halted = true }) m
acted act.Enable before p m = ran (record p { shielded = true }) m
acted (act.Interrupt vector) before p m = interrupted vector before p m
acted (act.Return frame) before p m = returned_by (returned p.regs frame) before p m
acted (act.Cr0 value) before p m = ran (record p { control = record p.control { cr0 = kept_in_cr0 value } }) m
acted (act.Cr2 value) before p m = ran (record p { control = record p.control { cr2 = value } }) m
acted (act.Cr3 value) before p m =
    ran (record p { control = record p.control { root = value / 4096 }; tlb = flushed }) m
acted (act.Cr4 value) before p m = ran (record p { control = record p.control { cr4 = value } }) m
acted (act.Idt base limit) before p m =
    ran (record p { tables = record p.tables { idt = base; limit = limit } }) m
acted (act.DropPage page) before p m = ran (record p { tlb = invalidated p.tlb page }) m

-- a fault leaves registers and memory, and is delivered
abbrev pub turned_by : Result Effect Fault → Processor → List ℕ → Translations → Turned
turned_by (Err it) p m tlb = fault_raised it (record p { tlb = tlb }) m
turned_by (Ok effect) p m tlb =
    acted effect.act p.regs (record p { regs = effect.regs; tlb = tlb }) (memory_after effect.write m)

-- the instruction at RIP is fetched, and then its effect is made
abbrev pub instruction_made : Processor → List ℕ → Outcome Fault Effect
instruction_made p m =
    and_then (instruction_at m (view_of m p.control p.regs.cpl) p.regs.rip p.tlb)
    (λ it after. effect_of it.instr it.size p.regs p.control m after)

-- the turn of an instruction, or at the body's place, where no instruction stands
unfoldable pub instructed : Processor → List ℕ → Turned
instructed p m =
    if is_at_body p.regs then refused_body p m
    else let made = instruction_made p m in turned_by made.answer p m made.tlb

-- a shield covers one turn, in which no interrupt is delivered
abbrev pub turned_unless : Option ℕ → Processor → List ℕ → Turned
turned_unless (Some vector) p m = trapped vector None (woken vector p) m
turned_unless None p m = instructed (record p { shielded = false }) m

-- the turn of a processor that runs, or that an interrupt wakes, and for which no body is to run
unfoldable pub turned : Processor → List ℕ → Turned
turned p m = turned_unless (deliverable p) p m
