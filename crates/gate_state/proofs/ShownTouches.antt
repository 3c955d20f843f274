-- What a turn shows that isn't quiet goes with a touch of the trap stack alone, or of nothing.
use Rattle.std.proofs.Common.{◌≡◌, ℕ, ◌*◌, ◌+◌, Bool, true, false, List, refl, ap, inl, inr}
use Rattle.std.specs.Prelude.{IfOk, Option, None, Some, Result, Ok, Err, if◌then◌else◌}
use Rattle.nk_bits.specs.declared.call.Delivery.{Delivery}
use Rattle.nk_bits.specs.Outcomes.{Outcome}
use Rattle.nk_bits.specs.Translations.{Translations}
use Rattle.page_walk.specs.MemoryAccess.{view_of}
use Rattle.port_bus.specs.PortWords.{console_byte}
use Rattle.x86_regs.specs.declared.effects.Act.{Act}
use Rattle.x86_regs.specs.declared.effects.Act.TheVariants as act
use Rattle.x86_regs.specs.declared.effects.Effect.{Effect}
use Rattle.x86_regs.specs.declared.effects.Write.{Write}
use Rattle.x86_regs.specs.declared.faults.Fault.{Fault}
use Rattle.x86_regs.specs.declared.faults.Fault.TheVariants as fault
use Rattle.x86_regs.specs.declared.registers.Regs.{Regs}
use Rattle.x86_regs.specs.Effects.{memory_after}
use Rattle.trap_unit.specs.declared.shutdown.Shut.{Shut}
use Rattle.trap_unit.specs.TrapDelivery.{delivered, interrupt_allowed}
use Rattle.trap_unit.specs.TrapReturn.{returned}
use Rattle.cpu_step.specs.declared.stepped.Stepped.{Stepped}
use Rattle.cpu_step.specs.declared.stepped.Stepped.TheVariants as stepped
use Rattle.cpu_step.specs.declared.touched.Touched.{Touched}
use Rattle.cpu_step.specs.declared.touched.Touched.TheVariants as touched
use Rattle.cpu_step.specs.FramesTouched.{effect_touched, instruction_touched, touched_by, touched_of, touched_unless, turn_touched}
use Rattle.cpu_step.specs.InstructionFetch.{instruction_at}
use Rattle.cpu_step.specs.Processor.{Processor, deliverable}
use Rattle.cpu_step.specs.Turns.{Turned, acted, console_shown, control_after, delivery_of, error_code_of, fault_raised, instructed, instruction_made, interrupted_by, is_at_body, refused_body, returned_by, stepped_by, trapped, turned, turned_by, turned_unless, vector_of}
use Rattle.gate_state.specs.declared.seen.Step.TheVariants as step
use Rattle.gate_state.specs.declared.touched.StepTouched.TheVariants.{Frames}
use Rattle.gate_state.specs.MachineSteps.{shown_by_turn}
use Rattle.gate_state.specs.StepsTouched.{ShowsWithin, of_turn}
use Rattle.gate_state.proofs.PortWrites.{IfOut, PutsOutAlone, effect_alone, then_ok}

-- a turn that shows this touched so much
abbrev pub IsWithin : Stepped → Touched → Type 0
IsWithin shown it = ShowsWithin (step.Seen (shown_by_turn shown)) (of_turn it) (Frames 3 3)

any_within : (shown : Stepped) → IsWithin shown touched.Any
any_within stepped.Ran = tt
any_within (stepped.Console byte) = inr refl
any_within (stepped.Delivered it) = inr refl
any_within stepped.Shutdown = tt

stepped_within : (answer : Result Unit Shut) (it : Delivery) (write : Option Write)
    → IsWithin (stepped_by answer it) (touched_by (stepped_by answer it) write)
stepped_within (Ok done) it write = inr refl
stepped_within (Err shut) it write = tt

trapped_within : (vector : ℕ) (code : Option ℕ) (write : Option Write) (q : Processor) (m : List ℕ)
    → IsWithin (trapped vector code q m).stepped (touched_by (trapped vector code q m).stepped write)
unfolding trapped
trapped_within vector code write q m =
    stepped_within (delivered q.regs q.control q.tables vector code m q.tlb).answer (delivery_of vector code q) write

raised_within : (it : Fault) (write : Option Write) (q : Processor) (m : List ℕ)
    → IsWithin (fault_raised it q m).stepped (touched_by (fault_raised it q m).stepped write)
raised_within it write q m =
    trapped_within (vector_of it) (error_code_of it) write (record q { control = control_after it q.control }) m

interrupted_within : (allowed : Result Bool Shut) (vector : ℕ) (before : Regs) (write : Option Write) (q : Processor)
    (m : List ℕ) → IsWithin (interrupted_by allowed vector before q m).stepped
    (touched_by (interrupted_by allowed vector before q m).stepped write)
interrupted_within (Ok true) vector before write q m = trapped_within vector None write q m
interrupted_within (Ok false) vector before write q m =
    raised_within (fault.General (8 * vector + 2)) write (record q { regs = before }) m
interrupted_within (Err shut) vector before write q m = tt

returned_within : (answer : Result Regs Fault) (before : Regs) (write : Option Write) (q : Processor) (m : List ℕ)
    → IsWithin (returned_by answer before q m).stepped (touched_by (returned_by answer before q m).stepped write)
returned_within (Ok regs) before write q m = tt
returned_within (Err it) before write q m = raised_within it write (record q { regs = before }) m

-- a byte for the console comes without a write
console_within : (byte : Option ℕ) (write : Option Write) (q : Processor) (m : List ℕ) → write ≡ None
    → IsWithin (console_shown byte q m).stepped (touched_by (console_shown byte q m).stepped write)
console_within None write q m none = tt
console_within (Some byte) write q m none = inl (ap (λ (w : Option Write). of_turn (touched_of w)) none)

acted_within : (a : Act) (before : Regs) (write : Option Write) (q : Processor) (m : List ℕ) → IfOut a (write ≡ None)
    → IsWithin (acted a before q m).stepped (touched_by (acted a before q m).stepped write)
acted_within (act.Out byte port) before write q m none = console_within (console_byte port byte) write q m none
acted_within (act.Interrupt vector) before write q m none =
    let allowed : Outcome Shut Bool = interrupt_allowed q.control q.tables q.regs.cpl vector m q.tlb in
    interrupted_within allowed.answer vector before write (record q { tlb = allowed.tlb }) m
acted_within (act.Return frame) before write q m none = returned_within (returned q.regs frame) before write q m
acted_within act.Quiet before write q m none = tt
acted_within (act.In port) before write q m none = tt
acted_within act.Halt before write q m none = tt
acted_within act.Enable before write q m none = tt
acted_within (act.Cr0 value) before write q m none = tt
acted_within (act.Cr2 value) before write q m none = tt
acted_within (act.Cr3 value) before write q m none = tt
acted_within (act.Cr4 value) before write q m none = tt
acted_within (act.Idt base limit) before write q m none = tt
acted_within (act.DropPage page) before write q m none = tt

made_within : (answer : Result Effect Fault) (p : Processor) (m : List ℕ) (tlb : Translations)
    → IfOk answer PutsOutAlone
    → IsWithin (turned_by answer p m tlb).stepped (effect_touched answer (turned_by answer p m tlb).stepped)
made_within (Err it) p m tlb alone = any_within (fault_raised it (record p { tlb = tlb }) m).stepped
made_within (Ok effect) p m tlb alone =
    acted_within effect.act p.regs effect.write (record p { regs = effect.regs; tlb = tlb }) (memory_after effect.write m)
    alone

made_alone : (p : Processor) (m : List ℕ) → IfOk (instruction_made p m).answer PutsOutAlone
made_alone p m =
    then_ok PutsOutAlone (instruction_at m (view_of m p.control p.regs.cpl) p.regs.rip p.tlb).answer _ _
    (λ it. effect_alone it.instr it.size p.regs p.control m _)

instructed_within : (p : Processor) (m : List ℕ) → IsWithin (instructed p m).stepped (instruction_touched p m)
unfolding instructed instruction_touched
instructed_within p m = by_place (is_at_body p.regs)
  where
    by_place : (b : Bool)
        → let t : Turned = if b then refused_body p m
        else turned_by (instruction_made p m).answer p m (instruction_made p m).tlb in
        IsWithin t.stepped (if b then touched.Any else effect_touched (instruction_made p m).answer t.stepped)
    by_place true = any_within (refused_body p m).stepped
    by_place false = made_within (instruction_made p m).answer p m (instruction_made p m).tlb (made_alone p m)

pub turn_within : (p : Processor) (m : List ℕ) → IsWithin (turned p m).stepped (turn_touched p m)
unfolding turned turn_touched
turn_within p m = by_vector (deliverable p)
  where
    by_vector : (vector : Option ℕ) → IsWithin (turned_unless vector p m).stepped (touched_unless vector p m)
    by_vector (Some vector) = any_within (turned_unless (Some vector) p m).stepped
    by_vector None = instructed_within (record p { shielded = false }) m
