-- The effect of an instruction: its conditions, then its accesses in order, then its outcome, then the check of its
-- write.
use Rattle.std.specs.Prelude.{ℕ, ◌≡◌, ◌+◌, ◌*◌, ◌/◌, ◌<◌, ◌==◌, ⊤, Bool, true, false, not, ◌&&◌, ◌||◌, if◌then◌else◌, slice_index, List, Option, None, Some, IfSome, Result, Ok, Err}
use Rattle.decode_fields.specs.declared.place.Place.{Place}
use Rattle.decode_fields.specs.declared.place.Place.TheVariants as place
use Rattle.x86_decode.specs.declared.instruction.Instr.{Instr}
use Rattle.x86_decode.specs.declared.operation.Op.{Op}
use Rattle.x86_decode.specs.declared.operation.Op.TheVariants as op
use Rattle.x86_decode.specs.declared.conditions.Conditions.{Conditions}
use Rattle.x86_decode.specs.declared.conditions.UndefinedWhere.{UndefinedWhere}
use Rattle.x86_decode.specs.declared.conditions.UndefinedWhere.TheVariants.{Nowhere, Everywhere, AtWidth16, AtCpl0}
use Rattle.x86_decode.specs.Conditions.{conditions_of}
use Rattle.nk_bits.specs.declared.control.Control.{Control}
use Rattle.nk_bits.specs.declared.fault.AccessFault.{AccessFault}
use Rattle.nk_bits.specs.declared.fault.AccessFault.TheVariants as access_fault
use Rattle.nk_bits.specs.declared.leaf.Target.{Target}
use Rattle.nk_bits.specs.Translations.{Translations}
use Rattle.nk_bits.specs.Outcomes.{Outcome, outcome_of, answered, refused, and_then}
use Rattle.nk_bits.specs.Accesses.{View, IsAccessSize, IsTarget}
use Rattle.page_walk.specs.declared.plan.AccessPlan.{AccessPlan}
use Rattle.page_walk.specs.declared.plan.Span.{Span}
use Rattle.page_walk.specs.declared.plan.Origin.TheVariants.{At}
use Rattle.page_walk.specs.declared.plan.Gathered.{Gathered}
use Rattle.page_walk.specs.declared.plan.SpanFault.{SpanFault}
use Rattle.phys_mem.specs.Memory.{stored}
use Rattle.page_walk.specs.MemoryAccess.{stores_at, view_of}
use Rattle.page_walk.specs.AccessPlans.{checked, gathered, taken}
use Rattle.x86_regs.specs.declared.registers.Regs.{Regs}
use Rattle.x86_regs.specs.declared.delivery.Frame.{Frame}
use Rattle.x86_regs.specs.declared.effects.Effect.{Effect}
use Rattle.x86_regs.specs.declared.effects.Write.{Write}
use Rattle.x86_regs.specs.declared.effects.Act.{Act}
use Rattle.x86_regs.specs.declared.effects.Act.TheVariants as act
use Rattle.x86_regs.specs.declared.faults.Fault.{Fault}
use Rattle.x86_regs.specs.declared.faults.Fault.TheVariants as fault
use Rattle.x86_regs.specs.Operands.{next_of, rsp, stack_span, wrapped}
use Rattle.x86_regs.specs.declared.form.Form.{Form}
use Rattle.x86_regs.specs.declared.form.Form.TheVariants.{Flow}
use Rattle.x86_regs.specs.declared.form.FlowForm.TheVariants.{TrapReturn}
use Rattle.x86_regs.specs.OperandPlans.{instr_form, plan_by}
use Rattle.x86_regs.specs.declared.effects.Change.{Change}
use Rattle.x86_regs.specs.OperandOutcomes.{going_on, outcome_by}

-- the operand stands in memory
abbrev pub is_memory : Place → Bool
is_memory (place.Mem a) = true
is_memory _ = false

-- F0 stands where it may not: another operation, or another place than memory
abbrev pub is_locked_wrongly : Instr → Bool
is_locked_wrongly i =
    let conditions : Conditions = conditions_of i.op in i.lock && not (conditions.takes_lock && is_memory i.to)

-- #UD before the test of the CPL, and behind it
abbrev pub is_undefined : UndefinedWhere → ℕ → Bool
is_undefined Nowhere w = false
is_undefined Everywhere w = true
is_undefined AtWidth16 w = w == 16
is_undefined AtCpl0 w = false

abbrev pub is_undefined_at_cpl_0 : UndefinedWhere → Bool
is_undefined_at_cpl_0 AtCpl0 = true
is_undefined_at_cpl_0 _ = false

-- CR0, CR2, CR3 and CR4 are there
abbrev pub is_control_register : ℕ → Bool
is_control_register n = n == 0 || n == 2 || n == 3 || n == 4

-- MOV from or to a control register that isn't there
abbrev pub names_no_register : Op → ℕ → Bool
names_no_register op.Movfc n = not (is_control_register n)
names_no_register op.Movtc n = not (is_control_register n)
names_no_register _ n = false

-- the fault that the conditions raise, whatever the operands hold: by the CPL, and before
abbrev pub refusal_by_cpl : Conditions → ℕ → Option Fault
refusal_by_cpl conditions cpl =
    if conditions.needs_cpl_0 && not (cpl == 0) then Some (fault.General 0)
    else if is_undefined_at_cpl_0 conditions.undefined then Some fault.Opcode
    else None

abbrev pub refusal : Instr → ℕ → Option Fault
refusal i cpl =
    let conditions : Conditions = conditions_of i.op in
    if is_locked_wrongly i then Some fault.Opcode
    else if is_undefined conditions.undefined i.width then Some fault.Opcode
    else if names_no_register i.op i.value then Some fault.Opcode
    else refusal_by_cpl conditions cpl

-- the fault of an access: a page fault, or by an address that isn't canonical #SS where the stack is addressed and #GP
-- elsewhere
abbrev pub access_raised : Bool → AccessFault → Fault
access_raised stack (access_fault.Page code address) = fault.Page code address
access_raised true access_fault.NonCanonical = fault.Stack
access_raised false access_fault.NonCanonical = fault.General 0

abbrev pub raised_by : {A : Type 0} → Result A SpanFault → Result A Fault
raised_by (Ok answer) = Ok answer
raised_by (Err it) = Err (access_raised it.stack it.fault)

abbrev pub in_faults : {A : Type 0} → Outcome SpanFault A → Outcome Fault A
in_faults outcome = outcome_of (raised_by outcome.answer) outcome.tlb

-- the one write: to the place that was checked last, or to the operand that is read and written
abbrev pub write_at : Option Span → Option Target → ℕ → Option Write → Option Write
write_at (Some span) (Some target) value other = Some (record { va = span.va; width = span.width; value = value; target = target })
write_at (Some span) None value other = other
write_at None target value other = other

-- the places of a write lie in a memory of so many bytes
abbrev pub FitsIn : ℕ → Option Write → Type 0
FitsIn size write = IfSome write (λ write. IsTarget size write.va write.width write.target)

-- a write has 1, 2, 4 or 8 bytes
abbrev pub HasAccessSize : Option Write → Type 0
HasAccessSize write = IfSome write (λ write. IsAccessSize write.width)

-- what is loaded into CR3 names a frame of a memory of so many bytes
abbrev pub LoadsFrameIn : ℕ → Act → Type 0
LoadsFrameIn size (act.Cr3 value) = 4096 * (value / 4096) < size
LoadsFrameIn size _ = ⊤

-- said of an act only where it is an interrupt or a return, which are delivered
abbrev pub IfDelivered : Act → Type 0 → Type 0
IfDelivered (act.Interrupt vector) P = P
IfDelivered (act.Return frame) P = P
IfDelivered _ P = ⊤

-- an interrupt or a return changes RIP alone before it is delivered, and writes nothing
abbrev pub LeavesToDelivery : Regs → Effect → Type 0
LeavesToDelivery regs effect = IfDelivered effect.act ((effect.regs ≡ record regs { rip = effect.regs.rip }) × (effect.write ≡ None))

abbrev pub write_of : AccessPlan → Gathered → Option Target → ℕ → Option Write
write_of plan found last value = write_at plan.last last value (write_at plan.both found.both value None)

-- the outcome's fault, or its change once its write is checked
abbrev pub concluded : View → AccessPlan → Gathered → Result Change Fault → Translations → Outcome Fault Effect
concluded view plan found (Err fault) tlb = refused fault tlb
concluded view plan found (Ok change) tlb =
    and_then (in_faults (checked view plan.last tlb)) (λ last after.
    answered (record { regs = change.regs; write = write_of plan found last change.value; act = change.act }) after)

-- eight bytes of the frame that IRETQ pops, by their place in it
abbrev pub popped : List ℕ → View → Regs → ℕ → Translations → Outcome Fault ℕ
popped m view regs place tlb =
    in_faults (taken m view (At (stack_span (wrapped (slice_index regs.general rsp + 8 * place)) 64)) tlb)

-- that frame, read in ascending order (SDM volume 3, 6.14.3)
unfoldable pub frame_popped : List ℕ → View → Regs → Translations → Outcome Fault Frame
frame_popped m view regs tlb =
    and_then (popped m view regs 0 tlb) (λ rip after_rip.
    and_then (popped m view regs 1 after_rip) (λ cs after_cs.
    and_then (popped m view regs 2 after_cs) (λ flags after_flags.
    and_then (popped m view regs 3 after_flags) (λ old_rsp after_rsp.
    and_then (popped m view regs 4 after_rsp) (λ ss after_ss.
    answered (record { rip = rip; cs = cs; flags = flags; rsp = old_rsp; ss = ss }) after_ss)))))

-- IRETQ leaves the registers to the return by that frame
abbrev pub return_effect : List ℕ → View → Regs → ℕ → Translations → Outcome Fault Effect
return_effect m view regs next tlb =
    and_then (frame_popped m view regs tlb) (λ frame after.
    answered (record { regs = going_on regs regs.general regs.flags next; write = None; act = act.Return frame }) after)

abbrev pub planned_effect : Form → Instr → ℕ → Regs → Control → List ℕ → View → Translations → Outcome Fault Effect
planned_effect form i size regs control m view tlb =
    let plan = plan_by form i size regs in
    and_then (in_faults (gathered m view plan tlb)) (λ found after.
    concluded view plan found (outcome_by form i (next_of regs size) regs control view.frames found) after)

-- the effect by its form
abbrev pub effect_by : Form → Instr → ℕ → Regs → Control → List ℕ → View → Translations → Outcome Fault Effect
effect_by (Flow TrapReturn) i size regs control m view tlb = return_effect m view regs (next_of regs size) tlb
effect_by form i size regs control m view tlb = planned_effect form i size regs control m view tlb

abbrev pub unless_refused : Option Fault → Translations → Outcome Fault Effect → Outcome Fault Effect
unless_refused (Some fault) tlb effect = refused fault tlb
unless_refused None tlb effect = effect

-- the effect of an instruction of this many bytes: registers, write and act, or its fault; and the translations
-- afterwards
unfoldable pub effect_of : Instr → ℕ → Regs → Control → List ℕ → Translations → Outcome Fault Effect
effect_of i size regs control m tlb =
    unless_refused (refusal i regs.cpl) tlb (effect_by (instr_form i) i size regs control m (view_of m control regs.cpl) tlb)

-- memory after the one write of an instruction
abbrev pub memory_after : Option Write → List ℕ → List ℕ
memory_after None m = m
memory_after (Some write) m = stored m (stores_at write.va write.width write.target write.value)
