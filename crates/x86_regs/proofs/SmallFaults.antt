-- The fault of an effect has numbers of 64 bits: that of each access, of each condition, and of the outcome.
use Rattle.std.proofs.Common.{ℕ, ◌+◌, ◌^◌, ◌<◌, ◌*◌, Bool, true, false, not, List, arith, refl, inr}
use Rattle.std.specs.Prelude.{◌==◌, ◌&&◌, IfErr, IfSome, Option, None, Some, Result, Ok, Err, slice_index}
use Rattle.x86_decode.specs.WellFormed.{IsWellFormed}
use Rattle.x86_decode.specs.Conditions.{conditions_of}
use Rattle.x86_decode.specs.declared.instruction.Instr.{Instr}
use Rattle.nk_bits.specs.declared.access.Access.TheVariants.{Read, Write}
use Rattle.nk_bits.specs.declared.control.Control.{Control}
use Rattle.nk_bits.specs.declared.fault.AccessFault.{AccessFault}
use Rattle.nk_bits.specs.declared.fault.AccessFault.TheVariants as access_fault
use Rattle.nk_bits.specs.declared.leaf.Target.{Target}
use Rattle.nk_bits.specs.Accesses.{IsSmallAccessFault, View, accessed}
use Rattle.nk_bits.specs.Outcomes.{Outcome, answered, then_by}
use Rattle.nk_bits.specs.Translations.{Translations}
use Rattle.nk_bits.specs.AccessLaws.{AccessLaws}
use Rattle.page_walk.specs.declared.plan.Gathered.{Gathered}
use Rattle.page_walk.specs.declared.plan.AccessPlan.{AccessPlan}
use Rattle.page_walk.specs.declared.plan.Origin.{Origin}
use Rattle.page_walk.specs.declared.plan.Origin.TheVariants.{Is, At}
use Rattle.page_walk.specs.declared.plan.Span.{Span}
use Rattle.page_walk.specs.declared.plan.SpanFault.{SpanFault}
use Rattle.page_walk.specs.MemoryAccess.{value_at, view_of}
use Rattle.page_walk.specs.AccessPlans.{checked, gathered, with_stack, taken}
use Rattle.x86_regs.specs.declared.registers.Regs.{Regs}
use Rattle.x86_regs.specs.declared.effects.Change.{Change}
use Rattle.x86_regs.specs.declared.effects.Effect.{Effect}
use Rattle.x86_regs.specs.declared.faults.Fault.{Fault}
use Rattle.x86_regs.specs.declared.form.Form.{Form}
use Rattle.x86_regs.specs.declared.form.Form.TheVariants.{Flow}
use Rattle.x86_regs.specs.declared.form.FlowForm.TheVariants as flow_form
use Rattle.x86_regs.specs.Operands.{next_of, rsp, stack_span, wrapped}
use Rattle.x86_regs.specs.OperandPlans.{instr_form, plan_by}
use Rattle.x86_regs.specs.EffectsKept.{AreRegisters, IsSmallFault}
use Rattle.x86_regs.specs.Effects.{concluded, effect_by, effect_of, frame_popped, is_locked_wrongly, is_undefined, is_undefined_at_cpl_0, names_no_register, planned_effect, popped, access_raised, raised_by, refusal, unless_refused}
use Rattle.x86_regs.proofs.EffectLaws.{either}
use Rattle.x86_regs.proofs.GrantedAccesses.{IsPlanned, IsSpan, IsSpanOf}
use Rattle.x86_regs.proofs.SmallActs.{IsSmall, none_small, outcome_small}
use Rattle.x86_regs.proofs.PlannedSpans.{below_64, planned}

-- the fault of a step after another
pub then_err : {F A B : Type 0} (Q : F → Type 0) (answer : Result A F) (tlb : Translations)
    (next : A → Translations → Outcome F B) → IfErr answer Q → ((x : A) → IfErr (next x tlb).answer Q) →
    IfErr (then_by answer tlb next).answer Q
then_err Q (Ok x) tlb next first later = later x
then_err Q (Err fault) tlb next first later = first

abbrev IsSmallSpanFault : SpanFault → Type 0
IsSmallSpanFault it = IsSmallAccessFault it.fault

marked_small : {A : Type 0} (span : Span) (answer : Result A AccessFault) → IfErr answer IsSmallAccessFault →
    IfErr (with_stack span answer) IsSmallSpanFault
marked_small span (Ok x) small = tt
marked_small span (Err fault) small = small

-- five bits are less than 64
wide : (code : ℕ) → code < 2 ^ 5 → code < 2 ^ 64
wide code few = omega arith

pub raised_small : (stack : Bool) (it : AccessFault) → IsSmallAccessFault it → IsSmallFault (access_raised stack it)
raised_small stack (access_fault.Page code address) small = (wide code small.0, small.1)
raised_small true access_fault.NonCanonical small = tt
raised_small false access_fault.NonCanonical small = none_small

raised_by_small : {A : Type 0} (answer : Result A SpanFault) → IfErr answer IsSmallSpanFault →
    IfErr (raised_by answer) IsSmallFault
raised_by_small (Ok x) small = tt
raised_by_small (Err it) small = raised_small it.stack it.fault small

-- the conditions, which hold no number
abbrev IsSmallRefusal : Option Fault → Type 0
IsSmallRefusal refused = IfSome refused IsSmallFault

refusal_small : (i : Instr) (cpl : ℕ) → IsSmallRefusal (refusal i cpl)
refusal_small i cpl =
    let conditions = conditions_of i.op in
    either IsSmallRefusal (is_locked_wrongly i) _ _ tt
    (either IsSmallRefusal (is_undefined conditions.undefined i.width) _ _ tt
    (either IsSmallRefusal (names_no_register i.op i.value) _ _ tt
    (either IsSmallRefusal (conditions.needs_cpl_0 && not (cpl == 0)) _ _ none_small
    (either IsSmallRefusal (is_undefined_at_cpl_0 conditions.undefined) _ _ tt tt))))

module _ (laws : AccessLaws) (view : View) where
  checked_small : (span : Option Span) (tlb : Translations) → IfSome span IsSpan →
      IfErr (checked view span tlb).answer IsSmallSpanFault
  checked_small None tlb is = tt
  checked_small (Some span) tlb is =
      let access : Outcome AccessFault Target = accessed view Write tlb span.va span.width in
      then_err IsSmallSpanFault (with_stack span access.answer) access.tlb (λ target after. answered (Some target) after)
      (marked_small span access.answer (laws.fault view Write tlb span.va span.width is.address)) (λ target. tt)

  taken_small : (m : List ℕ) (source : Origin) (tlb : Translations) → IsSpanOf source →
      IfErr (taken m view source tlb).answer IsSmallSpanFault
  taken_small m (Is value) tlb is = tt
  taken_small m (At span) tlb is =
      let access : Outcome AccessFault Target = accessed view Read tlb span.va span.width in
      marked_small span _
      (then_err IsSmallAccessFault access.answer access.tlb
      (λ target after. answered (value_at m span.va span.width target) after)
      (laws.fault view Read tlb span.va span.width is.address) (λ target. tt))

  gathered_small : (m : List ℕ) (plan : AccessPlan) (tlb : Translations) → IsPlanned plan →
      IfErr (gathered m view plan tlb).answer IsSmallSpanFault
  unfolding gathered
  gathered_small m plan tlb is =
      let both = checked view plan.both tlb in
      let to = taken m view plan.to both.tlb in
      let from = taken m view plan.from to.tlb in
      then_err IsSmallSpanFault both.answer both.tlb _ (checked_small plan.both tlb is.both)
      (λ _. then_err IsSmallSpanFault to.answer to.tlb _ (taken_small m plan.to both.tlb is.to)
      (λ _. then_err IsSmallSpanFault from.answer from.tlb _ (taken_small m plan.from to.tlb is.from) (λ _. tt)))

  popped_small : (m : List ℕ) (regs : Regs) (place : ℕ) (tlb : Translations) →
      IfErr (popped m view regs place tlb).answer IsSmallFault
  popped_small m regs place tlb =
      raised_by_small _
      (taken_small m (At (stack_span (wrapped (slice_index regs.general rsp + 8 * place)) 64)) tlb
      (record { address = below_64 _; sized = inr (inr (inr refl)) }))

  -- five times eight bytes
  frame_small : (m : List ℕ) (regs : Regs) (tlb : Translations) →
      IfErr (frame_popped m view regs tlb).answer IsSmallFault
  unfolding frame_popped
  frame_small m regs tlb =
      let rip = popped m view regs 0 tlb in
      let cs = popped m view regs 1 rip.tlb in
      let flags = popped m view regs 2 cs.tlb in
      let old_rsp = popped m view regs 3 flags.tlb in
      let ss = popped m view regs 4 old_rsp.tlb in
      then_err IsSmallFault rip.answer rip.tlb _ (popped_small m regs 0 tlb)
      (λ _. then_err IsSmallFault cs.answer cs.tlb _ (popped_small m regs 1 rip.tlb)
      (λ _. then_err IsSmallFault flags.answer flags.tlb _ (popped_small m regs 2 cs.tlb)
      (λ _. then_err IsSmallFault old_rsp.answer old_rsp.tlb _ (popped_small m regs 3 flags.tlb)
      (λ _. then_err IsSmallFault ss.answer ss.tlb _ (popped_small m regs 4 old_rsp.tlb) (λ _. tt)))))

  concluded_small : (plan : AccessPlan) (found : Gathered) (outcome : Result Change Fault) (tlb : Translations) →
      IfSome plan.last IsSpan → IsSmall outcome → IfErr (concluded view plan found outcome tlb).answer IsSmallFault
  concluded_small plan found (Err fault) tlb is small = small
  concluded_small plan found (Ok change) tlb is small =
      let last = checked view plan.last tlb in
      then_err IsSmallFault (raised_by last.answer) last.tlb _
      (raised_by_small last.answer (checked_small plan.last tlb is)) (λ _. tt)

  module _ (i : Instr) (size : ℕ) (regs : Regs) (control : Control) (m : List ℕ) (tlb : Translations)
      (formed : IsWellFormed i) (registers : AreRegisters regs) where
    planned_small : (by : Form) → IfErr (planned_effect by i size regs control m view tlb).answer IsSmallFault
    planned_small by =
        let accesses = plan_by by i size regs in
        let is = planned i size regs formed registers by in
        let found = gathered m view accesses tlb in
        then_err IsSmallFault (raised_by found.answer) found.tlb _
        (raised_by_small found.answer (gathered_small m accesses tlb is))
        (λ values.
        concluded_small accesses values _ _ is.last
        (outcome_small regs i (next_of regs size) control view.frames values by))

    form_small : (by : Form) → IfErr (effect_by by i size regs control m view tlb).answer IsSmallFault
    form_small (Flow flow_form.TrapReturn) =
        let frame = frame_popped m view regs tlb in
        then_err IsSmallFault frame.answer frame.tlb _ (frame_small m regs tlb) (λ _. tt)
    form_small by = planned_small by

refused_small : (refused : Option Fault) (tlb : Translations) (effect : Outcome Fault Effect) → IsSmallRefusal refused →
    IfErr effect.answer IsSmallFault → IfErr (unless_refused refused tlb effect).answer IsSmallFault
refused_small (Some fault) tlb effect small later = small
refused_small None tlb effect small later = later

pub faults_small : AccessLaws → (i : Instr) (size : ℕ) (regs : Regs) (control : Control) (m : List ℕ)
    (tlb : Translations) → IsWellFormed i → AreRegisters regs →
    IfErr (effect_of i size regs control m tlb).answer IsSmallFault
unfolding effect_of
faults_small laws i size regs control m tlb formed registers =
    refused_small (refusal i regs.cpl) tlb _ (refusal_small i regs.cpl)
    (form_small laws (view_of m control regs.cpl) i size regs control m tlb formed registers (instr_form i))
