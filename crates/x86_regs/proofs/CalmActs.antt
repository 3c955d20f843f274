-- Which effects load nothing: those of operations that aren't protected; and that a protected one takes CPL 0.
use Rattle.std.proofs.Common.{◌≡◌, ℕ, ◌+◌, Bool, true, false, not, List, refl, sym}
use Rattle.std.specs.Prelude.{⊤, ◌&&◌, ◌==◌, IfOk, Option, None, Some, Result, Ok, Err, if◌then◌else◌, slice_index}
use Rattle.std.proofs.lemmas.Bool.{eqb-true, false≢true}
use Rattle.decode_fields.specs.declared.place.Place.TheVariants as place
use Rattle.x86_decode.specs.Conditions.{conditions_of, is_protected}
use Rattle.x86_decode.specs.declared.instruction.Instr.{Instr}
use Rattle.x86_decode.specs.declared.operation.Op.{Op}
use Rattle.x86_decode.specs.declared.operation.Op.TheVariants as op
use Rattle.nk_bits.specs.declared.control.Control.{Control}
use Rattle.nk_bits.specs.Accesses.{View}
use Rattle.nk_bits.specs.Paging.{is_canonical}
use Rattle.nk_bits.specs.Translations.{Translations}
use Rattle.nk_bits.specs.Outcomes.{Outcome}
use Rattle.page_walk.specs.declared.plan.Gathered.{Gathered}
use Rattle.page_walk.specs.declared.plan.AccessPlan.{AccessPlan}
use Rattle.page_walk.specs.MemoryAccess.{view_of}
use Rattle.page_walk.specs.AccessPlans.{checked, gathered}
use Rattle.x86_alu.specs.Flags.{zero_flag}
use Rattle.x86_alu.specs.Quotients.{is_refused, joined}
use Rattle.x86_alu.specs.SignedNumbers.{bit, cut}
use Rattle.x86_regs.specs.declared.registers.Regs.{Regs}
use Rattle.x86_regs.specs.declared.effects.Change.{Change}
use Rattle.x86_regs.specs.declared.effects.Effect.{Effect}
use Rattle.x86_regs.specs.declared.faults.Fault.{Fault}
use Rattle.x86_regs.specs.declared.faults.Fault.TheVariants as fault
use Rattle.x86_regs.specs.declared.form.Form.{Form}
use Rattle.x86_regs.specs.declared.form.Form.TheVariants.{Data, Flow}
use Rattle.x86_regs.specs.declared.form.DataForm.TheVariants as data_form
use Rattle.x86_regs.specs.declared.form.FlowForm.TheVariants as flow_form
use Rattle.x86_regs.specs.Registers.{held}
use Rattle.x86_regs.specs.OperationForms.{form_of}
use Rattle.x86_regs.specs.Combinations.{interrupt_flag}
use Rattle.x86_regs.specs.Operands.{next_of, rax, rcx, wrapped}
use Rattle.x86_regs.specs.OperandPlans.{instr_form, is_idle, is_imul, is_nothing, plan_by}
use Rattle.x86_regs.specs.OperandOutcomes.{branched, change, count_after, is_taken_by_count, flag_act, is_signed, is_taken, outcome_by, page_dropped, string_turn, target_by, unless_idle_turn, upper_half}
use Rattle.x86_regs.specs.EffectsKept.{LoadsNothing}
use Rattle.x86_regs.specs.Effects.{concluded, effect_by, effect_of, frame_popped, in_faults, is_locked_wrongly, is_undefined, is_undefined_at_cpl_0, names_no_register, planned_effect, refusal, unless_refused}
use Rattle.x86_regs.proofs.EffectLaws.{either, then_ok}

-- every form but that of MOV to a control register and of LIDT
abbrev LoadsNoControl : Form → Type 0
LoadsNoControl (Flow flow_form.ToControl) = ⊥
LoadsNoControl (Flow flow_form.LoadTable) = ⊥
LoadsNoControl _ = ⊤

-- an operation that isn't protected has such a form
form_calm : (operation : Op) → is_protected operation ≡ false → LoadsNoControl (form_of operation)
form_calm op.Movtc free = absurd (false≢true (sym free))
form_calm op.Lidt free = absurd (false≢true (sym free))
form_calm _ free = tt

instr_calm : (i : Instr) → is_protected i.op ≡ false → LoadsNoControl (instr_form i)
instr_calm i free = either LoadsNoControl (is_imul i.op && is_nothing i.from) _ _ tt (form_calm i.op free)

flag_act_calm : (operation : Op) (flags : ℕ) → LoadsNothing (flag_act operation flags)
flag_act_calm op.Sti flags = either LoadsNothing (bit flags interrupt_flag) _ _ tt tt
flag_act_calm _ flags = tt

page_dropped_calm : (va : ℕ) → LoadsNothing (page_dropped va)
page_dropped_calm va = either LoadsNothing (is_canonical va) _ _ tt tt

abbrev IsCalmEffect : Effect → Type 0
IsCalmEffect effect = LoadsNothing effect.act

-- the outcome is a fault, or a change with such an act
abbrev GivesCalm : Result Change Fault → Type 0
GivesCalm outcome = IfOk outcome (λ change. LoadsNothing change.act)

module _ (regs : Regs) where
  branched_calm : (next : ℕ) (general : List ℕ) (taken : Bool) (target value : ℕ) →
      GivesCalm (branched regs next general taken target value)
  branched_calm next general taken target value =
      either GivesCalm (not taken) _ _ tt (either GivesCalm (is_canonical target) _ _ tt tt)

  turn_calm : (i : Instr) (next : ℕ) (general : List ℕ) (flags : ℕ) (asked : Bool) (value : ℕ) →
      GivesCalm (unless_idle_turn i regs next (string_turn i regs next general flags asked value))
  turn_calm i next general flags asked value = either GivesCalm (is_idle i regs) _ _ tt tt

  module _ (i : Instr) (next : ℕ) (control : Control) (frames : ℕ) (found : Gathered) where
    outcome_calm : (by : Form) → LoadsNoControl by → GivesCalm (outcome_by by i next regs control frames found)
    outcome_calm (Data data_form.CompareExchange) _ =
        either GivesCalm (held regs.general (place.Reg rax) i.width == cut i.width found.to) _ _ tt tt
    outcome_calm (Data data_form.ScanBits) _ = either GivesCalm (cut i.width found.from == 0) _ _ tt tt
    outcome_calm (Data data_form.Divide) _ =
        let dividend = joined i.width (upper_half regs.general i.width) (held regs.general (place.Reg rax) i.width) in
        either GivesCalm (is_refused (is_signed i.op) i.width dividend (cut i.width found.to)) _ _ tt tt
    outcome_calm (Data data_form.MoveString) _ = turn_calm i _ _ _ _ _
    outcome_calm (Data data_form.StoreString) _ = turn_calm i _ _ _ _ _
    outcome_calm (Data data_form.LoadString) _ = turn_calm i _ _ _ _ _
    outcome_calm (Data data_form.CompareStrings) _ = turn_calm i _ _ _ _ _
    outcome_calm (Data data_form.ScanString) _ = turn_calm i _ _ _ _ _
    outcome_calm (Flow flow_form.Branch) _ = branched_calm next _ (is_taken i.op regs.flags) (target_by i.from next found.from) _
    outcome_calm (Flow flow_form.Call) _ = branched_calm next _ true (target_by i.from next found.from) _
    outcome_calm (Flow flow_form.Return) _ = branched_calm next _ true (cut 64 found.to) _
    outcome_calm (Flow flow_form.CountDown) _ =
        let taken = is_taken_by_count i.op (slice_index (count_after i.op regs.general) rcx) (bit regs.flags zero_flag) in
        branched_calm next _ taken (wrapped (next + i.value)) _
    outcome_calm (Flow flow_form.ChangeInterruptFlag) _ = flag_act_calm i.op regs.flags
    outcome_calm (Flow flow_form.DropPage) _ = page_dropped_calm (cut 64 found.from)
    outcome_calm (Flow flow_form.ToControl) loads = absurd loads
    outcome_calm (Flow flow_form.LoadTable) loads = absurd loads
    outcome_calm _ _ = tt

concluded_calm : (view : View) (plan : AccessPlan) (found : Gathered) (outcome : Result Change Fault) (tlb : Translations) →
    GivesCalm outcome → IfOk (concluded view plan found outcome tlb).answer IsCalmEffect
concluded_calm view plan found (Err fault) tlb calm = tt
concluded_calm view plan found (Ok change) tlb calm =
    then_ok IsCalmEffect (in_faults (checked view plan.last tlb)).answer _ _ (λ last. calm)

module _ (i : Instr) (size : ℕ) (regs : Regs) (control : Control) (m : List ℕ) (view : View) (tlb : Translations) where
  planned_calm : (by : Form) → LoadsNoControl by →
      IfOk (planned_effect by i size regs control m view tlb).answer IsCalmEffect
  planned_calm by calm =
      then_ok IsCalmEffect (in_faults (gathered m view (plan_by by i size regs) tlb)).answer _ _
      (λ found.
      concluded_calm view (plan_by by i size regs) found _ _
      (outcome_calm regs i (next_of regs size) control view.frames found by calm))

  effect_calm : (by : Form) → LoadsNoControl by → IfOk (effect_by by i size regs control m view tlb).answer IsCalmEffect
  effect_calm (Flow flow_form.TrapReturn) calm = then_ok IsCalmEffect (frame_popped m view regs tlb).answer _ _ (λ frame. tt)
  effect_calm by calm = planned_calm by calm

-- what holds of the effect holds where nothing is refused
pub unless_refused_ok : (P : Effect → Type 0) (refused : Option Fault) (tlb : Translations) (effect : Outcome Fault Effect) →
    IfOk effect.answer P → IfOk (unless_refused refused tlb effect).answer P
unless_refused_ok P (Some fault) tlb effect holds = tt
unless_refused_ok P None tlb effect holds = holds

pub loads_nothing : (i : Instr) (size : ℕ) (regs : Regs) (control : Control) (m : List ℕ) (tlb : Translations) →
    is_protected i.op ≡ false → IfOk (effect_of i size regs control m tlb).answer (λ effect. LoadsNothing effect.act)
unfolding effect_of
loads_nothing i size regs control m tlb free =
    unless_refused_ok IsCalmEffect (refusal i regs.cpl) tlb _
    (effect_calm i size regs control m (view_of m control regs.cpl) tlb (instr_form i) (instr_calm i free))

-- a protected operation takes CPL 0
protected_needs : (operation : Op) → is_protected operation ≡ true → (conditions_of operation).needs_cpl_0 ≡ true
protected_needs op.Movtc is = refl
protected_needs op.Movtd is = refl
protected_needs op.Wrmsr is = refl
protected_needs op.Lldt is = refl
protected_needs op.Ltr is = refl
protected_needs op.Lgdt is = refl
protected_needs op.Lidt is = refl
protected_needs op.Lmsw is = refl
protected_needs _ is = absurd (false≢true is)

-- where nothing is refused, the CPL is 0
abbrev RefusesOr0 : ℕ → Option Fault → Type 0
RefusesOr0 cpl None = cpl ≡ 0
RefusesOr0 cpl (Some fault) = ⊤

by_cpl : (needs undefined : Bool) (cpl : ℕ) → needs ≡ true → RefusesOr0 cpl
    (if needs && not (cpl == 0) then Some (fault.General 0) else if undefined then Some fault.Opcode else None)
by_cpl false undefined cpl is = absurd (false≢true is)
by_cpl true undefined cpl is = by_level (cpl == 0) refl
  where
    by_level : (b : Bool) → (cpl == 0) ≡ b → RefusesOr0 cpl
        (if not b then Some (fault.General 0) else if undefined then Some fault.Opcode else None)
    by_level false at = tt
    by_level true at = either (RefusesOr0 cpl) undefined _ _ tt (eqb-true cpl 0 at)

refuses : (i : Instr) (cpl : ℕ) → is_protected i.op ≡ true → RefusesOr0 cpl (refusal i cpl)
refuses i cpl is =
    let conditions = conditions_of i.op in
    either (RefusesOr0 cpl) (is_locked_wrongly i) _ _ tt
    (either (RefusesOr0 cpl) (is_undefined conditions.undefined i.width) _ _ tt
    (either (RefusesOr0 cpl) (names_no_register i.op i.value) _ _ tt
    (by_cpl conditions.needs_cpl_0 (is_undefined_at_cpl_0 conditions.undefined) cpl (protected_needs i.op is))))

pub takes_cpl_0 : (i : Instr) (size : ℕ) (regs : Regs) (control : Control) (m : List ℕ) (tlb : Translations) →
    is_protected i.op ≡ true → IfOk (effect_of i size regs control m tlb).answer (λ effect. regs.cpl ≡ 0)
unfolding effect_of
takes_cpl_0 i size regs control m tlb is = by_refusal (refusal i regs.cpl) _ (refuses i regs.cpl is)
  where
    by_refusal : (refused : Option Fault) (effect : Outcome Fault Effect) → RefusesOr0 regs.cpl refused →
        IfOk (unless_refused refused tlb effect).answer (λ effect. regs.cpl ≡ 0)
    by_refusal (Some fault) effect at = tt
    by_refusal None effect at = by_answer effect.answer
      where
        by_answer : (answer : Result Effect Fault) → IfOk answer (λ effect. regs.cpl ≡ 0)
        by_answer (Ok effect) = at
        by_answer (Err fault) = tt
