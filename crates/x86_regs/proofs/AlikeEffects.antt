-- Effects over two memories that are alike are the same.
use Rattle.std.proofs.Common.{◌≡◌, ℕ, ◌+◌, ◌*◌, List, refl, inr, ap, ◌∙◌}
use Rattle.std.specs.Prelude.{IfSome, Result, Ok, Err, slice_index}
use Rattle.x86_decode.specs.WellFormed.{IsWellFormed}
use Rattle.x86_decode.specs.declared.instruction.Instr.{Instr}
use Rattle.nk_bits.specs.declared.control.Control.{Control}
use Rattle.nk_bits.specs.Accesses.{IsWalked, View}
use Rattle.nk_bits.specs.Claims.{AllPass, Claim}
use Rattle.nk_bits.specs.Outcomes.{Outcome}
use Rattle.nk_bits.specs.Translations.{Translations}
use Rattle.page_walk.specs.declared.plan.Gathered.{Gathered}
use Rattle.page_walk.specs.declared.plan.AccessPlan.{AccessPlan}
use Rattle.page_walk.specs.declared.plan.Origin.TheVariants.{At}
use Rattle.page_walk.specs.declared.plan.Span.{Span}
use Rattle.page_walk.specs.declared.plan.SpanFault.{SpanFault}
use Rattle.page_walk.specs.MemoryAccess.{view_of}
use Rattle.page_walk.specs.AccessPlans.{checked, gathered}
use Rattle.x86_regs.specs.declared.registers.Regs.{Regs}
use Rattle.x86_regs.specs.declared.effects.Change.{Change}
use Rattle.x86_regs.specs.declared.effects.Effect.{Effect}
use Rattle.x86_regs.specs.declared.faults.Fault.{Fault}
use Rattle.x86_regs.specs.declared.form.Form.{Form}
use Rattle.x86_regs.specs.declared.form.Form.TheVariants.{Flow}
use Rattle.x86_regs.specs.declared.form.FlowForm.TheVariants as flow_form
use Rattle.x86_regs.specs.Operands.{next_of, rsp, stack_span, wrapped}
use Rattle.x86_regs.specs.OperandPlans.{instr_form, plan_by}
use Rattle.x86_regs.specs.OperandOutcomes.{outcome_by}
use Rattle.x86_regs.specs.EffectsKept.{AreRegisters}
use Rattle.x86_regs.specs.AlikeMemories.{AreAlike}
use Rattle.x86_regs.specs.Effects.{concluded, effect_by, effect_of, frame_popped, in_faults, planned_effect, popped, refusal, unless_refused}
use Rattle.x86_regs.proofs.AlikeAccesses.{SameLaws, checked_same, frames_same, gathered_same, same_on, taken_same}
use Rattle.x86_regs.proofs.GrantedAccesses.{IsSpan, gathered_kept}
use Rattle.x86_regs.proofs.GrantedEffects.{popped_kept}
use Rattle.x86_regs.proofs.PlannedSpans.{below_64, planned}

module _ (laws : SameLaws) (test : Claim) (control : Control) (regs : Regs) (m n : List ℕ)
    (alike : AreAlike test control.root m n) (walked : IsWalked (view_of m control regs.cpl) test) where
  abbrev one : View
  one = view_of m control regs.cpl

  abbrev other : View
  other = view_of n control regs.cpl

  popped_same : (place : ℕ) (tlb : Translations) → AllPass test tlb →
      popped m one regs place tlb ≡ popped n other regs place tlb
  popped_same place tlb pass =
      let span : Span = stack_span (wrapped (slice_index regs.general rsp + 8 * place)) 64 in
      ap (λ (o : Outcome SpanFault ℕ). in_faults o)
      (taken_same laws test control regs.cpl m n alike walked (At span) tlb
      (record { address = below_64 _; sized = inr (inr (inr refl)) }) pass)

  popped_passes : (place : ℕ) (tlb : Translations) → AllPass test tlb → AllPass test (popped m one regs place tlb).tlb
  popped_passes place tlb pass = popped_kept laws.keeping one test walked m regs place tlb pass

  -- five times eight bytes
  frame_same : (tlb : Translations) → AllPass test tlb → frame_popped m one regs tlb ≡ frame_popped n other regs tlb
  unfolding frame_popped
  frame_same tlb pass =
      let rip = popped m one regs 0 tlb in
      let kept_rip = popped_passes 0 tlb pass in
      let cs = popped m one regs 1 rip.tlb in
      let kept_cs = popped_passes 1 rip.tlb kept_rip in
      let flags = popped m one regs 2 cs.tlb in
      let kept_flags = popped_passes 2 cs.tlb kept_cs in
      let old_rsp = popped m one regs 3 flags.tlb in
      let kept_rsp = popped_passes 3 flags.tlb kept_flags in
      let ss = popped m one regs 4 old_rsp.tlb in
      same_on rip (popped n other regs 0 tlb) _ _ (popped_same 0 tlb pass)
      (λ _ _. same_on cs (popped n other regs 1 rip.tlb) _ _ (popped_same 1 rip.tlb kept_rip)
      (λ _ _. same_on flags (popped n other regs 2 cs.tlb) _ _ (popped_same 2 cs.tlb kept_cs)
      (λ _ _. same_on old_rsp (popped n other regs 3 flags.tlb) _ _ (popped_same 3 flags.tlb kept_flags)
      (λ _ _. same_on ss (popped n other regs 4 old_rsp.tlb) _ _ (popped_same 4 old_rsp.tlb kept_rsp) (λ _ _. refl)))))

  concluded_same : (plan : AccessPlan) (found : Gathered) (outcome : Result Change Fault) (tlb : Translations) →
      IfSome plan.last IsSpan → AllPass test tlb →
      concluded one plan found outcome tlb ≡ concluded other plan found outcome tlb
  concluded_same plan found (Err fault) tlb is pass = refl
  concluded_same plan found (Ok change) tlb is pass =
      same_on (in_faults (checked one plan.last tlb)) (in_faults (checked other plan.last tlb)) _ _
      (ap in_faults (checked_same laws test control regs.cpl m n alike walked plan.last tlb is pass)) (λ _ _. refl)

  module _ (i : Instr) (size : ℕ) (formed : IsWellFormed i) (registers : AreRegisters regs) (tlb : Translations)
      (pass : AllPass test tlb) where
    planned_same : (by : Form) →
        planned_effect by i size regs control m one tlb ≡ planned_effect by i size regs control n other tlb
    planned_same by =
        let plan = plan_by by i size regs in
        let is = planned i size regs formed registers by in
        let kept = gathered_kept laws.keeping one test walked m plan tlb is pass in
        let after : Translations = (gathered m one plan tlb).tlb in
        same_on (in_faults (gathered m one plan tlb)) (in_faults (gathered n other plan tlb)) _ _
        (ap in_faults (gathered_same laws test control regs.cpl m n alike walked plan tlb is pass))
        (λ found _.
        concluded_same plan found (outcome_by by i (next_of regs size) regs control one.frames found) after is.last kept
        ∙ ap (λ frames.
        concluded other plan found (outcome_by by i (next_of regs size) regs control frames found) after)
        (frames_same laws test control regs.cpl m n alike walked))

    form_same : (by : Form) →
        effect_by by i size regs control m one tlb ≡ effect_by by i size regs control n other tlb
    form_same (Flow flow_form.TrapReturn) =
        same_on (frame_popped m one regs tlb) (frame_popped n other regs tlb) _ _ (frame_same tlb pass) (λ _ _. refl)
    form_same by = planned_same by

    pub effect_same : effect_of i size regs control m tlb ≡ effect_of i size regs control n tlb
    unfolding effect_of
    effect_same =
        ap (λ (effect : Outcome Fault Effect). unless_refused (refusal i regs.cpl) tlb effect)
        (form_same (instr_form i))
