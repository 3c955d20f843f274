-- What translations that pass a test grant to an effect: they go on passing, and its write is served by one of them.
use Rattle.std.proofs.Common.{◌≡◌, ℕ, ◌+◌, ◌*◌, ◌/◌, ◌%◌, List, length, refl, inr}
use Rattle.std.specs.Prelude.{IfOk, IfSome, Option, None, Some, Result, Ok, Err, slice_index}
use Rattle.std.proofs.lemmas.Result.{IfOk-at_ok}
use Rattle.x86_decode.specs.WellFormed.{IsWellFormed}
use Rattle.x86_decode.specs.declared.instruction.Instr.{Instr}
use Rattle.nk_bits.specs.declared.control.Control.{Control}
use Rattle.nk_bits.specs.Accesses.{IsWalked, View}
use Rattle.nk_bits.specs.Claims.{AllPass, Claim, lies_in}
use Rattle.nk_bits.specs.Outcomes.{Outcome}
use Rattle.nk_bits.specs.Translations.{NamesFramesIn, Translations}
use Rattle.page_walk.specs.declared.plan.Gathered.{Gathered}
use Rattle.page_walk.specs.declared.plan.AccessPlan.{AccessPlan}
use Rattle.page_walk.specs.declared.plan.Origin.TheVariants.{At}
use Rattle.page_walk.specs.declared.plan.SpanFault.{SpanFault}
use Rattle.page_walk.specs.MemoryAccess.{view_of}
use Rattle.page_walk.specs.AccessPlans.{checked, gathered}
use Rattle.x86_regs.specs.declared.registers.Regs.{Regs}
use Rattle.x86_regs.specs.declared.effects.Change.{Change}
use Rattle.x86_regs.specs.declared.effects.Effect.{Effect}
use Rattle.x86_regs.specs.declared.faults.Fault.{Fault}
use Rattle.x86_regs.specs.declared.form.Form.{Form}
use Rattle.x86_regs.specs.declared.form.Form.TheVariants.{Flow}
use Rattle.x86_regs.specs.declared.form.FlowForm.TheVariants as flow_form
use Rattle.x86_regs.specs.Operands.{next_of, rsp, stack_span, wrapped}
use Rattle.x86_regs.specs.OperandPlans.{instr_form, plan_by}
use Rattle.x86_regs.specs.OperandOutcomes.{outcome_by}
use Rattle.x86_regs.specs.EffectsKept.{AreRegisters, IsGranted}
use Rattle.x86_regs.specs.Effects.{concluded, effect_by, effect_of, frame_popped, in_faults, planned_effect, popped, raised_by, refusal, unless_refused}
use Rattle.x86_regs.proofs.CalmActs.{unless_refused_ok}
use Rattle.x86_regs.proofs.GrantedAccesses.{Grants, IsSpan, KeepingLaws, checked_grants, checked_kept, gathered_grants, gathered_kept, kept_on, ok_on, taken_kept, write_grants}
use Rattle.x86_regs.proofs.PlannedSpans.{below_64, planned}

-- the answer of a step, before its fault is raised
raised_ok : {A : Type 0} (answer : Result A SpanFault) (x : A) → raised_by answer ≡ Ok x → answer ≡ Ok x
raised_ok (Ok answer) x is = cc
raised_ok (Err fault) x is = cc

module _ (laws : KeepingLaws) (view : View) (test : Claim) (walked : IsWalked view test) where
  concluded_kept : (plan : AccessPlan) (found : Gathered) (outcome : Result Change Fault) (tlb : Translations) →
      IfSome plan.last IsSpan → AllPass test tlb → AllPass test (concluded view plan found outcome tlb).tlb
  concluded_kept plan found (Err fault) tlb is pass = pass
  concluded_kept plan found (Ok change) tlb is pass =
      let kept = checked_kept laws view test walked plan.last tlb is pass in
      kept_on test (in_faults (checked view plan.last tlb)) _ kept (λ last. kept)

  pub popped_kept : (m : List ℕ) (regs : Regs) (place : ℕ) (tlb : Translations) → AllPass test tlb →
      AllPass test (popped m view regs place tlb).tlb
  popped_kept m regs place tlb pass =
      taken_kept laws view test walked m (At (stack_span (wrapped (slice_index regs.general rsp + 8 * place)) 64)) tlb
      (record { address = below_64 _; sized = inr (inr (inr refl)) }) pass

  -- five times eight bytes
  frame_kept : (m : List ℕ) (regs : Regs) (tlb : Translations) → AllPass test tlb →
      AllPass test (frame_popped m view regs tlb).tlb
  unfolding frame_popped
  frame_kept m regs tlb pass =
      let rip = popped m view regs 0 tlb in
      let kept_rip = popped_kept m regs 0 tlb pass in
      let cs = popped m view regs 1 rip.tlb in
      let kept_cs = popped_kept m regs 1 rip.tlb kept_rip in
      let flags = popped m view regs 2 cs.tlb in
      let kept_flags = popped_kept m regs 2 cs.tlb kept_cs in
      let old_rsp = popped m view regs 3 flags.tlb in
      let kept_rsp = popped_kept m regs 3 flags.tlb kept_flags in
      let ss = popped m view regs 4 old_rsp.tlb in
      let kept_ss = popped_kept m regs 4 old_rsp.tlb kept_rsp in
      kept_on test rip _ kept_rip (λ _. kept_on test cs _ kept_cs (λ _. kept_on test flags _ kept_flags
      (λ _. kept_on test old_rsp _ kept_rsp (λ _. kept_on test ss _ kept_ss (λ _. kept_ss)))))

  module _ (i : Instr) (count : ℕ) (regs : Regs) (control : Control) (m : List ℕ) (formed : IsWellFormed i)
      (registers : AreRegisters regs) (tlb : Translations) (pass : AllPass test tlb) where
    planned_kept : (by : Form) → AllPass test (planned_effect by i count regs control m view tlb).tlb
    planned_kept by =
        let accesses = plan_by by i count regs in
        let is = planned i count regs formed registers by in
        let kept = gathered_kept laws view test walked m accesses tlb is pass in
        kept_on test (in_faults (gathered m view accesses tlb)) _ kept
        (λ found.
        concluded_kept accesses found (outcome_by by i (next_of regs count) regs control view.frames found) _ is.last kept)

    form_kept : (by : Form) → AllPass test (effect_by by i count regs control m view tlb).tlb
    form_kept (Flow flow_form.TrapReturn) =
        let kept = frame_kept m regs tlb pass in kept_on test (frame_popped m view regs tlb) _ kept (λ frame. kept)
    form_kept by = planned_kept by

  refused_kept : (refused : Option Fault) (tlb : Translations) (effect : Outcome Fault Effect) → AllPass test tlb →
      AllPass test effect.tlb → AllPass test (unless_refused refused tlb effect).tlb
  refused_kept (Some fault) tlb effect pass kept = pass
  refused_kept None tlb effect pass kept = kept

  module _ (size : ℕ) (whole : size % 4096 ≡ 0) (frames : view.frames ≡ size / 4096) where
    abbrev Granted : Effect → Type 0
    Granted effect = IfSome effect.write (IsGranted view test size)

    concluded_granted : (plan : AccessPlan) (found : Gathered) (outcome : Result Change Fault) (tlb : Translations) →
        IfSome plan.last IsSpan → AllPass test tlb → AllPass (lies_in size) tlb →
        Grants laws view test walked size whole frames plan.both found.both →
        IfOk (concluded view plan found outcome tlb).answer Granted
    concluded_granted plan found (Err fault) tlb is pass lie both = tt
    concluded_granted plan found (Ok change) tlb is pass lie both =
        let checks = checked_grants laws view test walked size whole frames plan.last tlb is pass lie in
        ok_on Granted (in_faults (checked view plan.last tlb)) _
        (λ last is_last.
        write_grants laws view test walked size whole frames plan.last last change.value _
        (IfOk-at_ok _ (raised_ok _ last is_last) checks)
        (write_grants laws view test walked size whole frames plan.both found.both change.value None both tt))

    module _ (i : Instr) (count : ℕ) (regs : Regs) (control : Control) (m : List ℕ) (formed : IsWellFormed i)
        (registers : AreRegisters regs) (tlb : Translations) (pass : AllPass test tlb)
        (lie : AllPass (lies_in size) tlb) where
      planned_granted : (by : Form) → IfOk (planned_effect by i count regs control m view tlb).answer Granted
      planned_granted by =
          let accesses = plan_by by i count regs in
          let is = planned i count regs formed registers by in
          let kept = gathered_kept laws view test walked m accesses tlb is pass in
          let lie_on = gathered_kept laws view (lies_in size) (laws.kept.lies_walked view size frames) m accesses tlb is lie in
          let grants = gathered_grants laws view test walked size whole frames m accesses tlb is pass lie in
          ok_on Granted (in_faults (gathered m view accesses tlb)) _
          (λ found is_found.
          concluded_granted accesses found (outcome_by by i (next_of regs count) regs control view.frames found) _ is.last
          kept lie_on (IfOk-at_ok _ (raised_ok _ found is_found) grants))

      -- IRETQ writes nothing
      form_granted : (by : Form) → IfOk (effect_by by i count regs control m view tlb).answer Granted
      form_granted (Flow flow_form.TrapReturn) = ok_on Granted (frame_popped m view regs tlb) _ (λ frame _. tt)
      form_granted by = planned_granted by

module _ (laws : KeepingLaws) (i : Instr) (size : ℕ) (regs : Regs) (control : Control) (m : List ℕ) (tlb : Translations)
    (test : Claim) (formed : IsWellFormed i) (registers : AreRegisters regs) where
  pub keeps_translations : IsWalked (view_of m control regs.cpl) test → AllPass test tlb →
      AllPass test (effect_of i size regs control m tlb).tlb
  unfolding effect_of
  keeps_translations walked pass =
      let view = view_of m control regs.cpl in
      refused_kept laws view test walked (refusal i regs.cpl) tlb _ pass
      (form_kept laws view test walked i size regs control m formed registers tlb pass (instr_form i))

  pub is_granted : length m % 4096 ≡ 0 → NamesFramesIn (length m) tlb → IsWalked (view_of m control regs.cpl) test →
      AllPass test tlb → IfOk (effect_of i size regs control m tlb).answer
      (λ effect. IfSome effect.write (IsGranted (view_of m control regs.cpl) test (length m)))
  unfolding effect_of
  is_granted whole named walked pass =
      let view = view_of m control regs.cpl in
      let lie = laws.kept.lies (length m) tlb named in
      unless_refused_ok (λ effect. IfSome effect.write (IsGranted view test (length m))) (refusal i regs.cpl) tlb _
      (form_granted laws view test walked (length m) whole refl i size regs control m formed registers tlb pass lie
      (instr_form i))
