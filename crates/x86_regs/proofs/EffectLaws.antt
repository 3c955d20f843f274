-- What an effect keeps and what it leaves to a delivery: first of the outcome of each form, then of what is made of it.
use Rattle.std.proofs.Common.{◌≡◌, ℕ, ◌+◌, ◌/◌, Bool, true, false, List, length, arith, refl}
use Rattle.std.specs.Prelude.{◌==◌, not, ⊤, IfOk, Option, None, Some, Result, Ok, Err, if◌then◌else◌, slice_index}
use Rattle.std.proofs.lemmas.Bool.{ltb-true}
use Rattle.std.proofs.lemmas.Result.{IfOk-weaker}
use Rattle.decode_fields.specs.declared.place.Place.TheVariants as place
use Rattle.x86_decode.specs.declared.instruction.Instr.{Instr}
use Rattle.x86_decode.specs.declared.operation.Op.{Op}
use Rattle.x86_decode.specs.declared.operation.Op.TheVariants as op
use Rattle.nk_bits.specs.declared.control.Control.{Control}
use Rattle.nk_bits.specs.Accesses.{View}
use Rattle.nk_bits.specs.Paging.{is_canonical}
use Rattle.nk_bits.specs.Translations.{Translations}
use Rattle.nk_bits.specs.Outcomes.{Outcome, then_by}
use Rattle.page_walk.specs.declared.plan.AccessPlan.{AccessPlan}
use Rattle.page_walk.specs.declared.plan.Gathered.{Gathered}
use Rattle.page_walk.specs.MemoryAccess.{view_of}
use Rattle.page_walk.specs.AccessPlans.{checked, gathered}
use Rattle.x86_alu.specs.Flags.{zero_flag}
use Rattle.x86_alu.specs.Quotients.{is_refused, joined}
use Rattle.x86_alu.specs.SignedNumbers.{bit, cut}
use Rattle.x86_regs.specs.declared.registers.Regs.{Regs}
use Rattle.x86_regs.specs.declared.effects.Act.{Act}
use Rattle.x86_regs.specs.declared.effects.Act.TheVariants as act
use Rattle.x86_regs.specs.declared.effects.Change.{Change}
use Rattle.x86_regs.specs.declared.effects.Effect.{Effect}
use Rattle.x86_regs.specs.declared.faults.Fault.{Fault}
use Rattle.x86_regs.specs.declared.form.Form.{Form}
use Rattle.x86_regs.specs.declared.form.Form.TheVariants.{Data, Flow}
use Rattle.x86_regs.specs.declared.form.DataForm.TheVariants as data_form
use Rattle.x86_regs.specs.declared.form.FlowForm.TheVariants as flow_form
use Rattle.x86_regs.specs.Registers.{held}
use Rattle.x86_regs.specs.Combinations.{interrupt_flag}
use Rattle.x86_regs.specs.Operands.{next_of, rax, rcx, wrapped}
use Rattle.x86_regs.specs.OperandPlans.{instr_form, is_idle, plan_by}
use Rattle.x86_regs.specs.OperandOutcomes.{branched, change, control_act, control_loaded, count_after, is_taken_by_count, flag_act, going_on, is_cr0, is_cr3, is_cr4, is_signed, is_taken, outcome_by, page_dropped, string_turn, target_by, unless_idle_turn, upper_half}
use Rattle.x86_regs.specs.Effects.{IfDelivered, LeavesToDelivery, LoadsFrameIn, concluded, effect_by, effect_of, frame_popped, in_faults, planned_effect, refusal, unless_refused}

-- what the law says of an effect, over a memory of so many bytes
record Keeps (size : ℕ) (regs : Regs) (effect : Effect) : Type 0 where
  cpl_stays : effect.regs.cpl ≡ regs.cpl
  ss_stays : effect.regs.ss ≡ regs.ss
  loads : LoadsFrameIn size effect.act
  leaves : LeavesToDelivery regs effect

-- an act that is no delivery, and loads no frame outside the memory
record IsCalmAct (size : ℕ) (a : Act) : Type 0 where
  loads : LoadsFrameIn size a
  delivers_none : IfDelivered a ⊥

-- a change with such an act, which leaves the CPL and SS
record IsCalm (size : ℕ) (regs : Regs) (change : Change) : Type 0 where
  cpl_stays : change.regs.cpl ≡ regs.cpl
  ss_stays : change.regs.ss ≡ regs.ss
  calm : IsCalmAct size change.act

-- what holds of two things holds of the one that is chosen
pub either : {A : Type 0} (P : A → Type 0) (b : Bool) (one other : A) → P one → P other → P (if b then one else other)
either P true one other first second = first
either P false one other first second = second

-- what holds of the answer of a step, whatever the step before answered, holds after both
pub then_ok : {F A B : Type 0} (Q : B → Type 0) (answer : Result A F) (tlb : Translations) (next : A → Translations → Outcome F B) →
    ((x : A) → IfOk (next x tlb).answer Q) → IfOk (then_by answer tlb next).answer Q
then_ok Q (Ok x) tlb next later = later x
then_ok Q (Err fault) tlb next later = tt

-- every form but that of INT3 and INT
abbrev IsNoTrap : Form → Type 0
IsNoTrap (Flow flow_form.Trap) = ⊥
IsNoTrap _ = ⊤

-- where nothing is delivered, all that is to hold before a delivery holds
undelivered : (a : Act) (P : Type 0) → IfDelivered a ⊥ → IfDelivered a P
undelivered (act.Interrupt vector) P none = absurd none
undelivered (act.Return frame) P none = absurd none
undelivered _ P none = tt

-- the acts of CLI, STI and their kin, and that of INVLPG
flag_act_calm : (size : ℕ) (operation : Op) (flags : ℕ) → IsCalmAct size (flag_act operation flags)
flag_act_calm size op.Sti flags =
    either (IsCalmAct size) (bit flags interrupt_flag) _ _ (record { loads = tt; delivers_none = tt }) (record { loads = tt; delivers_none = tt })
flag_act_calm size _ flags = record { loads = tt; delivers_none = tt }

page_dropped_calm : (size va : ℕ) → IsCalmAct size (page_dropped va)
page_dropped_calm size va =
    either (IsCalmAct size) (is_canonical va) _ _ (record { loads = tt; delivers_none = tt }) (record { loads = tt; delivers_none = tt })

module _ (size frames : ℕ) (whole : frames ≡ size / 4096) (regs : Regs) where
  -- the outcome is a fault, or such a change
  abbrev GivesCalm : Result Change Fault → Type 0
  GivesCalm outcome = IfOk outcome (IsCalm size regs)

  calm : (general : List ℕ) (flags rip value : ℕ) (a : Act) → IsCalmAct size a → GivesCalm (change (going_on regs general flags rip) value a)
  calm general flags rip value a is = record { cpl_stays = refl; ss_stays = refl; calm = is }

  quiet : (general : List ℕ) (flags rip value : ℕ) → GivesCalm (change (going_on regs general flags rip) value act.Quiet)
  quiet general flags rip value = calm general flags rip value act.Quiet (record { loads = tt; delivers_none = tt })

  branched_calm : (next : ℕ) (general : List ℕ) (taken : Bool) (target value : ℕ) → GivesCalm (branched regs next general taken target value)
  branched_calm next general taken target value =
      either GivesCalm (not taken) _ _ (quiet general regs.flags next value)
      (either GivesCalm (is_canonical target) _ _ (quiet general regs.flags target value) tt)

  -- one turn of a string instruction, or none
  turn_calm : (i : Instr) (next : ℕ) (general : List ℕ) (flags : ℕ) (asked : Bool) (value : ℕ) →
      GivesCalm (unless_idle_turn i regs next (string_turn i regs next general flags asked value))
  turn_calm i next general flags asked value =
      either GivesCalm (is_idle i regs) _ _ (quiet regs.general regs.flags next 0) (quiet _ flags _ value)

  control_calm : (admitted : Bool) (next : ℕ) (a : Act) → (admitted ≡ true → IsCalmAct size a) → GivesCalm (control_act admitted regs next a)
  control_calm true next a calm_act = calm regs.general regs.flags next 0 a (calm_act refl)
  control_calm false next a calm_act = tt

  -- what is loaded into CR3 was compared with the number of frames
  loaded_calm : (n next value : ℕ) → GivesCalm (control_loaded n regs next frames value)
  loaded_calm n next value =
      either GivesCalm (n == 0) _ _ (control_calm (is_cr0 value) next (act.Cr0 value) (λ _. record { loads = tt; delivers_none = tt }))
      (either GivesCalm (n == 2) _ _ (control_calm true next (act.Cr2 value) (λ _. record { loads = tt; delivers_none = tt }))
      (either GivesCalm (n == 3) _ _ (control_calm (is_cr3 frames value) next (act.Cr3 value) (λ is. record { loads = omega (arith, ltb-true (value / 4096) frames is, whole); delivers_none = tt }))
      (control_calm (is_cr4 value) next (act.Cr4 value) (λ _. record { loads = tt; delivers_none = tt }))))

  module _ (i : Instr) (next : ℕ) (control : Control) (found : Gathered) where
    -- the outcome of each such form: that of IRETQ isn't used, since its effect is a return's
    outcome_calm : (by : Form) → IsNoTrap by → GivesCalm (outcome_by by i next regs control frames found)
    outcome_calm (Data data_form.CompareExchange) _ =
        either GivesCalm (held regs.general (place.Reg rax) i.width == cut i.width found.to) _ _ (quiet _ _ _ _) (quiet _ _ _ _)
    outcome_calm (Data data_form.ScanBits) _ = either GivesCalm (cut i.width found.from == 0) _ _ (quiet _ _ _ _) (quiet _ _ _ _)
    outcome_calm (Data data_form.Divide) _ =
        let dividend = joined i.width (upper_half regs.general i.width) (held regs.general (place.Reg rax) i.width) in
        either GivesCalm (is_refused (is_signed i.op) i.width dividend (cut i.width found.to)) _ _ tt (quiet _ _ _ _)
    outcome_calm (Data data_form.MoveString) _ = turn_calm i _ _ _ _ _
    outcome_calm (Data data_form.StoreString) _ = turn_calm i _ _ _ _ _
    outcome_calm (Data data_form.LoadString) _ = turn_calm i _ _ _ _ _
    outcome_calm (Data data_form.CompareStrings) _ = turn_calm i _ _ _ _ _
    outcome_calm (Data data_form.ScanString) _ = turn_calm i _ _ _ _ _
    outcome_calm (Flow flow_form.Branch) _ = branched_calm next _ (is_taken i.op regs.flags) (target_by i.from next found.from) _
    outcome_calm (Flow flow_form.Call) _ = branched_calm next _ true (target_by i.from next found.from) _
    outcome_calm (Flow flow_form.Return) _ = branched_calm next _ true (cut 64 found.to) _
    outcome_calm (Flow flow_form.CountDown) _ =
        branched_calm next _ (is_taken_by_count i.op (slice_index (count_after i.op regs.general) rcx) (bit regs.flags zero_flag)) (wrapped (next + i.value)) _
    outcome_calm (Flow flow_form.ChangeInterruptFlag) _ = calm _ _ _ _ _ (flag_act_calm size i.op regs.flags)
    outcome_calm (Flow flow_form.ToControl) _ = loaded_calm i.value next (cut 64 found.from)
    outcome_calm (Flow flow_form.DropPage) _ = calm _ _ _ _ _ (page_dropped_calm size (cut 64 found.from))
    outcome_calm (Flow flow_form.Trap) other = absurd other
    outcome_calm _ _ = record { cpl_stays = refl; ss_stays = refl; calm = record { loads = tt; delivers_none = tt } }

-- the effect of such a change, whatever the check of its write finds
concluded_keeps : (size : ℕ) (regs : Regs) (view : View) (plan : AccessPlan) (found : Gathered) (outcome : Result Change Fault) (tlb : Translations) →
    IfOk outcome (IsCalm size regs) → IfOk (concluded view plan found outcome tlb).answer (Keeps size regs)
concluded_keeps size regs view plan found (Err fault) tlb it = tt
concluded_keeps size regs view plan found (Ok change) tlb it =
    then_ok (Keeps size regs) (in_faults (checked view plan.last tlb)).answer _ _
    (λ last. record { cpl_stays = it.cpl_stays; ss_stays = it.ss_stays; loads = it.calm.loads; leaves = undelivered change.act _ it.calm.delivers_none })

module _ (i : Instr) (count : ℕ) (regs : Regs) (control : Control) (m : List ℕ) (view : View) (whole : view.frames ≡ length m / 4096) (tlb : Translations) where
  planned_keeps : (by : Form) → IsNoTrap by → IfOk (planned_effect by i count regs control m view tlb).answer (Keeps (length m) regs)
  planned_keeps by calm =
      then_ok (Keeps (length m) regs) (in_faults (gathered m view (plan_by by i count regs) tlb)).answer _ _
      (λ found. concluded_keeps (length m) regs view (plan_by by i count regs) found _ _
      (outcome_calm (length m) view.frames whole regs i (next_of regs count) control found by calm))

  -- INT3, INT and IRETQ change RIP alone, and write nothing
  form_keeps : (by : Form) → IfOk (effect_by by i count regs control m view tlb).answer (Keeps (length m) regs)
  form_keeps (Flow flow_form.TrapReturn) =
      then_ok (Keeps (length m) regs) (frame_popped m view regs tlb).answer _ _
      (λ frame. record { cpl_stays = refl; ss_stays = refl; loads = tt; leaves = (refl, refl) })
  form_keeps (Flow flow_form.Trap) =
      then_ok (Keeps (length m) regs) (in_faults (gathered m view (plan_by (Flow flow_form.Trap) i count regs) tlb)).answer _ _
      (λ found. record { cpl_stays = refl; ss_stays = refl; loads = tt; leaves = (refl, refl) })
  form_keeps by = planned_keeps by tt

refused_keeps : (size : ℕ) (regs : Regs) (refused : Option Fault) (tlb : Translations) (effect : Outcome Fault Effect) →
    IfOk effect.answer (Keeps size regs) → IfOk (unless_refused refused tlb effect).answer (Keeps size regs)
refused_keeps size regs (Some fault) tlb effect keeps = tt
refused_keeps size regs None tlb effect keeps = keeps

effect_keeps : (i : Instr) (size : ℕ) (regs : Regs) (control : Control) (m : List ℕ) (tlb : Translations) →
    IfOk (effect_of i size regs control m tlb).answer (Keeps (length m) regs)
unfolding effect_of
effect_keeps i size regs control m tlb =
    refused_keeps (length m) regs (refusal i regs.cpl) tlb _ (form_keeps i size regs control m (view_of m control regs.cpl) refl tlb (instr_form i))

pub keeps_privilege : (i : Instr) (size : ℕ) (regs : Regs) (control : Control) (m : List ℕ) (tlb : Translations) →
    IfOk (effect_of i size regs control m tlb).answer (λ effect. (effect.regs.cpl ≡ regs.cpl) × (effect.regs.ss ≡ regs.ss))
keeps_privilege i size regs control m tlb =
    IfOk-weaker _ (Keeps (length m) regs) _ (λ effect keeps. (keeps.cpl_stays, keeps.ss_stays)) (effect_keeps i size regs control m tlb)

pub loads_a_frame : (i : Instr) (size : ℕ) (regs : Regs) (control : Control) (m : List ℕ) (tlb : Translations) →
    IfOk (effect_of i size regs control m tlb).answer (λ effect. LoadsFrameIn (length m) effect.act)
loads_a_frame i size regs control m tlb =
    IfOk-weaker _ (Keeps (length m) regs) _ (λ effect keeps. keeps.loads) (effect_keeps i size regs control m tlb)

pub leaves_to_delivery : (i : Instr) (size : ℕ) (regs : Regs) (control : Control) (m : List ℕ) (tlb : Translations) →
    IfOk (effect_of i size regs control m tlb).answer (LeavesToDelivery regs)
leaves_to_delivery i size regs control m tlb =
    IfOk-weaker _ (Keeps (length m) regs) _ (λ effect keeps. keeps.leaves) (effect_keeps i size regs control m tlb)
