-- An instruction that puts a byte out at a port writes nothing to memory.
use Rattle.std.proofs.Common.{◌≡◌, ℕ, ◌+◌, Bool, true, false, List, refl}
use Rattle.std.specs.Prelude.{⊤, IfOk, Option, None, Some, Result, Ok, Err, if◌then◌else◌, ◌==◌, not, slice_index}
use Rattle.decode_fields.specs.declared.place.Place.TheVariants as place
use Rattle.x86_decode.specs.declared.instruction.Instr.{Instr}
use Rattle.x86_decode.specs.declared.operation.Op.{Op}
use Rattle.x86_decode.specs.declared.operation.Op.TheVariants as op
use Rattle.nk_bits.specs.declared.control.Control.{Control}
use Rattle.nk_bits.specs.Accesses.{View}
use Rattle.nk_bits.specs.Outcomes.{Outcome, then_by}
use Rattle.nk_bits.specs.Paging.{is_canonical}
use Rattle.nk_bits.specs.Translations.{Translations}
use Rattle.page_walk.specs.declared.plan.AccessPlan.{AccessPlan}
use Rattle.page_walk.specs.declared.plan.Gathered.{Gathered}
use Rattle.page_walk.specs.AccessPlans.{checked, gathered}
use Rattle.page_walk.specs.MemoryAccess.{view_of}
use Rattle.x86_alu.specs.Flags.{zero_flag}
use Rattle.x86_alu.specs.Quotients.{is_refused, joined}
use Rattle.x86_alu.specs.SignedNumbers.{bit, cut}
use Rattle.x86_regs.specs.declared.effects.Act.{Act}
use Rattle.x86_regs.specs.declared.effects.Act.TheVariants as act
use Rattle.x86_regs.specs.declared.effects.Change.{Change}
use Rattle.x86_regs.specs.declared.effects.Effect.{Effect}
use Rattle.x86_regs.specs.declared.faults.Fault.{Fault}
use Rattle.x86_regs.specs.declared.form.Form.{Form}
use Rattle.x86_regs.specs.declared.form.Form.TheVariants.{Data, Flow}
use Rattle.x86_regs.specs.declared.form.DataForm.TheVariants as data_form
use Rattle.x86_regs.specs.declared.form.FlowForm.TheVariants as flow_form
use Rattle.x86_regs.specs.declared.registers.Regs.{Regs}
use Rattle.x86_regs.specs.Registers.{held}
use Rattle.x86_regs.specs.Combinations.{interrupt_flag}
use Rattle.x86_regs.specs.Operands.{next_of, rax, rcx, wrapped}
use Rattle.x86_regs.specs.OperandPlans.{instr_form, is_idle, plan_by}
use Rattle.x86_regs.specs.OperandOutcomes.{branched, control_act, control_loaded, count_after, flag_act, is_cr0, is_cr3, is_cr4, is_signed, is_taken, is_taken_by_count, outcome_by, page_dropped, string_turn, target_by, unless_idle_turn, upper_half}
use Rattle.x86_regs.specs.Effects.{concluded, effect_by, effect_of, frame_popped, in_faults, planned_effect, refusal, unless_refused}

-- said of an act only where it puts a byte out
abbrev pub IfOut : Act → Type 0 → Type 0
IfOut (act.Out byte port) P = P
IfOut _ P = ⊤

abbrev pub PutsOutAlone : Effect → Type 0
PutsOutAlone effect = IfOut effect.act (effect.write ≡ None)

either : {A : Type 0} (P : A → Type 0) (b : Bool) (one other : A) → P one → P other → P (if b then one else other)
either P true one other first second = first
either P false one other first second = second

-- what holds of the answer of a step, whatever the step before answered, holds after both
pub then_ok : {F A B : Type 0} (Q : B → Type 0) (answer : Result A F) (tlb : Translations)
    (next : A → Translations → Outcome F B) → ((x : A) → IfOk (next x tlb).answer Q)
    → IfOk (then_by answer tlb next).answer Q
then_ok Q (Ok x) tlb next later = later x
then_ok Q (Err fault) tlb next later = tt

-- every form but that of OUT
abbrev IsNoOutput : Form → Type 0
IsNoOutput (Flow flow_form.Output) = ⊥
IsNoOutput _ = ⊤

-- an outcome that puts nothing out
abbrev IsSilentAct : Act → Type 0
IsSilentAct a = IfOut a ⊥

abbrev IsSilent : Result Change Fault → Type 0
IsSilent outcome = IfOk outcome (λ (change : Change). IsSilentAct change.act)

silent_alone : (a : Act) (P : Type 0) → IsSilentAct a → IfOut a P
silent_alone (act.Out byte port) P none = absurd none
silent_alone _ P none = tt

flag_act_silent : (operation : Op) (flags : ℕ) → IsSilentAct (flag_act operation flags)
flag_act_silent op.Sti flags = either IsSilentAct (bit flags interrupt_flag) _ _ tt tt
flag_act_silent _ flags = tt

page_dropped_silent : (va : ℕ) → IsSilentAct (page_dropped va)
page_dropped_silent va = either IsSilentAct (is_canonical va) _ _ tt tt

module _ (regs : Regs) where
  branched_silent : (next : ℕ) (general : List ℕ) (taken : Bool) (target value : ℕ)
      → IsSilent (branched regs next general taken target value)
  branched_silent next general taken target value =
      either IsSilent (not taken) _ _ tt (either IsSilent (is_canonical target) _ _ tt tt)

  turn_silent : (i : Instr) (next : ℕ) (general : List ℕ) (flags : ℕ) (asked : Bool) (value : ℕ)
      → IsSilent (unless_idle_turn i regs next (string_turn i regs next general flags asked value))
  turn_silent i next general flags asked value = either IsSilent (is_idle i regs) _ _ tt tt

  control_silent : (admitted : Bool) (next : ℕ) (a : Act) → IsSilentAct a → IsSilent (control_act admitted regs next a)
  control_silent admitted next a is = either IsSilent admitted _ _ is tt

  loaded_silent : (n next frames value : ℕ) → IsSilent (control_loaded n regs next frames value)
  loaded_silent n next frames value =
      either IsSilent (n == 0) _ _ (control_silent (is_cr0 value) next (act.Cr0 value) tt)
      (either IsSilent (n == 2) _ _ (control_silent true next (act.Cr2 value) tt)
      (either IsSilent (n == 3) _ _ (control_silent (is_cr3 frames value) next (act.Cr3 value) tt)
      (control_silent (is_cr4 value) next (act.Cr4 value) tt)))

  module _ (i : Instr) (next : ℕ) (control : Control) (frames : ℕ) (found : Gathered) where
    outcome_silent : (by : Form) → IsNoOutput by → IsSilent (outcome_by by i next regs control frames found)
    outcome_silent (Data data_form.CompareExchange) other =
        either IsSilent (held regs.general (place.Reg rax) i.width == cut i.width found.to) _ _ tt tt
    outcome_silent (Data data_form.ScanBits) other = either IsSilent (cut i.width found.from == 0) _ _ tt tt
    outcome_silent (Data data_form.Divide) other =
        let dividend = joined i.width (upper_half regs.general i.width) (held regs.general (place.Reg rax) i.width) in
        either IsSilent (is_refused (is_signed i.op) i.width dividend (cut i.width found.to)) _ _ tt tt
    outcome_silent (Data data_form.MoveString) other = turn_silent i _ _ _ _ _
    outcome_silent (Data data_form.StoreString) other = turn_silent i _ _ _ _ _
    outcome_silent (Data data_form.LoadString) other = turn_silent i _ _ _ _ _
    outcome_silent (Data data_form.CompareStrings) other = turn_silent i _ _ _ _ _
    outcome_silent (Data data_form.ScanString) other = turn_silent i _ _ _ _ _
    outcome_silent (Flow flow_form.Branch) other =
        branched_silent next _ (is_taken i.op regs.flags) (target_by i.from next found.from) _
    outcome_silent (Flow flow_form.Call) other = branched_silent next _ true (target_by i.from next found.from) _
    outcome_silent (Flow flow_form.Return) other = branched_silent next _ true (cut 64 found.to) _
    outcome_silent (Flow flow_form.CountDown) other =
        let taken = is_taken_by_count i.op (slice_index (count_after i.op regs.general) rcx) (bit regs.flags zero_flag) in
        branched_silent next _ taken (wrapped (next + i.value)) _
    outcome_silent (Flow flow_form.ChangeInterruptFlag) other = flag_act_silent i.op regs.flags
    outcome_silent (Flow flow_form.ToControl) other = loaded_silent i.value next frames (cut 64 found.from)
    outcome_silent (Flow flow_form.DropPage) other = page_dropped_silent (cut 64 found.from)
    outcome_silent (Flow flow_form.Output) other = absurd other
    outcome_silent _ other = tt

concluded_alone : (view : View) (plan : AccessPlan) (found : Gathered) (outcome : Result Change Fault) (tlb : Translations)
    → IsSilent outcome → IfOk (concluded view plan found outcome tlb).answer PutsOutAlone
concluded_alone view plan found (Err fault) tlb silent = tt
concluded_alone view plan found (Ok change) tlb silent =
    then_ok PutsOutAlone (in_faults (checked view plan.last tlb)).answer _ _ (λ last. silent_alone change.act _ silent)

module _ (i : Instr) (size : ℕ) (regs : Regs) (control : Control) (m : List ℕ) (view : View) (tlb : Translations) where
  planned_alone : (by : Form) → IsNoOutput by → IfOk (planned_effect by i size regs control m view tlb).answer PutsOutAlone
  planned_alone by other =
      then_ok PutsOutAlone (in_faults (gathered m view (plan_by by i size regs) tlb)).answer _ _
      (λ found. concluded_alone view (plan_by by i size regs) found _ _
      (outcome_silent regs i (next_of regs size) control view.frames found by other))

  -- OUT has no place to write
  form_alone : (by : Form) → IfOk (effect_by by i size regs control m view tlb).answer PutsOutAlone
  form_alone (Flow flow_form.TrapReturn) =
      then_ok PutsOutAlone (frame_popped m view regs tlb).answer _ _ (λ frame. tt)
  form_alone (Flow flow_form.Output) =
      then_ok PutsOutAlone (in_faults (gathered m view (plan_by (Flow flow_form.Output) i size regs) tlb)).answer _ _
      (λ found. refl)
  form_alone by = planned_alone by tt

unless_alone : (refused : Option Fault) (tlb : Translations) (effect : Outcome Fault Effect)
    → IfOk effect.answer PutsOutAlone → IfOk (unless_refused refused tlb effect).answer PutsOutAlone
unless_alone (Some fault) tlb effect alone = tt
unless_alone None tlb effect alone = alone

pub effect_alone : (i : Instr) (size : ℕ) (regs : Regs) (control : Control) (m : List ℕ) (tlb : Translations)
    → IfOk (effect_of i size regs control m tlb).answer PutsOutAlone
unfolding effect_of
effect_alone i size regs control m tlb =
    unless_alone (refusal i regs.cpl) tlb _
    (form_alone i size regs control m (view_of m control regs.cpl) tlb (instr_form i))
