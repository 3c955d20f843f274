-- The numbers of an outcome: its act puts out a byte, and its fault's numbers have 64 bits. So are those of an effect's
-- act.
use Rattle.std.proofs.Common.{ℕ, ◌+◌, ◌^◌, ◌<◌, Bool, true, not, List, lit<, mod-lt}
use Rattle.std.specs.Prelude.{◌==◌, IfOk, Result, Ok, Err, slice_index}
use Rattle.decode_fields.specs.declared.place.Place.TheVariants as place
use Rattle.x86_decode.specs.declared.instruction.Instr.{Instr}
use Rattle.x86_decode.specs.declared.operation.Op.{Op}
use Rattle.x86_decode.specs.declared.operation.Op.TheVariants as op
use Rattle.nk_bits.specs.declared.control.Control.{Control}
use Rattle.nk_bits.specs.Accesses.{View}
use Rattle.nk_bits.specs.Paging.{is_canonical}
use Rattle.nk_bits.specs.Translations.{Translations}
use Rattle.page_walk.specs.declared.plan.Gathered.{Gathered}
use Rattle.page_walk.specs.declared.plan.AccessPlan.{AccessPlan}
use Rattle.page_walk.specs.MemoryAccess.{view_of}
use Rattle.page_walk.specs.AccessPlans.{checked, gathered, taken}
use Rattle.x86_alu.specs.Flags.{zero_flag}
use Rattle.x86_alu.specs.Quotients.{is_refused, joined}
use Rattle.x86_alu.specs.SignedNumbers.{bit, cut}
use Rattle.x86_regs.specs.declared.registers.Regs.{Regs}
use Rattle.x86_regs.specs.declared.effects.Act.{Act}
use Rattle.x86_regs.specs.declared.effects.Act.TheVariants as act
use Rattle.x86_regs.specs.declared.effects.Change.{Change}
use Rattle.x86_regs.specs.declared.effects.Effect.{Effect}
use Rattle.x86_regs.specs.declared.faults.Fault.{Fault}
use Rattle.x86_regs.specs.declared.form.Form.{Form}
use Rattle.x86_regs.specs.declared.form.Form.TheVariants.{Data, Flow}
use Rattle.x86_regs.specs.declared.form.DataForm.TheVariants as data_form
use Rattle.x86_regs.specs.declared.form.FlowForm.TheVariants as flow_form
use Rattle.x86_regs.specs.Registers.{held}
use Rattle.x86_regs.specs.Combinations.{interrupt_flag}
use Rattle.x86_regs.specs.Operands.{next_of, rax, rcx, wrapped}
use Rattle.x86_regs.specs.OperandPlans.{instr_form, is_idle, plan_by}
use Rattle.x86_regs.specs.OperandOutcomes.{branched, control_act, control_loaded, count_after, is_taken_by_count, flag_act, is_cr0, is_cr3, is_cr4, is_signed, is_taken, outcome_by, page_dropped, string_turn, target_by, unless_idle_turn, upper_half, interrupt_vector}
use Rattle.x86_regs.specs.EffectsKept.{IsSmallAct, IsSmallFault}
use Rattle.x86_regs.specs.Effects.{concluded, effect_by, effect_of, frame_popped, in_faults, planned_effect, refusal}
use Rattle.x86_regs.proofs.CalmActs.{unless_refused_ok}
use Rattle.x86_regs.proofs.EffectLaws.{either, then_ok}
use Rattle.x86_regs.proofs.PlannedSpans.{below_64}

-- an outcome with such an act, or such a fault
abbrev pub IsSmall : Result Change Fault → Type 0
IsSmall (Ok change) = IsSmallAct change.act
IsSmall (Err fault) = IsSmallFault fault

pub none_small : 0 < 2 ^ 64
none_small = lit< tt

vector_few : (operation : Op) (n : ℕ) → interrupt_vector operation n < 256
vector_few op.Int3 n = lit< tt
vector_few _ n = mod-lt n (lit< tt)

flag_act_small : (operation : Op) (flags : ℕ) → IsSmallAct (flag_act operation flags)
flag_act_small op.Sti flags = either IsSmallAct (bit flags interrupt_flag) _ _ tt tt
flag_act_small _ flags = tt

page_dropped_small : (va : ℕ) → IsSmallAct (page_dropped va)
page_dropped_small va = either IsSmallAct (is_canonical va) _ _ tt tt

module _ (regs : Regs) where
  branched_small : (next : ℕ) (general : List ℕ) (taken : Bool) (target value : ℕ) →
      IsSmall (branched regs next general taken target value)
  branched_small next general taken target value =
      either IsSmall (not taken) _ _ tt (either IsSmall (is_canonical target) _ _ tt none_small)

  turn_small : (i : Instr) (next : ℕ) (general : List ℕ) (flags : ℕ) (asked : Bool) (value : ℕ) →
      IsSmall (unless_idle_turn i regs next (string_turn i regs next general flags asked value))
  turn_small i next general flags asked value = either IsSmall (is_idle i regs) _ _ tt tt

  control_small : (admitted : Bool) (next : ℕ) (a : Act) → IsSmallAct a → IsSmall (control_act admitted regs next a)
  control_small admitted next a small = either IsSmall admitted _ _ small none_small

  loaded_small : (n next frames value : ℕ) → value < 2 ^ 64 → IsSmall (control_loaded n regs next frames value)
  loaded_small n next frames value small =
      either IsSmall (n == 0) _ _ (control_small (is_cr0 value) next (act.Cr0 value) tt)
      (either IsSmall (n == 2) _ _ small
      (either IsSmall (n == 3) _ _ (control_small (is_cr3 frames value) next (act.Cr3 value) tt)
      (control_small (is_cr4 value) next (act.Cr4 value) tt)))

  module _ (i : Instr) (next : ℕ) (control : Control) (frames : ℕ) (found : Gathered) where
    pub outcome_small : (by : Form) → IsSmall (outcome_by by i next regs control frames found)
    outcome_small (Data data_form.CompareExchange) =
        either IsSmall (held regs.general (place.Reg rax) i.width == cut i.width found.to) _ _ tt tt
    outcome_small (Data data_form.ScanBits) = either IsSmall (cut i.width found.from == 0) _ _ tt tt
    outcome_small (Data data_form.Divide) =
        let dividend = joined i.width (upper_half regs.general i.width) (held regs.general (place.Reg rax) i.width) in
        either IsSmall (is_refused (is_signed i.op) i.width dividend (cut i.width found.to)) _ _ tt tt
    outcome_small (Data data_form.MoveString) = turn_small i _ _ _ _ _
    outcome_small (Data data_form.StoreString) = turn_small i _ _ _ _ _
    outcome_small (Data data_form.LoadString) = turn_small i _ _ _ _ _
    outcome_small (Data data_form.CompareStrings) = turn_small i _ _ _ _ _
    outcome_small (Data data_form.ScanString) = turn_small i _ _ _ _ _
    outcome_small (Flow flow_form.Branch) = branched_small next _ (is_taken i.op regs.flags) (target_by i.from next found.from) _
    outcome_small (Flow flow_form.Call) = branched_small next _ true (target_by i.from next found.from) _
    outcome_small (Flow flow_form.Return) = branched_small next _ true (cut 64 found.to) _
    outcome_small (Flow flow_form.CountDown) =
        let taken = is_taken_by_count i.op (slice_index (count_after i.op regs.general) rcx) (bit regs.flags zero_flag) in
        branched_small next _ taken (wrapped (next + i.value)) _
    outcome_small (Flow flow_form.Trap) = vector_few i.op i.value
    outcome_small (Flow flow_form.ChangeInterruptFlag) = flag_act_small i.op regs.flags
    outcome_small (Flow flow_form.Output) = mod-lt found.from (lit< tt)
    outcome_small (Flow flow_form.ToControl) = loaded_small i.value next frames (cut 64 found.from) (below_64 found.from)
    outcome_small (Flow flow_form.DropPage) = page_dropped_small (cut 64 found.from)
    outcome_small _ = tt

-- the act of an effect
abbrev IsSmallEffect : Effect → Type 0
IsSmallEffect effect = IsSmallAct effect.act

concluded_act : (view : View) (plan : AccessPlan) (found : Gathered) (outcome : Result Change Fault) (tlb : Translations) →
    IsSmall outcome → IfOk (concluded view plan found outcome tlb).answer IsSmallEffect
concluded_act view plan found (Err fault) tlb small = tt
concluded_act view plan found (Ok change) tlb small =
    then_ok IsSmallEffect (in_faults (checked view plan.last tlb)).answer _ _ (λ last. small)

module _ (i : Instr) (size : ℕ) (regs : Regs) (control : Control) (m : List ℕ) (view : View) (tlb : Translations) where
  planned_act : (by : Form) → IfOk (planned_effect by i size regs control m view tlb).answer IsSmallEffect
  planned_act by =
      then_ok IsSmallEffect (in_faults (gathered m view (plan_by by i size regs) tlb)).answer _ _
      (λ found.
      concluded_act view (plan_by by i size regs) found _ _
      (outcome_small regs i (next_of regs size) control view.frames found by))

  form_act : (by : Form) → IfOk (effect_by by i size regs control m view tlb).answer IsSmallEffect
  form_act (Flow flow_form.TrapReturn) = then_ok IsSmallEffect (frame_popped m view regs tlb).answer _ _ (λ frame. tt)
  form_act by = planned_act by

pub acts_small : (i : Instr) (size : ℕ) (regs : Regs) (control : Control) (m : List ℕ) (tlb : Translations) →
    IfOk (effect_of i size regs control m tlb).answer (λ effect. IsSmallAct effect.act)
unfolding effect_of
acts_small i size regs control m tlb =
    unless_refused_ok IsSmallEffect (refusal i regs.cpl) tlb _
    (form_act i size regs control m (view_of m control regs.cpl) tlb (instr_form i))
