-- An effect leaves sixteen registers of 64 bits, and RIP: first what each partial write leaves, then each form.
use Rattle.std.proofs.Common.{◌≡◌, ℕ, zero, suc, ◌+◌, ◌^◌, ◌<◌, Bool, true, not, List, [], ◌∷◌, length, get_or, set, arith, sym, subst, inl, inr, ◌∙◌, length-set}
use Rattle.std.specs.Prelude.{◌==◌, IfOk, Result, Ok, Err, slice_index}
use Rattle.decode_fields.specs.Widths.{IsWidth}
use Rattle.decode_fields.specs.declared.place.Place.{Place}
use Rattle.decode_fields.specs.declared.place.Place.TheVariants as place
use Rattle.x86_decode.specs.WellFormed.{IsWellFormed}
use Rattle.x86_decode.specs.declared.instruction.Instr.{Instr}
use Rattle.x86_decode.specs.declared.operation.Op.{Op}
use Rattle.nk_bits.specs.declared.control.Control.{Control}
use Rattle.nk_bits.specs.Accesses.{View}
use Rattle.nk_bits.specs.Paging.{is_canonical}
use Rattle.nk_bits.specs.Translations.{Translations}
use Rattle.page_walk.specs.declared.plan.Gathered.{Gathered}
use Rattle.page_walk.specs.declared.plan.AccessPlan.{AccessPlan}
use Rattle.page_walk.specs.MemoryAccess.{view_of}
use Rattle.page_walk.specs.AccessPlans.{checked, gathered}
use Rattle.x86_alu.specs.Flags.{zero_flag}
use Rattle.x86_alu.specs.Quotients.{is_refused, joined}
use Rattle.x86_alu.specs.SignedNumbers.{bit, cut}
use Rattle.x86_regs.specs.declared.registers.Regs.{Regs}
use Rattle.x86_regs.specs.declared.effects.Act.{Act}
use Rattle.x86_regs.specs.declared.effects.Act.TheVariants as act
use Rattle.x86_regs.specs.declared.effects.Change.{Change}
use Rattle.x86_regs.specs.declared.effects.Effect.{Effect}
use Rattle.x86_regs.specs.declared.faults.Fault.{Fault}
use Rattle.x86_regs.specs.declared.form.Form.{Form}
use Rattle.x86_regs.specs.declared.form.Form.TheVariants.{Data, Flow}
use Rattle.x86_regs.specs.declared.form.DataForm.TheVariants as data_form
use Rattle.x86_regs.specs.declared.form.FlowForm.TheVariants as flow_form
use Rattle.x86_regs.specs.Registers.{held, high_written, low_written, written}
use Rattle.x86_regs.specs.Operands.{next_of, rax, rbp, rcx, rdi, rdx, rsi, rsp, with_register}
use Rattle.x86_regs.specs.OperandPlans.{instr_form, is_idle, is_repeated, plan_by, risen}
use Rattle.x86_regs.specs.OperandOutcomes.{branched, change, control_act, control_loaded, count_after, is_taken_by_count, counted, counts_down, fallen, going_on, halves_written, is_again, is_cr0, is_cr3, is_cr4, is_signed, is_taken, outcome_by, pointer_moved, string_turn, target_by, unless_idle_turn, upper_half, upper_place}
use Rattle.x86_regs.specs.EffectsKept.{AreRegisters}
use Rattle.x86_regs.specs.Effects.{concluded, effect_by, effect_of, frame_popped, in_faults, planned_effect, refusal}
use Rattle.x86_regs.proofs.CalmActs.{unless_refused_ok}
use Rattle.x86_regs.proofs.EffectLaws.{either, then_ok}
use Rattle.x86_regs.proofs.PlannedSpans.{below_64, width_64}

-- sixteen registers of 64 bits
record AreGeneral (general : List ℕ) : Type 0 where
  count : length general ≡ 16
  bounds : (n : ℕ) → slice_index general n < 2 ^ 64

set_below : (general : List ℕ) (n value : ℕ) → value < 2 ^ 64 → ((k : ℕ) → get_or general k 0 < 2 ^ 64) →
    (k : ℕ) → get_or (set general n value) k 0 < 2 ^ 64
set_below [] n value fits bounds k = bounds k
set_below (x ∷ xs) zero value fits bounds zero = fits
set_below (x ∷ xs) zero value fits bounds (suc k) = bounds (suc k)
set_below (x ∷ xs) (suc n) value fits bounds zero = bounds zero
set_below (x ∷ xs) (suc n) value fits bounds (suc k) = set_below xs n value fits (λ j. bounds (suc j)) k

set_general : (general : List ℕ) (n value : ℕ) → value < 2 ^ 64 → AreGeneral general → AreGeneral (set general n value)
set_general general n value fits are = record {
  count = length-set general n value ∙ are.count;
  bounds = set_below general n value fits are.bounds;
}

-- a register after a partial write
low_below : (w old value : ℕ) → IsWidth w → old < 2 ^ 64 → low_written w old value < 2 ^ 64
low_below w old value (inl is) fits = subst (λ x. low_written x old value < 2 ^ 64) (sym is) (omega arith)
low_below w old value (inr (inl is)) fits = subst (λ x. low_written x old value < 2 ^ 64) (sym is) (omega arith)
low_below w old value (inr (inr (inl is))) fits = subst (λ x. low_written x old value < 2 ^ 64) (sym is) (omega arith)
low_below w old value (inr (inr (inr is))) fits = subst (λ x. low_written x old value < 2 ^ 64) (sym is) (omega arith)

high_below : (old value : ℕ) → old < 2 ^ 64 → high_written old value < 2 ^ 64
high_below old value fits = omega arith

written_general : (general : List ℕ) (at : Place) (w value : ℕ) → IsWidth w → AreGeneral general →
    AreGeneral (written general at w value)
written_general general (place.Reg n) w value is are =
    set_general general n _ (low_below w (slice_index general n) value is (are.bounds n)) are
written_general general (place.High n) w value is are =
    set_general general n _ (high_below (slice_index general n) value (are.bounds n)) are
written_general general _ w value is are = are

register_general : (general : List ℕ) (n value : ℕ) → AreGeneral general → AreGeneral (with_register general n value)
register_general general n value are = written_general general (place.Reg n) 64 value width_64 are

halves_general : (general : List ℕ) (w low high : ℕ) → IsWidth w → AreGeneral general →
    AreGeneral (halves_written general w low high)
halves_general general w low high is are =
    written_general _ (upper_place w) w high is (written_general general (place.Reg rax) w low is are)

counted_general : (i : Instr) (general : List ℕ) → AreGeneral general → AreGeneral (counted i general)
counted_general i general are = either AreGeneral (is_repeated i.rep) _ _ (register_general general rcx _ are) are

count_general : (operation : Op) (general : List ℕ) → AreGeneral general → AreGeneral (count_after operation general)
count_general operation general are = either AreGeneral (counts_down operation) _ _ (register_general general rcx _ are) are

-- the outcome is a fault, or a change that leaves such registers
abbrev GivesRegisters : Result Change Fault → Type 0
GivesRegisters outcome = IfOk outcome (λ change. AreRegisters change.regs)

module _ (regs : Regs) (are : AreRegisters regs) where
  general_are : AreGeneral regs.general
  general_are = record { count = are.count; bounds = are.bounds }

  kept : (general : List ℕ) (flags rip : ℕ) → AreGeneral general → rip < 2 ^ 64 →
      AreRegisters (going_on regs general flags rip)
  kept general flags rip fit below = record { count = fit.count; bounds = fit.bounds; rip = below }

  risen_general : (w : ℕ) → AreGeneral (risen regs w)
  risen_general w = register_general regs.general rsp _ general_are

  fallen_general : (w : ℕ) → AreGeneral (fallen regs w)
  fallen_general w = register_general regs.general rsp _ general_are

  moved_general : (w n : ℕ) (general : List ℕ) → AreGeneral general → AreGeneral (pointer_moved regs w n general)
  moved_general w n general fit = register_general general n _ fit

  branched_kept : (next : ℕ) (general : List ℕ) (taken : Bool) (target value : ℕ) → AreGeneral general → next < 2 ^ 64 →
      target < 2 ^ 64 → GivesRegisters (branched regs next general taken target value)
  branched_kept next general taken target value fit below target_below =
      either GivesRegisters (not taken) _ _ (kept general regs.flags next fit below)
      (either GivesRegisters (is_canonical target) _ _ (kept general regs.flags target fit target_below) tt)

  target_below : (at : Place) (next from : ℕ) → target_by at next from < 2 ^ 64
  target_below place.Value next from = below_64 (next + from)
  target_below _ next from = below_64 from

  -- one turn of a string instruction, or none
  turn_kept : (i : Instr) (next : ℕ) (general : List ℕ) (flags : ℕ) (asked : Bool) (value : ℕ) → AreGeneral general →
      next < 2 ^ 64 → GivesRegisters (unless_idle_turn i regs next (string_turn i regs next general flags asked value))
  turn_kept i next general flags asked value fit below =
      either GivesRegisters (is_idle i regs) _ _ (kept regs.general regs.flags next general_are below)
      (kept (counted i general) flags _ (counted_general i general fit)
      (either (λ rip. rip < 2 ^ 64) (is_again i (counted i general) asked) regs.rip next are.rip below))

  control_kept : (admitted : Bool) (next : ℕ) (a : Act) → next < 2 ^ 64 → GivesRegisters (control_act admitted regs next a)
  control_kept admitted next a below =
      either GivesRegisters admitted _ _ (kept regs.general regs.flags next general_are below) tt

  loaded_kept : (n next frames value : ℕ) → next < 2 ^ 64 → GivesRegisters (control_loaded n regs next frames value)
  loaded_kept n next frames value below =
      either GivesRegisters (n == 0) _ _ (control_kept (is_cr0 value) next (act.Cr0 value) below)
      (either GivesRegisters (n == 2) _ _ (control_kept true next (act.Cr2 value) below)
      (either GivesRegisters (n == 3) _ _ (control_kept (is_cr3 frames value) next (act.Cr3 value) below)
      (control_kept (is_cr4 value) next (act.Cr4 value) below)))

  module _ (i : Instr) (formed : IsWellFormed i) (next : ℕ) (below : next < 2 ^ 64) (control : Control) (frames : ℕ)
      (found : Gathered) where
    place_general : (at : Place) (value : ℕ) (general : List ℕ) → AreGeneral general →
        AreGeneral (written general at i.width value)
    place_general at value general fit = written_general general at i.width value formed.width fit

    next_kept : (general : List ℕ) (flags : ℕ) → AreGeneral general → AreRegisters (going_on regs general flags next)
    next_kept general flags fit = kept general flags next fit below

    outcome_kept : (by : Form) → GivesRegisters (outcome_by by i next regs control frames found)
    outcome_kept (Data data_form.Combine) = next_kept _ _ (place_general i.to _ _ general_are)
    outcome_kept (Data data_form.Move) = next_kept _ _ (place_general i.to _ _ general_are)
    outcome_kept (Data data_form.Address) = next_kept _ _ (place_general i.to _ _ general_are)
    outcome_kept (Data data_form.Exchange) = next_kept _ _ (place_general i.from _ _ (place_general i.to _ _ general_are))
    outcome_kept (Data data_form.ExchangeAdd) = next_kept _ _ (place_general i.to _ _ (place_general i.from _ _ general_are))
    outcome_kept (Data data_form.CompareExchange) =
        either GivesRegisters (held regs.general (place.Reg rax) i.width == cut i.width found.to) _ _
        (next_kept _ _ (place_general i.to _ _ general_are))
        (next_kept _ _ (place_general i.to _ _ (place_general (place.Reg rax) _ _ general_are)))
    outcome_kept (Data data_form.ScanBits) =
        either GivesRegisters (cut i.width found.from == 0) _ _ (next_kept _ _ general_are)
        (next_kept _ _ (place_general i.to _ _ general_are))
    outcome_kept (Data data_form.Widen) = next_kept _ _ (place_general (place.Reg rax) _ _ general_are)
    outcome_kept (Data data_form.Double) = next_kept _ _ (place_general (place.Reg rdx) _ _ general_are)
    outcome_kept (Data data_form.Multiply) = next_kept _ _ (halves_general regs.general i.width _ _ formed.width general_are)
    outcome_kept (Data data_form.Divide) =
        let dividend = joined i.width (upper_half regs.general i.width) (held regs.general (place.Reg rax) i.width) in
        either GivesRegisters (is_refused (is_signed i.op) i.width dividend (cut i.width found.to)) _ _ tt
        (next_kept _ _ (halves_general regs.general i.width _ _ formed.width general_are))
    outcome_kept (Data data_form.Push) = next_kept _ _ (fallen_general i.width)
    outcome_kept (Data data_form.Pop) = next_kept _ _ (place_general i.to _ _ (risen_general i.width))
    outcome_kept (Data data_form.Leave) = next_kept _ _ (register_general _ rbp _ (register_general regs.general rsp _ general_are))
    outcome_kept (Data data_form.MoveString) =
        turn_kept i next _ _ _ _ (moved_general i.width rdi _ (moved_general i.width rsi _ general_are)) below
    outcome_kept (Data data_form.StoreString) = turn_kept i next _ _ _ _ (moved_general i.width rdi _ general_are) below
    outcome_kept (Data data_form.LoadString) =
        turn_kept i next _ _ _ _ (place_general (place.Reg rax) _ _ (moved_general i.width rsi _ general_are)) below
    outcome_kept (Data data_form.CompareStrings) =
        turn_kept i next _ _ _ _ (moved_general i.width rdi _ (moved_general i.width rsi _ general_are)) below
    outcome_kept (Data data_form.ScanString) = turn_kept i next _ _ _ _ (moved_general i.width rdi _ general_are) below
    outcome_kept (Flow flow_form.Branch) =
        branched_kept next _ (is_taken i.op regs.flags) _ _ general_are below (target_below i.from next found.from)
    outcome_kept (Flow flow_form.Call) =
        branched_kept next _ true _ _ (fallen_general 64) below (target_below i.from next found.from)
    outcome_kept (Flow flow_form.Return) =
        branched_kept next _ true _ _ (register_general regs.general rsp _ general_are) below (below_64 found.to)
    outcome_kept (Flow flow_form.CountDown) =
        let taken = is_taken_by_count i.op (slice_index (count_after i.op regs.general) rcx) (bit regs.flags zero_flag) in
        branched_kept next _ taken _ _ (count_general i.op regs.general general_are) below (below_64 (next + i.value))
    outcome_kept (Flow flow_form.PushFlags) = next_kept _ _ (fallen_general i.width)
    outcome_kept (Flow flow_form.PopFlags) = next_kept _ _ (risen_general i.width)
    outcome_kept (Flow flow_form.FromControl) = next_kept _ _ (written_general regs.general i.to 64 _ width_64 general_are)
    outcome_kept (Flow flow_form.ToControl) = loaded_kept i.value next frames (cut 64 found.from) below
    outcome_kept _ = record { count = are.count; bounds = are.bounds; rip = below }

abbrev KeepsRegisters : Effect → Type 0
KeepsRegisters effect = AreRegisters effect.regs

concluded_registers : (view : View) (plan : AccessPlan) (found : Gathered) (outcome : Result Change Fault) (tlb : Translations) →
    GivesRegisters outcome → IfOk (concluded view plan found outcome tlb).answer KeepsRegisters
concluded_registers view plan found (Err fault) tlb are = tt
concluded_registers view plan found (Ok change) tlb are =
    then_ok KeepsRegisters (in_faults (checked view plan.last tlb)).answer _ _ (λ last. are)

module _ (i : Instr) (size : ℕ) (regs : Regs) (control : Control) (m : List ℕ) (view : View) (tlb : Translations)
    (formed : IsWellFormed i) (are : AreRegisters regs) where
  next_below : next_of regs size < 2 ^ 64
  next_below = below_64 (regs.rip + size)

  planned_registers : (by : Form) → IfOk (planned_effect by i size regs control m view tlb).answer KeepsRegisters
  planned_registers by =
      then_ok KeepsRegisters (in_faults (gathered m view (plan_by by i size regs) tlb)).answer _ _
      (λ found.
      concluded_registers view (plan_by by i size regs) found _ _
      (outcome_kept regs are i formed (next_of regs size) next_below control view.frames found by))

  form_registers : (by : Form) → IfOk (effect_by by i size regs control m view tlb).answer KeepsRegisters
  form_registers (Flow flow_form.TrapReturn) =
      then_ok KeepsRegisters (frame_popped m view regs tlb).answer _ _
      (λ frame. record { count = are.count; bounds = are.bounds; rip = next_below })
  form_registers by = planned_registers by

pub keeps_registers : (i : Instr) (size : ℕ) (regs : Regs) (control : Control) (m : List ℕ) (tlb : Translations) →
    IsWellFormed i → AreRegisters regs →
    IfOk (effect_of i size regs control m tlb).answer (λ effect. AreRegisters effect.regs)
unfolding effect_of
keeps_registers i size regs control m tlb formed are =
    unless_refused_ok KeepsRegisters (refusal i regs.cpl) tlb _
    (form_registers i size regs control m (view_of m control regs.cpl) tlb formed are (instr_form i))
