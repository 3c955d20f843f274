-- A turn at an instruction of the gates, with IF clear: the registers and CR0 that it leaves.
use Rattle.std.proofs.Common.{◌≡◌, ℕ, ◌+◌, Bool, true, false, List, refl, sym, ap, subst, ◌∙◌, arith}
use Rattle.std.specs.Prelude.{Option, None, Result, Ok, is_none, not, ◌==◌, ◌&&◌, if◌then◌else◌}
use Rattle.std.proofs.lemmas.Bool.{false≢true, leb-true, ne_eqb}
use Rattle.nk_bits.specs.declared.kind.Kind.{Kind}
use Rattle.nk_bits.specs.Accesses.{wp_of}
use Rattle.nk_bits.specs.Outcomes.{Outcome, then_by}
use Rattle.nk_bits.specs.Translations.{Translations}
use Rattle.page_walk.specs.MemoryAccess.{view_of}
use Rattle.gate_text.specs.GatePoints.{instruction_bytes}
use Rattle.nk_bits.specs.KernelLayout.{gate_address}
use Rattle.x86_alu.specs.SignedNumbers.{bit}
use Rattle.x86_decode.specs.Reader.{decoded_of}
use Rattle.x86_decode.specs.declared.instruction.Decoded.TheVariants.{Whole}
use Rattle.x86_decode.specs.declared.instruction.Instr.{Instr}
use Rattle.x86_regs.specs.declared.effects.Act.TheVariants as act
use Rattle.x86_regs.specs.declared.effects.Effect.{Effect}
use Rattle.x86_regs.specs.declared.faults.Fault.{Fault}
use Rattle.x86_regs.specs.declared.registers.Regs.{Regs}
use Rattle.x86_regs.specs.Combinations.{interrupt_flag}
use Rattle.x86_regs.specs.Effects.{effect_of}
use Rattle.x86_regs.specs.OperandOutcomes.{going_on}
use Rattle.cpu_step.specs.declared.fetch.Fetched.{Fetched}
use Rattle.cpu_step.specs.InstructionFetch.{instruction_at}
use Rattle.cpu_step.specs.Processor.{Processor, deliverable, highest_pending}
use Rattle.cpu_step.specs.Turns.{Turned, enters_body, instructed, instruction_made, is_at_body, kept_in_cr0, refused_body, turned, turned_by, turned_unless}
use Rattle.gate_state.specs.GuardedStates.{AreKinds, IsAdmitted, IsGuarded}
use Rattle.gate_state.specs.MachineStates.{MachineState, Opening, nested_of}
use Rattle.gate_state.specs.MachineSteps.{after_turn, turn_of, waits}
use Rattle.gate_state.specs.SafeStates.{TakesTurn}
use Rattle.gate_state.proofs.LowerLaws.{LowerLaws}
use Rattle.gate_state.proofs.Ready.{IsReady}
use Rattle.gate_state.proofs.SceneProofs.{scene_laws}
use Rattle.gate_state.proofs.FetchKnown.{IsRead}
use Rattle.gate_state.proofs.FetchListed.{gate_read}
use Rattle.gate_state.proofs.StatesKept.{ready, turn_guarded, turn_stays}
use Rattle.gate_state.proofs.TurnFacts.{TurnFacts}
use Rattle.gate_state.proofs.CallThroughRows.{IsRow, row_stands}
use Rattle.gate_state.proofs.WindowEffects.{quiet}

-- the supervisor stands at an offset of the gates' text that isn't the body's place, it runs, and IF is clear
pub record IsStanding (offset : ℕ) (p : Processor) : Type 0 where
  pub supervisor : p.regs.cpl ≡ 0
  pub runs : p.halted ≡ false
  pub uninterrupted : bit p.regs.flags interrupt_flag ≡ false
  pub rip : p.regs.rip ≡ gate_address + offset

-- nothing is delivered
pub nothing_delivered : (p : Processor) → bit p.regs.flags interrupt_flag ≡ false → deliverable p ≡ None
nothing_delivered p clear = ap (λ (b : Bool). if b && not p.shielded then highest_pending p.pending else None) clear

pub no_wait : (p : Processor) → p.halted ≡ false → waits p ≡ false
no_wait p runs = ap (λ (b : Bool). b && is_none (deliverable p)) runs

never_at : (a : Bool) (b : Bool) → b ≡ false → a && b ≡ false
never_at true b is = is
never_at false b is = refl

-- away from the body's place
pub away_from_body : (offset : ℕ) (p : Processor) → p.regs.rip ≡ gate_address + offset → (offset == 27) ≡ false
    → is_at_body p.regs ≡ false
away_from_body offset p rip other =
    never_at (p.regs.cpl == 0) (p.regs.rip == 0xFFFFFF800000101B)
    (ne_eqb p.regs.rip 0xFFFFFF800000101B (λ same.
    let here : offset ≡ 27 = omega (arith, rip, same) in
    absurd (false≢true (sym other ∙ ap (λ n. n == 27) here))))

pub no_body : (p : Processor) → is_at_body p.regs ≡ false → enters_body p ≡ false
no_body p away = ap (λ (b : Bool). b && not (wp_of p.control.cr0)) away

-- what was fetched is the row's instruction
fetched_same : (it : Fetched) (i : Instr) (size : ℕ) (bytes : List ℕ) → decoded_of bytes ≡ Whole it.instr it.size
    → decoded_of bytes ≡ Whole i size → it ≡ record { instr = i; size = size }
fetched_same it i size bytes listed row =
    let same : Whole it.instr it.size ≡ Whole i size = sym listed ∙ row in
    let instr_same : it.instr ≡ i = cc in
    let size_same : it.size ≡ size = cc in
    λ k. record { instr = instr_same k; size = size_same k }

-- the turn of an instruction that was fetched, and has this effect
turn_by_effect : (P : Turned → Type 0) (p : Processor) (m : List ℕ) (it : Fetched) (effect : Effect)
    → deliverable p ≡ None → is_at_body p.regs ≡ false
    → (instruction_at m (view_of m p.control p.regs.cpl) p.regs.rip p.tlb).answer ≡ Ok it
    → ((tlb : Translations) → (effect_of it.instr it.size p.regs p.control m tlb).answer ≡ Ok effect)
    → ((tlb : Translations) → P (turned_by (Ok effect) (record p { shielded = false }) m tlb))
    → P (turned p m)
unfolding turned instructed
turn_by_effect P p m it effect none away found makes holds =
    let q : Processor = record p { shielded = false } in
    let fetched : Outcome Fault Fetched = instruction_at m (view_of m p.control p.regs.cpl) p.regs.rip p.tlb in
    let outcome : Outcome Fault Effect = effect_of it.instr it.size p.regs p.control m fetched.tlb in
    let made : instruction_made q m ≡ outcome =
    ap (λ (a : Result Fetched Fault).
    then_by a fetched.tlb (λ x after. effect_of x.instr x.size p.regs p.control m after)) found in
    subst (λ (v : Option ℕ). P (turned_unless v p m)) (sym none)
    (subst (λ (b : Bool). P (if b then refused_body q m
    else let x = instruction_made q m in turned_by x.answer q m x.tlb)) (sym away)
    (subst (λ (x : Outcome Fault Effect). P (turned_by x.answer q m x.tlb)) (sym made)
    (subst (λ (a : Result Effect Fault). P (turned_by a q m outcome.tlb)) (sym (makes fetched.tlb))
    (holds outcome.tlb))))

-- what a turn leaves
pub record IsTurned (o : Opening) (t after : MachineState) (general : List ℕ) (flags rip cr0 : ℕ) : Type 0 where
  pub regs : after.processor.regs ≡ going_on t.processor.regs general flags rip
  pub cr0_is : after.processor.control.cr0 ≡ cr0
  pub runs : after.processor.halted ≡ false
  pub guarded : IsGuarded o after
  pub nested : nested_of after ≡ nested_of t
  pub turns : after.turns ≡ t.turns + 1

-- it goes on with these registers, and asks for a load of CR0
abbrev pub loading : Regs → ℕ → Result Effect Fault
loading regs value = Ok (record { regs = regs; write = None; act = act.Cr0 value })

-- the processor after it
record Leaves (p : Processor) (general : List ℕ) (flags rip cr0 : ℕ) (turned : Turned) : Type 0 where
  regs : turned.processor.regs ≡ going_on p.regs general flags rip
  cr0_is : turned.processor.control.cr0 ≡ cr0
  runs : turned.processor.halted ≡ p.halted

module _ (laws : LowerLaws) (o : Opening) (admitted : IsAdmitted o)
    (facts : (ks : List Kind) → AreKinds o ks → TurnFacts o ks) where
  -- the row at the offset is what is fetched
  row_fetched : (t : MachineState) (offset : ℕ) (i : Instr) (size : ℕ) → IsGuarded o t
      → IsStanding offset t.processor → IsRow offset i size
      → let p : Processor = t.processor in
      (instruction_at t.memory (view_of t.memory p.control p.regs.cpl) p.regs.rip p.tlb).answer
      ≡ Ok (record { instr = i; size = size })
  row_fetched t offset i size guarded stands row =
      let p : Processor = t.processor in
      let m : List ℕ = t.memory in
      let bytes : List ℕ = instruction_bytes offset in
      let here : IsReady o t.kinds p m = ready laws o admitted t guarded in
      let read : IsRead bytes (instruction_at m (view_of m p.control 0) (gate_address + offset) p.tlb) =
      gate_read laws o t.kinds (scene_laws laws o t.kinds admitted guarded.kinds) m p.control here.scene
      offset bytes p.tlb (leb-true _ _ row.within) (leb-true _ _ row.few) (row_stands offset i size row)
      row.reads here.pass in
      ap (λ (r : ℕ). (instruction_at m (view_of m p.control p.regs.cpl) r p.tlb).answer) stands.rip
      ∙ ap (λ (c : ℕ). (instruction_at m (view_of m p.control c) (gate_address + offset) p.tlb).answer)
      stands.supervisor
      ∙ read.found
      ∙ ap (λ (x : Fetched). Ok x) (fetched_same read.it i size bytes read.listed row.decodes)

  module _ (t : MachineState) (offset : ℕ) (i : Instr) (size : ℕ) (guarded : IsGuarded o t)
      (stands : IsStanding offset t.processor) (row : IsRow offset i size) (other : (offset == 27) ≡ false) where
    away : is_at_body t.processor.regs ≡ false
    away = away_from_body offset t.processor stands.rip other

    takes : TakesTurn t.processor
    takes = record { no_body = no_body t.processor away; runs = no_wait t.processor stands.runs }

    leaving : (general : List ℕ) (flags rip cr0 : ℕ) → Leaves t.processor general flags rip cr0 (turn_of t)
        → IsTurned o t (after_turn t) general flags rip cr0
    unfolding after_turn
    leaving general flags rip cr0 leaves = record {
      regs = leaves.regs;
      cr0_is = leaves.cr0_is;
      runs = leaves.runs ∙ stands.runs;
      guarded = turn_guarded laws o admitted t guarded (facts t.kinds guarded.kinds) takes;
      nested = turn_stays laws o admitted t guarded (facts t.kinds guarded.kinds) takes;
      turns = refl;
    }

    -- the turn's effect is the row's
    by_row : (P : Turned → Type 0) (effect : Effect)
        → ((tlb : Translations)
        → (effect_of i size t.processor.regs t.processor.control t.memory tlb).answer ≡ Ok effect)
        → ((tlb : Translations) → P (turned_by (Ok effect) (record t.processor { shielded = false }) t.memory tlb))
        → P (turn_of t)
    by_row P effect makes holds =
        turn_by_effect P t.processor t.memory (record { instr = i; size = size }) effect
        (nothing_delivered t.processor stands.uninterrupted) away (row_fetched t offset i size guarded stands row) makes
        holds

    -- an instruction that only changes registers
    pub quiet_turn : (general : List ℕ) (flags rip : ℕ)
        → ((tlb : Translations) → (effect_of i size t.processor.regs t.processor.control t.memory tlb).answer
        ≡ quiet (going_on t.processor.regs general flags rip))
        → IsTurned o t (after_turn t) general flags rip t.processor.control.cr0
    quiet_turn general flags rip makes =
        let p : Processor = t.processor in
        let effect : Effect = record { regs = going_on p.regs general flags rip; write = None; act = act.Quiet } in
        leaving general flags rip p.control.cr0
        (by_row (Leaves p general flags rip p.control.cr0) effect makes
        (λ tlb. record { regs = refl; cr0_is = refl; runs = refl }))

    -- a load of CR0
    pub load_turn : (value : ℕ) (general : List ℕ) (flags rip : ℕ)
        → ((tlb : Translations) → (effect_of i size t.processor.regs t.processor.control t.memory tlb).answer
        ≡ loading (going_on t.processor.regs general flags rip) value)
        → IsTurned o t (after_turn t) general flags rip (kept_in_cr0 value)
    load_turn value general flags rip makes =
        let p : Processor = t.processor in
        let effect : Effect =
        record { regs = going_on p.regs general flags rip; write = None; act = act.Cr0 value } in
        leaving general flags rip (kept_in_cr0 value)
        (by_row (Leaves p general flags rip (kept_in_cr0 value)) effect makes
        (λ tlb. record { regs = refl; cr0_is = refl; runs = refl }))
