-- A turn by a quick form is the processor's turn; and such turns in a row.
use Rattle.std.proofs.Common.{◌≡◌, ℕ, zero, suc, ◌+◌, ◌<◌, ◌≤◌, ◌⊎◌, inl, inr, arith, Bool, true, false, List, Option, None, Ok, Err, refl, sym, ap, subst, ◌∙◌}
use Rattle.std.proofs.lemmas.Bool.{and_parts, eqb-true}
use Rattle.std.specs.Prelude.{◌==◌, ◌&&◌, not, Result, if◌then◌else◌}
use Rattle.nk_bits.specs.declared.control.Control.{Control}
use Rattle.nk_bits.specs.Accesses.{View}
use Rattle.nk_bits.specs.Translations.{Translations}
use Rattle.nk_bits.specs.Outcomes.{Outcome, and_then, answered, outcome_of}
use Rattle.page_walk.specs.MemoryAccess.{view_of}
use Rattle.x86_alu.specs.SignedNumbers.{bit}
use Rattle.x86_decode.specs.declared.instruction.Instr.{Instr}
use Rattle.x86_regs.specs.declared.effects.Act.TheVariants.{Quiet}
use Rattle.x86_regs.specs.declared.effects.Effect.{Effect}
use Rattle.x86_regs.specs.declared.faults.Fault.{Fault}
use Rattle.x86_regs.specs.declared.form.Form.{Form}
use Rattle.x86_regs.specs.declared.registers.Regs.{Regs}
use Rattle.x86_regs.specs.Combinations.{interrupt_flag}
use Rattle.x86_regs.specs.Effects.{effect_by, effect_of, memory_after, planned_effect, refusal, unless_refused}
use Rattle.x86_regs.specs.OperandPlans.{instr_form}
use Rattle.exec_quick.specs.declared.quick.Kind.{Kind}
use Rattle.exec_quick.specs.declared.quick.Kind.TheVariants as kind
use Rattle.exec_quick.specs.declared.quick.Quick.{Quick}
use Rattle.exec_quick.specs.QuickForms.{Settled, effect_made, form_by, instruction_of, quiet_outcome, settled, settled_by}
use Rattle.cpu_step.specs.declared.fetch.Fetched.{Fetched}
use Rattle.cpu_step.specs.declared.kept_code.KeptCode.{KeptCode}
use Rattle.cpu_step.specs.InstructionFetch.{instruction_at}
use Rattle.cpu_step.specs.KeptFetches.{IsKeptCode}
use Rattle.cpu_step.specs.Processor.{Processor, deliverable, highest_pending}
use Rattle.cpu_step.specs.QuickTurns.{AreQuickTurns, IsQuickTurn}
use Rattle.cpu_step.specs.Turns.{Turned, acted, instructed, instruction_made, is_at_body, ran, turned, turned_by}
use Rattle.cpu_step.proofs.TurnLemmas.{instructed_elsewhere, turned_by_vector}

-- nothing is delivered where nothing is pending
either_way : (b : Bool) (vector : Option ℕ) → (if b then vector else vector) ≡ vector
either_way true vector = refl
either_way false vector = refl

nothing_deliverable : (p : Processor) → p.pending ≡ 0 → deliverable p ≡ None
nothing_deliverable p none =
    ap (λ n. if bit p.regs.flags interrupt_flag && not p.shielded then highest_pending n else None) none
    ∙ either_way (bit p.regs.flags interrupt_flag && not p.shielded) None

-- the effect of an instruction that no condition refuses, by its kind's form
by_kind : (k : Kind) (i : Instr) (size : ℕ) (regs : Regs) (control : Control) (m : List ℕ) (view : View) (tlb : Translations) →
    effect_by (form_by k) i size regs control m view tlb ≡ planned_effect (form_by k) i size regs control m view tlb
by_kind kind.Slow i size regs control m view tlb = refl
by_kind _ i size regs control m view tlb = refl

effect_plain : (k : Kind) (i : Instr) (size : ℕ) (regs : Regs) (control : Control) (m : List ℕ) (tlb : Translations) →
    instr_form i ≡ form_by k → refusal i regs.cpl ≡ None →
    effect_of i size regs control m tlb ≡ planned_effect (form_by k) i size regs control m (view_of m control regs.cpl) tlb
unfolding effect_of
effect_plain k i size regs control m tlb form lawful =
    ap (λ r. unless_refused r tlb (effect_by (instr_form i) i size regs control m (view_of m control regs.cpl) tlb)) lawful
    ∙ (ap (λ (f : Form). effect_by f i size regs control m (view_of m control regs.cpl) tlb) form
    ∙ by_kind k i size regs control m (view_of m control regs.cpl) tlb)

-- a turn by an effect that leaves this, with its write made
not_settled : (s : Settled) (fault : Fault) (one other : Result Settled Fault) → one ≡ Ok s → other ≡ Err fault → one ≡ other → ⊥
not_settled s fault one other a b e = cc

same_settled : (s t : Settled) (one other : Result Settled Fault) → one ≡ Ok s → other ≡ Ok t → one ≡ other → s ≡ t
same_settled s t one other a b e = cc

module _ (p : Processor) (m : List ℕ) (regs : Regs) (after : List ℕ) where
  abbrev whole : Settled
  whole = record { regs = regs; memory = after; act = Quiet }

  by_settled : (o : Outcome Fault Effect) → quiet_outcome regs after p.tlb ≡ settled o m → turned_by o.answer p m o.tlb ≡ ran (record p { regs = regs }) after
  by_settled o is = go o.answer o.tlb is
    where
      go : (answer : Result Effect Fault) (tlb : Translations) → quiet_outcome regs after p.tlb ≡ outcome_of (settled_by answer m) tlb →
          turned_by answer p m tlb ≡ ran (record p { regs = regs }) after
      go (Ok effect) tlb is =
          let kept : tlb ≡ p.tlb = sym (ap (λ (o : Outcome Fault Settled). o.tlb) is) in
          let left : Settled = record { regs = effect.regs; memory = memory_after effect.write m; act = effect.act } in
          let same : left ≡ whole =
          sym (same_settled whole left (Ok whole) (Ok left) refl refl (ap (λ (o : Outcome Fault Settled). o.answer) is)) in
          ap (λ (x : Settled × Translations). acted x.0.act p.regs (record p { regs = x.0.regs; tlb = x.1 }) x.0.memory) (λ j. (same j, kept j))
      go (Err fault) tlb is =
          absurd (not_settled whole fault (Ok whole) (Err fault) refl refl (ap (λ (o : Outcome Fault Settled). o.answer) is))

  -- the turn of a processor with a quick form at RIP
  pub quick_turned : (q : Quick) → p.pending ≡ 0 → p.shielded ≡ false → is_at_body p.regs ≡ false →
      instr_form (instruction_of q) ≡ form_by q.kind → refusal (instruction_of q) p.regs.cpl ≡ None →
      instruction_at m (view_of m p.control p.regs.cpl) p.regs.rip p.tlb ≡ answered (record { instr = instruction_of q; size = q.size }) p.tlb →
      quiet_outcome regs after p.tlb ≡ effect_made (form_by q.kind) q p.regs p.control m p.tlb → ran (record p { regs = regs }) after ≡ turned p m
  quick_turned q none clear elsewhere form lawful fetched made =
      let fetches : instruction_made p m ≡ effect_of (instruction_of q) q.size p.regs p.control m p.tlb =
      ap (λ (o : Outcome Fault Fetched). and_then o (λ it last. effect_of it.instr it.size p.regs p.control m last)) fetched in
      let effect : instruction_made p m ≡ planned_effect (form_by q.kind) (instruction_of q) q.size p.regs p.control m (view_of m p.control p.regs.cpl) p.tlb =
      fetches ∙ effect_plain q.kind (instruction_of q) q.size p.regs p.control m p.tlb form lawful in
      let unshielded : instructed (record p { shielded = false }) m ≡ instructed p m =
      ap (λ (b : Bool). instructed (record p { shielded = b }) m) (sym clear) in
      sym (turned_by_vector p m None (nothing_deliverable p none)
      ∙ (unshielded ∙ (instructed_elsewhere p m elsewhere
      ∙ by_settled (instruction_made p m) (made ∙ ap (λ (o : Outcome Fault Effect). settled o m) (sym effect)))))

-- one turn more
pub one_more : (k : ℕ) (p q r : Processor) (m n o : List ℕ) → AreQuickTurns k p m q n → IsQuickTurn q n → ran r o ≡ turned q n → AreQuickTurns (suc k) p m r o
unfolding AreQuickTurns
one_more zero p q r m n o are one made =
    let now : turned q n ≡ turned p m = λ j. turned (are.0 j) (are.1 j) in (
      subst (λ (x : Processor × List ℕ). IsQuickTurn x.0 x.1) (λ j. (are.0 j, are.1 j)) one,
      (
        ap (λ (t : Turned). t.processor) (made ∙ now),
        ap (λ (t : Turned). t.memory) (made ∙ now),
      ),
    )
one_more (suc k) p q r m n o are one made = (are.0, one_more k (turned p m).processor q r (turned p m).memory n o are.1 one made)

-- no turn yet
pub no_turns : (p : Processor) (m : List ℕ) → AreQuickTurns 0 p m p m
unfolding AreQuickTurns
no_turns p m = (refl, refl)

-- a turn, and then turns
one_before : (p : Processor) (m : List ℕ) (k : ℕ) (r : Processor) (o : List ℕ) → IsQuickTurn p m → AreQuickTurns k (turned p m).processor (turned p m).memory r o →
    AreQuickTurns (suc k) p m r o
unfolding AreQuickTurns
one_before p m k r o turn later = (turn, later)

-- turns, and then turns
pub more_turns : (k j : ℕ) (p q r : Processor) (m n o : List ℕ) → AreQuickTurns k p m q n → AreQuickTurns j q n r o → AreQuickTurns (k + j) p m r o
unfolding AreQuickTurns
more_turns zero j p q r m n o are later =
    let same : j ≡ 0 + j = omega arith in
    subst (λ k. AreQuickTurns k p m r o) same (subst (λ (x : Processor × List ℕ). AreQuickTurns j x.0 x.1 r o) (λ i. (are.0 i, are.1 i)) later)
more_turns (suc k) j p q r m n o are later =
    let same : suc (k + j) ≡ suc k + j = omega arith in
    subst (λ i. AreQuickTurns i p m r o) same
    (one_before p m (k + j) r o are.0 (more_turns k j (turned p m).processor q r (turned p m).memory n o are.1 later))

-- RIP so far ahead in kept code isn't the body's place, for the supervisor
away : (cpl rip start last ahead : ℕ) → ahead ≤ last → start + ahead ≡ rip →
    (cpl ≡ 0 → (start + last < 0xFFFFFF800000101B) ⊎ (0xFFFFFF800000101B < start)) → (cpl == 0 && rip == 0xFFFFFF800000101B) ≡ false
away cpl rip start last ahead near here apart = go (cpl == 0 && rip == 0xFFFFFF800000101B) refl
  where
    go : (b : Bool) → (cpl == 0 && rip == 0xFFFFFF800000101B) ≡ b → (cpl == 0 && rip == 0xFFFFFF800000101B) ≡ false
    go false e = e
    go true e =
        let parts = and_parts (cpl == 0) (rip == 0xFFFFFF800000101B) e in
        let there : rip ≡ 0xFFFFFF800000101B = eqb-true rip 0xFFFFFF800000101B parts.1 in
        elim (apart (eqb-true cpl 0 parts.0)) [
          | inl below ↦ absurd (omega (arith, near, here, there, below))
          | inr above ↦ absurd (omega (arith, here, there, above))
        ]

pub not_at_body : (size : ℕ) (p : Processor) (code : KeptCode) (ahead : ℕ) → IsKeptCode size p.control p.regs.cpl p.tlb code →
    ahead ≤ code.last → code.start + ahead ≡ p.regs.rip → is_at_body p.regs ≡ false
not_at_body size p code ahead kept near here = away p.regs.cpl p.regs.rip code.start code.last ahead near here kept.elsewhere
