-- Machines that don't stand as they say, and kinds that no calls make, each at concrete values.
use Rattle.std.proofs.Common.{◌≡◌, ◌≢◌, ◌+◌, ◌<◌, ℕ, true, false, List, [], ◌∷◌, refl, ap, sym, subst, ◌∙◌, arith}
use Rattle.std.proofs.lemmas.Bool.{false≢true}
use Rattle.nk_bits.specs.declared.kind.Kind.{Kind}
use Rattle.nk_bits.specs.declared.kind.Kind.TheVariants.{Code, Data, Fixed, Guarded, Hidden, Table, Trap}
use Rattle.nk_bits.specs.Accesses.{wp_of}
use Rattle.nk_bits.specs.Kinds.{kind_of}
use Rattle.boot_map.specs.OpeningKinds.{kind_at, kinds}
use Rattle.boot_map.specs.Parts.{part_at}
use Rattle.gate_text.specs.GatePoints.{is_point}
use Rattle.cpu_step.specs.Processor.{Processor}
use Rattle.nk_body.specs.KindsKept.{is_reserved, is_settled}
use Rattle.nk_body.specs.NestedRecord.{Ledger}
use Rattle.gate_state.specs.GuardedStates.{AreKinds}
use Rattle.gate_state.specs.MachineOf.{IsAtBody, IsInGates, IsOuter, IsStanding}
use Rattle.gate_state.specs.MachineStates.{MachineState, Opening}
use Rattle.gate_state.specs.WholeMachine.{HeldState}

-- the supervisor at this address with this CR0 and CR4
abbrev standing : ℕ → ℕ → ℕ → Processor
standing rip cr0 cr4 = record {
  regs = record {
    general = 0 ∷ 0 ∷ 0 ∷ 0 ∷ 0xFFFFFF8000005000 ∷ 0 ∷ 0 ∷ 0 ∷ 0 ∷ 0 ∷ 0 ∷ 0 ∷ 0 ∷ 0 ∷ 0 ∷ 0 ∷ [];
    rip = rip;
    flags = 2;
    cpl = 0;
    ss = 0x10;
  };
  control = record { cr0 = cr0; cr2 = 0; root = 5; cr4 = cr4; efer = 0xD00 };
  tables = record { idt = 0xFFFFFF8000000000; limit = 767; tss = 0xFFFFFF8000000400 };
  tlb = record { pairs = []; upper = [] };
  input = [];
  pending = 0;
  shielded = false;
  halted = false;
}

-- the image of a machine has a byte that is none, or its CR4 lacks SMEP: whatever the place is, it doesn't stand so
module _ (IsPlace : Processor → Type 0) (m : List ℕ) (ks : List Kind) (ledger : Ledger) (turns taken : ℕ) where
  abbrev state_of : Processor → MachineState
  state_of p = record { processor = p; memory = m; kinds = ks; ledger = ledger; turns = turns; taken = taken }

  of_no_image : (s : MachineState) → IsStanding IsPlace (record { image = 256 ∷ []; frames = 512 }) s → ⊥
  of_no_image s it = let small : 256 < 256 = it.admitted.bytes 0 in omega (arith, small)

  without_smep : (o : Opening) → IsStanding IsPlace o (state_of (standing 0xFFFFFFFF80000000 0x80010001 0x20)) → ⊥
  without_smep o it = let kept : 0x20 ≡ 0x100020 = it.guarded.control.cr4 in omega (arith, kept)

  elsewhere : (o : Opening) (s : MachineState) → (IsPlace s.processor → ⊥) → IsStanding IsPlace o s → ⊥
  elsewhere o s none it = none it.place

-- the outer kernel's with WP clear
outer_with_wp_clear : (cr4 rip : ℕ) → IsOuter (standing rip 0x80000001 cr4) → ⊥
unfolding wp_of
outer_with_wp_clear cr4 rip it = false≢true it

-- in the gates with WP set; at the body's place; and at no gate point, at the load of CR0 that clears WP
gates_with_wp_set : (cr4 rip : ℕ) → IsInGates (standing rip 0x80010001 cr4) → ⊥
unfolding wp_of
gates_with_wp_set cr4 rip it = false≢true (sym it.clear)

gates_at_the_body : (cr4 : ℕ) → IsInGates (standing 0xFFFFFF800000101B 0x80000001 cr4) → ⊥
gates_at_the_body cr4 it =
    let stands : 0xFFFFFF800000101B ≡ 0xFFFFFF8000001000 + it.offset = it.point.rip in
    it.elsewhere (omega (arith, stands))

gates_at_no_point : (cr4 : ℕ) → IsInGates (standing 0xFFFFFF800000100D 0x80000001 cr4) → ⊥
unfolding is_point
gates_at_no_point cr4 it =
    let stands : 0xFFFFFF800000100D ≡ 0xFFFFFF8000001000 + it.offset = it.point.rip in
    let at : it.offset ≡ 13 = omega (arith, stands) in
    false≢true (subst (λ (n : ℕ). is_point n ≡ true) at it.point.point)

-- at the body with WP set, or a byte behind the body's place
body_with_wp_set : (cr4 : ℕ) → IsAtBody (standing 0xFFFFFF800000101B 0x80010001 cr4) → ⊥
unfolding wp_of
body_with_wp_set cr4 it = false≢true (sym it.clear)

body_elsewhere : (cr4 : ℕ) → IsAtBody (standing 0xFFFFFF800000101D 0x80000001 cr4) → ⊥
body_elsewhere cr4 it =
    let stands : 0xFFFFFF800000101D ≡ 0xFFFFFF800000101B = it.point.rip in omega (arith, stands)

-- each of the three machines is refused where its processor stands so
outer_machine : (held : HeldState) (cr4 rip : ℕ) → held.state.processor ≡ standing rip 0x80000001 cr4
    → IsStanding IsOuter held.opening held.state → ⊥
outer_machine held cr4 rip is it = outer_with_wp_clear cr4 rip (subst IsOuter is it.place)

gate_machine : (held : HeldState) (cr4 : ℕ) → held.state.processor ≡ standing 0xFFFFFF800000101B 0x80000001 cr4
    → IsStanding IsInGates held.opening held.state → ⊥
gate_machine held cr4 is it = gates_at_the_body cr4 (subst IsInGates is it.place)

nested_machine : (held : HeldState) (cr4 : ℕ) → held.state.processor ≡ standing 0xFFFFFF800000101D 0x80000001 cr4
    → IsStanding IsAtBody held.opening held.state → ⊥
nested_machine held cr4 is it = body_elsewhere cr4 (subst IsAtBody is it.place)

-- kinds of a memory of 512 frames, whatever the image: the opening's root, in frame 5, may be data later, and guarded,
-- and no kind that calls don't give
module _ (b : List ℕ) (ks : List Kind) (it : AreKinds (record { image = b; frames = 512 }) ks) where
  root_at_first : kind_of (kinds b 512) 5 ≡ Table 4
  unfolding kinds kind_at part_at
  root_at_first = refl

  given_to_the_root : (kind : Kind) → is_reserved kind ≡ true → kind ≢ Table 4 → kind_of ks 5 ≡ kind → ⊥
  given_to_the_root kind reserved other is =
      other (sym is ∙ it.reserved 5 (ap is_reserved is ∙ reserved) ∙ root_at_first)

  hidden_root : kind_of ks 5 ≡ Hidden → ⊥
  hidden_root = given_to_the_root Hidden refl (λ e. cc)

  fixed_root : kind_of ks 5 ≡ Fixed → ⊥
  fixed_root = given_to_the_root Fixed refl (λ e. cc)

  code_for_the_root : kind_of ks 5 ≡ Code → ⊥
  code_for_the_root = given_to_the_root Code refl (λ e. cc)

  trap_stack_for_the_root : kind_of ks 5 ≡ Trap → ⊥
  trap_stack_for_the_root = given_to_the_root Trap refl (λ e. cc)

  -- and the gates' text, the trap stack, the pool and the log stay what they are
  settled_at_first :
      (kind_of (kinds b 512) 1 ≡ Fixed) ×
      (kind_of (kinds b 512) 3 ≡ Trap) ×
      (kind_of (kinds b 512) 10 ≡ Guarded) ×
      (kind_of (kinds b 512) 26 ≡ Hidden)
  unfolding kinds kind_at part_at
  settled_at_first = (refl, refl, refl, refl)

  data_of_the_gates : kind_of ks 1 ≡ Data → ⊥
  data_of_the_gates is =
      let first = settled_at_first.0 in let kept = it.settled 1 (ap is_settled first) in cc

  data_of_the_trap_stack : kind_of ks 3 ≡ Data → ⊥
  data_of_the_trap_stack is =
      let first = settled_at_first.1 in let kept = it.settled 3 (ap is_settled first) in cc

  data_of_the_pool : kind_of ks 10 ≡ Data → ⊥
  data_of_the_pool is =
      let first = settled_at_first.2 in let kept = it.settled 10 (ap is_settled first) in cc

  data_of_the_log : kind_of ks 26 ≡ Data → ⊥
  data_of_the_log is =
      let first = settled_at_first.3 in let kept = it.settled 26 (ap is_settled first) in cc
