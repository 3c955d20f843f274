-- What the gates' own instructions do while WP is clear: none faults, each stays in the window or sets WP, and what is
-- written lies on the trap stack.
use Rattle.std.proofs.Common.{◌≡◌, ◌≢◌, ◌⊎◌, ℕ, ◌+◌, ◌-◌, ◌*◌, ◌^◌, ◌<◌, ◌≤◌, true, false, refl, List, [], ◌∷◌, inl, inr, arith, ap, subst, sym, ◌∙◌}
use Rattle.std.specs.Prelude.{not, slice_index, IfOk, None, Ok}
use Rattle.std.proofs.lemmas.Bool.{and_from, cases_Bool, eq-eqb}
use Rattle.decode_fields.specs.declared.place.Place.TheVariants.{Reg}
use Rattle.x86_decode.specs.declared.instruction.Decoded.TheVariants.{Whole}
use Rattle.x86_decode.specs.declared.instruction.Instr.{Instr}
use Rattle.x86_decode.specs.Reader.{decoded_of}
use Rattle.x86_alu.specs.SignedNumbers.{bit, cut}
use Rattle.nk_bits.specs.declared.call.Answer.{Answer}
use Rattle.nk_bits.specs.declared.kind.Kind.{Kind}
use Rattle.nk_bits.specs.Accesses.{wp_of}
use Rattle.nk_bits.specs.Claims.{AllPass}
use Rattle.nk_bits.specs.Translations.{Translations}
use Rattle.x86_regs.specs.declared.effects.Act.TheVariants as act
use Rattle.x86_regs.specs.declared.effects.Effect.{Effect}
use Rattle.x86_regs.specs.declared.registers.Regs.{Regs}
use Rattle.x86_regs.specs.Effects.{effect_of}
use Rattle.x86_regs.specs.EffectsKept.{AreRegisters}
use Rattle.x86_regs.specs.Operands.{next_of, rax}
use Rattle.x86_regs.specs.OperandOutcomes.{going_on, is_cr0}
use Rattle.x86_regs.specs.Registers.{held}
use Rattle.trap_unit.specs.TrapDelivery.{at_handler}
use Rattle.cpu_step.specs.declared.fetch.Fetched.{Fetched}
use Rattle.cpu_step.specs.Processor.{Processor}
use Rattle.cpu_step.specs.Turns.{kept_in_cr0}
use Rattle.gate_text.specs.GatePoints.{instruction_bytes, is_point}
use Rattle.nk_bits.specs.KernelLayout.{gate_address}
use Rattle.gate_state.specs.GateWindow.{IsAtPoint, IsGatePoint, holds_at}
use Rattle.gate_state.specs.GuardedStates.{IsControlled, IsCr0}
use Rattle.gate_state.specs.MachineStates.{Opening}
use Rattle.gate_state.specs.MachineSteps.{answered_with}
use Rattle.gate_state.specs.RespectedKinds.{respecting}
use Rattle.gate_state.proofs.LowerLaws.{LowerLaws}
use Rattle.gate_state.proofs.Scene.{IsScene, SceneLaws}
use Rattle.gate_state.proofs.ControlWord.{cr0_kept, wp_kept}
use Rattle.gate_state.proofs.WindowEffects.{load_refused, load_row}
use Rattle.gate_state.proofs.WindowKept.{Goes, leads_back, leads_from, register_same}
use Rattle.gate_state.proofs.WindowNearer.{closer_same, points_closer}
use Rattle.gate_state.proofs.WindowPoints.{at_points, stub_before}
use Rattle.gate_state.proofs.WindowPushes.{goes_448, goes_pushing}
use Rattle.gate_state.proofs.WindowRows.{cli, jmp, jz, load_bytes, mov_cr0_rax, mov_rax_cr0, mov_rsp, or_eax, push_rax, push_value, rows, stub_jump, stub_points, stub_push, test_eax}
use Rattle.gate_state.proofs.WindowSteps.{goes_16, goes_17, goes_back, goes_jumping, goes_loading, goes_raising, goes_reading, goes_testing}
pub use Rattle.gate_state.proofs.WindowKept.{KeepsWindow, cr0_after}

-- the instruction of the row at an offset, and what it does
record RowGoes (p : Processor) (m : List ℕ) (tlb : Translations) (offset : ℕ) : Type 0 where
  instr : Instr
  size : ℕ
  row : decoded_of (instruction_bytes offset) ≡ Whole instr size
  goes : Goes p m tlb instr size

-- the instruction that was read is that of the row
read_goes : (p : Processor) (m : List ℕ) (tlb : Translations) (offset : ℕ) (it : Fetched)
    → decoded_of (instruction_bytes offset) ≡ Whole it.instr it.size → RowGoes p m tlb offset
    → Goes p m tlb it.instr it.size
read_goes p m tlb offset it listed found =
    let same : Whole found.instr found.size ≡ Whole it.instr it.size = sym found.row ∙ listed in
    let instr_same : found.instr ≡ it.instr = cc in
    let size_same : found.size ≡ it.size = cc in
    subst (λ n. Goes p m tlb it.instr n) size_same (subst (λ i. Goes p m tlb i found.size) instr_same found.goes)

-- the row of this instruction
row_of : (p : Processor) (m : List ℕ) (tlb : Translations) (offset : ℕ) (i : Instr) (size : ℕ)
    → decoded_of (instruction_bytes offset) ≡ Whole i size → Goes p m tlb i size → RowGoes p m tlb offset
row_of p m tlb offset i size row goes = record { instr = i; size = size; row = row; goes = goes }

module _ (lower : LowerLaws) (o : Opening) (ks : List Kind) (laws : SceneLaws o ks) where
  -- point by point, but for the body's place
  row_goes : (p : Processor) (m : List ℕ) (tlb : Translations) (offset : ℕ) → IsControlled p → IsScene o ks m p.control
      → AllPass (respecting o ks) tlb → IsAtPoint offset p → offset ≢ 27 → RowGoes p m tlb offset
  unfolding is_point
  row_goes p m tlb offset controlled scene pass at elsewhere =
      at_points (λ offset. IsAtPoint offset p → offset ≢ 27 → RowGoes p m tlb offset) (
        (λ at elsewhere. row_of p m tlb 16 cli 1 rows.row_16
            (goes_16 lower p m tlb controlled at)),
        (
          (λ at elsewhere. row_of p m tlb 17 (mov_rsp 0xFFFFFF8000005000) 10 rows.row_17
              (goes_17 lower p m tlb controlled at)),
          (
            (λ at elsewhere. absurd (elsewhere refl)),
            (
              (λ at elsewhere. row_of p m tlb 29 mov_rax_cr0 3 rows.row_29
                  (goes_reading lower p m tlb controlled 32 (leads_from p 29 3 32 at refl refl)
                  (closer_same p 29 32 p.regs.flags at.rip refl points_closer.from_29) (λ q has. has))),
              (
                (λ at elsewhere. row_of p m tlb 32 or_eax 5 rows.row_32
                    (goes_raising lower p m tlb controlled 32 37 at.rip points_closer.from_32 (leads_from p 32 5 37 at refl refl) at.holds (λ q has. has))),
                (
                  (λ at elsewhere. row_of p m tlb 37 mov_cr0_rax 3 rows.row_37
                      (goes_loading lower p m tlb controlled at.supervisor at.holds)),
                  (
                    (λ at elsewhere. row_of p m tlb 40 test_eax 5 rows.row_40
                        (goes_testing lower p m tlb controlled 40 45 at.rip points_closer.from_40 (leads_from p 40 5 45 at refl refl) at.holds (λ q has. has))),
                    (
                      (λ at elsewhere. row_of p m tlb 45 (jz (2 ^ 64 - 18)) 2 rows.row_45
                          (goes_back lower p m tlb controlled 29 (2 ^ 64 - 18) (leads_back p 45 2 29 (2 ^ 64 - 18) at refl refl)
                          (closer_same p 45 29 p.regs.flags at.rip refl points_closer.from_45) refl
                          at.holds (λ q. refl))),
                      (
                        (λ at elsewhere. row_of p m tlb 448 push_rax 1 rows.row_448
                            (goes_448 o ks laws p m tlb controlled scene pass at)),
                        (
                          (λ at elsewhere. row_of p m tlb 449 mov_rax_cr0 3 rows.row_449
                              (goes_reading lower p m tlb controlled 452 (leads_from p 449 3 452 at refl refl)
                              (closer_same p 449 452 p.regs.flags at.rip refl points_closer.from_449) (λ q has. has))),
                          (
                            (λ at elsewhere. row_of p m tlb 452 or_eax 5 rows.row_452
                                (goes_raising lower p m tlb controlled 452 457 at.rip points_closer.from_452 (leads_from p 452 5 457 at refl refl) at.holds (λ q has. has))),
                            (
                              (λ at elsewhere. row_of p m tlb 457 mov_cr0_rax 3 rows.row_457
                                  (goes_loading lower p m tlb controlled at.supervisor at.holds)),
                              (
                                (λ at elsewhere. row_of p m tlb 460 test_eax 5 rows.row_460
                                    (goes_testing lower p m tlb controlled 460 465 at.rip points_closer.from_460 (leads_from p 460 5 465 at refl refl) at.holds (λ q has. has))),
                                (
                                  (λ at elsewhere. row_of p m tlb 465 (jz (2 ^ 64 - 18)) 2 rows.row_465
                                      (goes_back lower p m tlb controlled 449 (2 ^ 64 - 18) (leads_back p 465 2 449 (2 ^ 64 - 18) at refl refl)
                                      (closer_same p 465 449 p.regs.flags at.rip refl points_closer.from_465) refl
                                      at.holds (λ q. refl))),
                                  tt,
                                ),
                              ),
                            ),
                          ),
                        ),
                      ),
                    ),
                  ),
                ),
              ),
            ),
          ),
        ),
      )
      (λ v low high at elsewhere. row_of p m tlb (64 + 8 * v) (push_value v) 2 (stub_push v low high)
      (goes_pushing o ks laws p m tlb controlled scene pass v low high at))
      (λ v low high at elsewhere. row_of p m tlb (66 + 8 * v) (jmp (377 - 8 * v)) 5 (stub_jump v low high)
      (goes_jumping lower p m tlb controlled v low high at))
      offset at.point at elsewhere

  pub window_effect : (p : Processor) (m : List ℕ) (tlb : Translations) (offset : ℕ) (it : Fetched) → IsControlled p
      → IsScene o ks m p.control → AllPass (respecting o ks) tlb → wp_of p.control.cr0 ≡ false → IsAtPoint offset p
      → offset ≢ 27 → decoded_of (instruction_bytes offset) ≡ Whole it.instr it.size
      → (effect : Effect) × ((effect_of it.instr it.size p.regs p.control m tlb).answer ≡ Ok effect)
      × KeepsWindow p effect
  window_effect p m tlb offset it controlled scene pass clear at elsewhere listed =
      let found : RowGoes p m tlb offset = row_goes p m tlb offset controlled scene pass at elsewhere in
      let goes : Goes p m tlb it.instr it.size = read_goes p m tlb offset it listed found in
      (goes.effect, goes.answer, goes.keeps)

-- what a load of CR0 leaves that was admitted
abbrev IsLoad : Processor → Effect → Type 0
IsLoad p effect =
    ((value : ℕ) × (effect.act ≡ act.Cr0 value))
    × IsCr0 (cr0_after effect.act p.control.cr0)
    × (wp_of (cr0_after effect.act p.control.cr0) ≡ false
    → IsGatePoint (record p {
      regs = effect.regs;
      control = record p.control { cr0 = cr0_after effect.act p.control.cr0 };
    }))
    × (effect.write ≡ None)

-- one that leads to an offset at which WP is clear in RAX, or of which nothing is said
loads : (p : Processor) (m : List ℕ) (tlb : Translations) (next : ℕ) → p.regs.cpl ≡ 0 → p.halted ≡ false
    → AreRegisters p.regs → next_of p.regs 3 ≡ gate_address + next → is_point next ≡ true
    → ((q : Processor) → not (bit (slice_index q.regs.general rax) 16) ≡ true → holds_at next q ≡ true)
    → IfOk (effect_of mov_cr0_rax 3 p.regs p.control m tlb).answer (IsLoad p)
loads p m tlb next supervisor runs registers rip point holds =
    let value : ℕ = cut 64 (held p.regs.general (Reg 0) 64) in
    let regs : Regs = going_on p.regs p.regs.general p.regs.flags (next_of p.regs 3) in
    let whole : value ≡ slice_index p.regs.general 0 = omega (arith, registers.bounds 0) in
    elim (cases_Bool (is_cr0 value)) [
      | inr refused ↦
          subst (λ answer. IfOk answer (IsLoad p)) (sym (load_refused 3 p.regs p.control m tlb supervisor refused)) tt
      | inl admitted ↦
          subst (λ answer. IfOk answer (IsLoad p)) (sym (load_row 3 p.regs p.control m tlb supervisor admitted)) (
            (value, refl),
            cr0_kept value admitted,
            (λ clear. record {
              offset = next;
              stands = record {
                supervisor = supervisor;
                runs = runs;
                rip = rip;
                point = point;
                holds = holds (record p { regs = regs; control = record p.control { cr0 = kept_in_cr0 value } })
                    (ap not (ap (λ a. bit a 16) (sym whole) ∙ sym (wp_kept value) ∙ clear));
              };
            }),
            refl,
          )
    ]

loads_at : (p : Processor) (m : List ℕ) (tlb : Translations) (offset : ℕ)
    → (offset ≡ 13) ⊎ (offset ≡ 37) ⊎ (offset ≡ 457)
    → p.regs.rip ≡ gate_address + offset → p.regs.cpl ≡ 0 → p.halted ≡ false → AreRegisters p.regs
    → IfOk (effect_of mov_cr0_rax 3 p.regs p.control m tlb).answer (IsLoad p)
unfolding is_point
loads_at p m tlb offset (inl entry) rip supervisor runs registers =
    loads p m tlb 16 supervisor runs registers (omega arith) refl (λ q clear. refl)
loads_at p m tlb offset (inr (inl exit)) rip supervisor runs registers =
    loads p m tlb 40 supervisor runs registers (omega arith) refl (λ q clear. clear)
loads_at p m tlb offset (inr (inr trap)) rip supervisor runs registers =
    loads p m tlb 460 supervisor runs registers (omega arith) refl (λ q clear. clear)

-- the loads of CR0 with WP set before: what they leave
pub load_effect : (p : Processor) (m : List ℕ) (tlb : Translations) (offset : ℕ) (it : Fetched)
    → (offset ≡ 13) ⊎ (offset ≡ 37) ⊎ (offset ≡ 457) → p.regs.rip ≡ gate_address + offset → p.regs.cpl ≡ 0
    → p.halted ≡ false → AreRegisters p.regs → decoded_of (0x0F ∷ 0x22 ∷ 0xC0 ∷ []) ≡ Whole it.instr it.size
    → IfOk (effect_of it.instr it.size p.regs p.control m tlb).answer (λ effect.
    ((value : ℕ) × (effect.act ≡ act.Cr0 value))
    × IsCr0 (cr0_after effect.act p.control.cr0)
    × (wp_of (cr0_after effect.act p.control.cr0) ≡ false
    → IsGatePoint (record p {
      regs = effect.regs;
      control = record p.control { cr0 = cr0_after effect.act p.control.cr0 };
    }))
    × (effect.write ≡ None))
load_effect p m tlb offset it place rip supervisor runs registers read =
    let same : Whole mov_cr0_rax 3 ≡ Whole it.instr it.size = sym load_bytes ∙ read in
    let instr_same : mov_cr0_rax ≡ it.instr = cc in
    let size_same : 3 ≡ it.size = cc in
    subst (λ n. IfOk (effect_of it.instr n p.regs p.control m tlb).answer (IsLoad p)) size_same
    (subst (λ i. IfOk (effect_of i 3 p.regs p.control m tlb).answer (IsLoad p)) instr_same
    (loads_at p m tlb offset place rip supervisor runs registers))

-- an interrupt that is delivered arrives at the stub of its vector
pub handler_point : LowerLaws → (p : Processor) (vector : ℕ) → 32 ≤ vector → vector < 48 → AreRegisters p.regs
    → p.halted ≡ false
    → IsGatePoint (record p { regs = at_handler p.regs (0xFFFFFF8000001040 + 8 * vector) (0xFFFFFF8000004000 - 40) })
handler_point lower p vector low high registers runs =
    let regs : Regs = at_handler p.regs (0xFFFFFF8000001040 + 8 * vector) (0xFFFFFF8000004000 - 40) in
    let points = stub_points vector low high in
    record {
      offset = 64 + 8 * vector;
      stands = record {
        supervisor = refl;
        runs = runs;
        rip = omega arith;
        point = points.0;
        holds = stub_before (record p { regs = regs }) vector low high
            ∙ and_from _ _ (ap not (lower.flag.same 9 p.regs.flags false))
            (eq-eqb _ _ (register_same p.regs.general 4 0xFFFFFF8000003FD8 registers.count (omega arith)));
      };
    }

-- the body leaves the supervisor at offset 29
pub answered_point : (p : Processor) (answer : Answer) (root : ℕ) → p.regs.cpl ≡ 0 → p.halted ≡ false
    → IsGatePoint (answered_with answer root p)
unfolding is_point
answered_point p answer root supervisor runs = record {
  offset = 29;
  stands = record { supervisor = supervisor; runs = runs; rip = refl; point = refl; holds = refl };
}
