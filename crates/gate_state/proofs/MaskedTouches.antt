-- Over a memory of which a guarded state's is seen, a turn is told to touch what it touches over the state's memory; where
-- that is any byte, all outside the trap stack stay.
use Rattle.std.proofs.Common.{◌≡◌, ◌≢◌, ℕ, ◌/◌, false, List, refl, sym, ap, ◌∙◌}
use Rattle.std.specs.Prelude.{IfOk, Option, None, Some, Result, Ok, Err, if◌then◌else◌}
use Rattle.std.proofs.lemmas.List.Elements.{All-weaker}
use Rattle.nk_bits.specs.Outcomes.{Outcome}
use Rattle.page_walk.specs.MemoryAccess.{view_of}
use Rattle.phys_mem.specs.MaskedMemory.{is_book_frame, masked}
use Rattle.phys_mem.specs.Memory.{byte_at, stored}
use Rattle.x86_decode.specs.WellFormed.{IsWellFormed}
use Rattle.x86_regs.specs.declared.effects.Effect.{Effect}
use Rattle.x86_regs.specs.declared.faults.Fault.{Fault}
use Rattle.cpu_step.specs.declared.fetch.Fetched.{Fetched}
use Rattle.cpu_step.specs.declared.stepped.Stepped.{Stepped}
use Rattle.cpu_step.specs.declared.touched.Touched.TheVariants as touched
use Rattle.cpu_step.specs.FramesTouched.{effect_touched, instruction_touched, touched_unless, turn_touched}
use Rattle.cpu_step.specs.InstructionFetch.{instruction_at}
use Rattle.cpu_step.specs.Processor.{Processor, deliverable}
use Rattle.cpu_step.specs.TurnStores.{turn_stores}
use Rattle.cpu_step.specs.Turns.{instructed, instruction_made, is_at_body, turned, turned_unless}
use Rattle.gate_state.specs.GuardedStates.{IsAdmitted, IsGuarded}
use Rattle.gate_state.specs.MachineStates.{MachineState, Opening}
use Rattle.gate_state.specs.RespectedKinds.{respecting}
use Rattle.gate_state.specs.SafeStates.{TakesTurn}
use Rattle.gate_state.proofs.LowerLaws.{LowerLaws}
use Rattle.gate_state.proofs.MaskedScenes.{IsSeen, alike}
use Rattle.gate_state.proofs.MaskedStates.{masked_stores, masked_turn}
use Rattle.gate_state.proofs.Scene.{IsScene, SceneLaws}
use Rattle.gate_state.proofs.SceneProofs.{scene_laws}
use Rattle.gate_state.proofs.StatesKept.{ready}
use Rattle.gate_state.proofs.TrappedStores.{AreTrapped, turn_trapped}
use Rattle.gate_state.proofs.TurnFacts.{TurnFacts}

each_ok : {A F : Type 0} (P : A → Type 0) (r : Result A F) → ((x : A) → r ≡ Ok x → P x) → IfOk r P
each_ok P (Ok x) each = each x refl
each_ok P (Err fault) each = tt

-- what is told of an instruction goes by what it makes, and by what it shows
told_same : (p : Processor) (m n : List ℕ) → instruction_made p m ≡ instruction_made p n
    → (instructed p m).stepped ≡ (instructed p n).stepped → instruction_touched p m ≡ instruction_touched p n
unfolding instruction_touched
told_same p m n made shown =
    ap (λ (x : Outcome Fault Effect).
    if is_at_body p.regs then touched.Any else effect_touched x.answer (instructed p m).stepped) made
    ∙ ap (λ (x : Stepped).
    if is_at_body p.regs then touched.Any else effect_touched (instruction_made p n).answer x) shown

told_unless : (vector : Option ℕ) (p : Processor) (m n : List ℕ)
    → instruction_made (record p { shielded = false }) m ≡ instruction_made (record p { shielded = false }) n
    → (turned_unless vector p m).stepped ≡ (turned_unless vector p n).stepped
    → touched_unless vector p m ≡ touched_unless vector p n
told_unless (Some vector) p m n made shown = refl
told_unless None p m n made shown = told_same (record p { shielded = false }) m n made shown

module _ (laws : LowerLaws) (o : Opening) (admitted : IsAdmitted o) (s : MachineState) (guarded : IsGuarded o s)
    (m : List ℕ) (is : masked (is_book_frame o.frames) m ≡ s.memory) (facts : TurnFacts o s.kinds)
    (takes : TakesTurn s.processor) where
  abbrev p : Processor
  p = s.processor

  scenes : SceneLaws o s.kinds
  scenes = scene_laws laws o s.kinds admitted guarded.kinds

  scene : IsScene o s.kinds s.memory p.control
  scene = (ready laws o admitted s guarded).scene

  seen : IsSeen o s.kinds m s.memory p.control
  seen = record { scene = scene; masks = is }

  made_same : instruction_made (record p { shielded = false }) s.memory
      ≡ instruction_made (record p { shielded = false }) m
  made_same =
      let fetched : Outcome Fault Fetched =
      instruction_at s.memory (view_of s.memory p.control p.regs.cpl) p.regs.rip p.tlb in
      laws.alike_fetch.made (respecting o s.kinds) (record p { shielded = false }) s.memory m
      (alike laws o s.kinds m s.memory p.control seen)
      (scenes.walked s.memory p.control p.regs.cpl scene) guarded.translations guarded.control.registers
      (each_ok (λ (it : Fetched). IsWellFormed it.instr) fetched.answer
      (λ it found. facts.fetch_formed s.memory p.control p.regs.cpl p.regs.rip p.tlb scene it found))

  masked_touched : turn_touched p s.memory ≡ turn_touched p m
  unfolding turn_touched turned
  masked_touched =
      told_unless (deliverable p) p s.memory m made_same
      (sym (masked_turn laws o admitted s guarded m is facts takes).1)

  stores_trapped : turn_touched p m ≡ touched.Any → AreTrapped (turn_stores p s.memory)
  stores_trapped any =
      turn_trapped laws o s.kinds scenes facts p s.memory
      (record { scene = scene; tables = guarded.control.tables; pass = guarded.translations })
      guarded.control.registers guarded.control.pending (masked_touched ∙ any)

  pub masked_trapped : (place : ℕ) → turn_touched p m ≡ touched.Any → place / 4096 ≢ 3
      → byte_at (turned p m).memory place ≡ byte_at m place
  masked_trapped place any apart =
      let made : List (ℕ × ℕ) = turn_stores p s.memory in
      ap (λ x. byte_at x place)
      (laws.turn_stores.memory p m ∙ ap (stored m) (masked_stores laws o admitted s guarded m is facts takes))
      ∙ laws.memory.byte_elsewhere m made place
      (All-weaker (λ (w : ℕ × ℕ). w.0 / 4096 ≡ 3) (λ (w : ℕ × ℕ). w.0 ≢ place)
      (λ w at same. apart (ap (λ n. n / 4096) (sym same) ∙ at)) made (stores_trapped any))
