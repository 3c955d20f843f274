-- A byte outside what an instruction touched is as it was.
use Rattle.std.proofs.Common.{◌≡◌, ◌≢◌, ◌⊎◌, ◌∙◌, ℕ, ◌/◌, ◌≤◌, Bool, true, false, if◌then◌else◌, List, All, arith, ◌*◌, ◌+◌, refl, sym, ap, subst, inl, inr}
use Rattle.std.specs.Prelude.{Option, Some, None, Result, Ok, Err, length}
use Rattle.std.proofs.lemmas.List.Elements.{All-weaker}
use Rattle.nk_bits.specs.declared.leaf.Target.{Target}
use Rattle.nk_bits.specs.Accesses.{IsTarget}
use Rattle.nk_bits.specs.Outcomes.{Outcome, outcome_of}
use Rattle.nk_bits.specs.Translations.{Translations}
use Rattle.page_walk.specs.MemoryAccess.{stores_at}
use Rattle.phys_mem.specs.MemoryLaws.{MemoryLaws}
use Rattle.port_bus.specs.PortWords.{console_byte}
use Rattle.x86_regs.specs.declared.effects.Act.{Act}
use Rattle.x86_regs.specs.declared.effects.Act.TheVariants as act
use Rattle.x86_regs.specs.declared.effects.Effect.{Effect}
use Rattle.x86_regs.specs.declared.effects.Write.{Write}
use Rattle.x86_regs.specs.declared.faults.Fault.{Fault}
use Rattle.x86_regs.specs.declared.faults.Fault.TheVariants as fault
use Rattle.x86_regs.specs.declared.registers.Regs.{Regs}
use Rattle.x86_regs.specs.Effects.{FitsIn, HasAccessSize, memory_after}
use Rattle.cpu_step.specs.Processor.{Processor, deliverable}
use Rattle.cpu_step.specs.Turns.{Turned, acted, console_shown, control_after, delivery_of, error_code_of, fault_raised, instructed, instruction_made, interrupted_by, is_at_body, returned_by, stepped_by, trapped, vector_of}
use Rattle.trap_unit.specs.declared.shutdown.Shut.{Shut}
use Rattle.trap_unit.specs.TrapDelivery.{delivered, interrupt_allowed}
use Rattle.trap_unit.specs.TrapReturn.{returned}
use Rattle.nk_bits.specs.declared.call.Delivery.{Delivery}
use Rattle.cpu_step.specs.declared.stepped.Stepped.{Stepped}
use Rattle.cpu_step.specs.declared.touched.Touched.TheVariants.{Any}
use Rattle.cpu_step.specs.FramesTouched.{IsUntouched, StaysOutside, effect_touched, instruction_touched, touched_by, touched_of, touched_unless, turn_touched}

module _ (memory : MemoryLaws)
    (places : (size va width value : ℕ) (target : Target) → IsTarget size va width target → width ≤ 4096
    → All (λ w. (w.0 / 4096 ≡ target.first / 4096) ⊎ (w.0 / 4096 ≡ target.second / 4096)) (stores_at va width target value)) where
  -- the one write of an instruction
  write_outside : (write : Option Write) (m : List ℕ) → FitsIn (length m) write → HasAccessSize write
      → StaysOutside (touched_of write) m (memory_after write m)
  write_outside None m fits sized p out = refl
  write_outside (Some w) m fits sized p out =
      memory.byte_elsewhere m (stores_at w.va w.width w.target w.value) p
      (All-weaker (λ s. (s.0 / 4096 ≡ w.target.first / 4096) ⊎ (s.0 / 4096 ≡ w.target.second / 4096)) (λ s. s.0 ≢ p)
      elsewhere (stores_at w.va w.width w.target w.value)
      (places (length m) w.va w.width w.value w.target fits (omega (arith, sized))))
    where
      elsewhere : (s : ℕ × ℕ) → (s.0 / 4096 ≡ w.target.first / 4096) ⊎ (s.0 / 4096 ≡ w.target.second / 4096) → s.0 ≢ p
      elsewhere s (inl one) same = out.0 (ap (λ n. n / 4096) (sym same) ∙ one)
      elsewhere s (inr two) same = out.1 (ap (λ n. n / 4096) (sym same) ∙ two)

  -- a turn that ends in a delivery is told to touch any byte
  trapped_outside : (vector : ℕ) (code : Option ℕ) (write : Option Write) (q : Processor) (m n : List ℕ)
      → StaysOutside (touched_by (trapped vector code q n).stepped write) m (trapped vector code q n).memory
  unfolding trapped
  trapped_outside vector code write q m n = λ p out.
      absurd (subst (λ t. IsUntouched t p) (any (delivered q.regs q.control q.tables vector code n q.tlb).answer (delivery_of vector code q)) out)
    where
      any : (answer : Result Unit Shut) (it : Delivery) → touched_by (stepped_by answer it) write ≡ Any
      any (Ok done) it = refl
      any (Err shut) it = refl

  raised_outside : (it : Fault) (write : Option Write) (q : Processor) (m n : List ℕ)
      → StaysOutside (touched_by (fault_raised it q n).stepped write) m (fault_raised it q n).memory
  raised_outside it write q m n =
      trapped_outside (vector_of it) (error_code_of it) write (record q { control = control_after it q.control }) m n

  interrupted_outside : (allowed : Result Bool Shut) (vector : ℕ) (before : Regs) (write : Option Write) (q : Processor) (m n : List ℕ)
      → StaysOutside (touched_by (interrupted_by allowed vector before q n).stepped write) m (interrupted_by allowed vector before q n).memory
  interrupted_outside (Ok true) vector before write q m n = trapped_outside vector None write q m n
  interrupted_outside (Ok false) vector before write q m n =
      raised_outside (fault.General (8 * vector + 2)) write (record q { regs = before }) m n
  interrupted_outside (Err shut) vector before write q m n = λ p out. absurd out

  returned_outside : (answer : Result Regs Fault) (before : Regs) (write : Option Write) (q : Processor) (m : List ℕ)
      → FitsIn (length m) write → HasAccessSize write
      → StaysOutside (touched_by (returned_by answer before q (memory_after write m)).stepped write) m
      (returned_by answer before q (memory_after write m)).memory
  returned_outside (Ok regs) before write q m fits sized = write_outside write m fits sized
  returned_outside (Err it) before write q m fits sized = raised_outside it write (record q { regs = before }) m (memory_after write m)

  console_outside : (byte : Option ℕ) (write : Option Write) (q : Processor) (m : List ℕ) → FitsIn (length m) write → HasAccessSize write
      → StaysOutside (touched_by (console_shown byte q (memory_after write m)).stepped write) m (console_shown byte q (memory_after write m)).memory
  console_outside None write q m fits sized = write_outside write m fits sized
  console_outside (Some byte) write q m fits sized = write_outside write m fits sized

  -- and what it asks of the processor
  acted_outside : (a : Act) (write : Option Write) (before : Regs) (q : Processor) (m : List ℕ)
      → FitsIn (length m) write → HasAccessSize write
      → StaysOutside (touched_by (acted a before q (memory_after write m)).stepped write) m (acted a before q (memory_after write m)).memory
  acted_outside act.Quiet write before q m fits sized = write_outside write m fits sized
  acted_outside (act.Out byte port) write before q m fits sized = console_outside (console_byte port byte) write q m fits sized
  acted_outside (act.In port) write before q m fits sized = write_outside write m fits sized
  acted_outside act.Halt write before q m fits sized = write_outside write m fits sized
  acted_outside act.Enable write before q m fits sized = write_outside write m fits sized
  acted_outside (act.Interrupt vector) write before q m fits sized =
      let n : List ℕ = memory_after write m in
      let allowed : Outcome Shut Bool = interrupt_allowed q.control q.tables q.regs.cpl vector n q.tlb in
      interrupted_outside allowed.answer vector before write (record q { tlb = allowed.tlb }) m n
  acted_outside (act.Return frame) write before q m fits sized =
      returned_outside (returned q.regs frame) before write q m fits sized
  acted_outside (act.Cr0 value) write before q m fits sized = write_outside write m fits sized
  acted_outside (act.Cr2 value) write before q m fits sized = write_outside write m fits sized
  acted_outside (act.Cr3 value) write before q m fits sized = write_outside write m fits sized
  acted_outside (act.Cr4 value) write before q m fits sized = write_outside write m fits sized
  acted_outside (act.Idt base limit) write before q m fits sized = write_outside write m fits sized
  acted_outside (act.DropPage page) write before q m fits sized = write_outside write m fits sized

  -- so said of the turn that the parts' clauses give
  pub turned_outside : (a : Act) (write : Option Write) (before : Regs) (q : Processor) (m n : List ℕ) (t : Turned)
      → t ≡ acted a before q n → n ≡ memory_after write m → FitsIn (length m) write → HasAccessSize write
      → StaysOutside (touched_by t.stepped write) m t.memory
  turned_outside a write before q m n t is put fits sized =
      subst (λ (x : Turned). StaysOutside (touched_by x.stepped write) m x.memory)
      (sym (is ∙ ap (λ (x : List ℕ). acted a before q x) put))
      (acted_outside a write before q m fits sized)

-- what is told to be touched, by the turn's cases
pub touched_at_body : (p : Processor) (m : List ℕ) (b : Bool) → is_at_body p.regs ≡ b
    → (if b then Any else effect_touched (instruction_made p m).answer (instructed p m).stepped) ≡ instruction_touched p m
unfolding instruction_touched
touched_at_body p m b at =
    ap (λ (x : Bool). if x then Any else effect_touched (instruction_made p m).answer (instructed p m).stepped) (sym at)

pub touched_by_made : (p : Processor) (m : List ℕ) (it : Result Effect Fault) (tlb : Translations) (shown : Stepped)
    → is_at_body p.regs ≡ false → outcome_of it tlb ≡ instruction_made p m → shown ≡ (instructed p m).stepped
    → effect_touched it shown ≡ instruction_touched p m
touched_by_made p m it tlb shown at made shows =
    ap (λ (s : Stepped). effect_touched it s) shows
    ∙ ap (λ (o : Outcome Fault Effect). effect_touched o.answer (instructed p m).stepped) made
    ∙ touched_at_body p m false at

pub touched_by_vector : (p : Processor) (m : List ℕ) (vector : Option ℕ) → deliverable p ≡ vector
    → touched_unless vector p m ≡ turn_touched p m
unfolding turn_touched
touched_by_vector p m vector is = ap (λ (v : Option ℕ). touched_unless v p m) (sym is)
