-- A turn by its cases: at the body's place, by a fault, and by what an instruction asks; and what stays sound.
use Rattle.std.proofs.Common.{◌≡◌, ℕ, Bool, true, false, if◌then◌else◌, List, Option, None, Ok, Err, refl, sym, ap, subst, ◌∙◌}
use Rattle.nk_bits.specs.Translations.{NamesFramesIn, Translations}
use Rattle.nk_bits.specs.Outcomes.{Outcome, outcome_of}
use Rattle.x86_regs.specs.declared.effects.Act.{Act}
use Rattle.x86_regs.specs.declared.effects.Act.TheVariants as act
use Rattle.x86_regs.specs.declared.effects.Effect.{Effect}
use Rattle.x86_regs.specs.declared.faults.Fault.{Fault}
use Rattle.x86_regs.specs.declared.registers.Regs.{Regs}
use Rattle.x86_regs.specs.Effects.{IfDelivered, LeavesToDelivery, memory_after}
use Rattle.cpu_step.specs.Processor.{IsSound, Processor, deliverable}
use Rattle.cpu_step.specs.Turns.{acted, instructed, instruction_made, is_at_body, fault_raised, refused_body, turned, turned_by, turned_unless}

-- a processor that keeps other translations and entries, whose frames lie in memory too
pub sound_with : (size : ℕ) (p q : Processor) (tlb : Translations) → p ≡ q → IsSound size q → NamesFramesIn size tlb
    → IsSound size (record p { tlb = tlb })
sound_with size p q tlb is sound within =
    subst (λ (p : Processor). IsSound size (record p { tlb = tlb })) (sym is)
    (record { cpl = sound.cpl; context = record { root = sound.context.root; frames = within } })

-- an instruction's turn, away from the body's place
pub instructed_at_body : (p : Processor) (m : List ℕ) → is_at_body p.regs ≡ true → instructed p m ≡ refused_body p m
unfolding instructed
instructed_at_body p m at =
    let made = instruction_made p m in
    ap (λ (b : Bool). if b then refused_body p m else turned_by made.answer p m made.tlb) at

pub instructed_elsewhere : (p : Processor) (m : List ℕ) → is_at_body p.regs ≡ false
    → instructed p m ≡ turned_by (instruction_made p m).answer p m (instruction_made p m).tlb
unfolding instructed
instructed_elsewhere p m at =
    let made = instruction_made p m in
    ap (λ (b : Bool). if b then refused_body p m else turned_by made.answer p m made.tlb) at

pub turned_by_fault : (p : Processor) (m : List ℕ) (it : Fault) (tlb : Translations)
    → is_at_body p.regs ≡ false → outcome_of (Err it) tlb ≡ instruction_made p m
    → instructed p m ≡ fault_raised it (record p { tlb = tlb }) m
turned_by_fault p m it tlb at made =
    instructed_elsewhere p m at
    ∙ ap (λ (o : Outcome Fault Effect). turned_by o.answer p m o.tlb) (sym made)

-- an interrupt or a return has changed RIP alone, which is set back
set_back : (a : Act) (before regs : Regs) (W : Type 0) (q : Processor) (m : List ℕ)
    → IfDelivered a ((regs ≡ record before { rip = regs.rip }) × W)
    → acted a (record regs { rip = before.rip }) q m ≡ acted a before q m
set_back act.Quiet before regs W q m left = refl
set_back (act.Out byte port) before regs W q m left = refl
set_back (act.In port) before regs W q m left = refl
set_back act.Halt before regs W q m left = refl
set_back act.Enable before regs W q m left = refl
set_back (act.Interrupt vector) before regs W q m left =
    ap (λ (r : Regs). acted (act.Interrupt vector) (record r { rip = before.rip }) q m) left.0
set_back (act.Return frame) before regs W q m left =
    ap (λ (r : Regs). acted (act.Return frame) (record r { rip = before.rip }) q m) left.0
set_back (act.Cr0 value) before regs W q m left = refl
set_back (act.Cr2 value) before regs W q m left = refl
set_back (act.Cr3 value) before regs W q m left = refl
set_back (act.Cr4 value) before regs W q m left = refl
set_back (act.Idt base limit) before regs W q m left = refl
set_back (act.DropPage page) before regs W q m left = refl

pub turned_by_act : (p : Processor) (m : List ℕ) (it : Effect) (tlb : Translations)
    → is_at_body p.regs ≡ false → outcome_of (Ok it) tlb ≡ instruction_made p m → LeavesToDelivery p.regs it
    → instructed p m
    ≡ acted it.act (record it.regs { rip = p.regs.rip }) (record p { regs = it.regs; tlb = tlb }) (memory_after it.write m)
turned_by_act p m it tlb at made left =
    instructed_elsewhere p m at
    ∙ ap (λ (o : Outcome Fault Effect). turned_by o.answer p m o.tlb) (sym made)
    ∙ sym (set_back it.act p.regs it.regs (it.write ≡ None) (record p { regs = it.regs; tlb = tlb }) (memory_after it.write m) left)

-- a turn by the vector that is deliverable
pub turned_by_vector : (p : Processor) (m : List ℕ) (vector : Option ℕ) → deliverable p ≡ vector
    → turned p m ≡ turned_unless vector p m
unfolding turned
turned_by_vector p m vector is = ap (λ (v : Option ℕ). turned_unless v p m) is

-- and each way in which something goes keeps the frames in memory
pub sound_without : (size : ℕ) (p q : Processor) (tlb : Translations) → (NamesFramesIn size p.tlb → NamesFramesIn size tlb)
    → p ≡ q → IsSound size q → IsSound size (record p { tlb = tlb })
sound_without size p q tlb within is sound =
    sound_with size p q tlb is sound (within (subst (λ (p : Processor). NamesFramesIn size p.tlb) (sym is) sound.context.frames))
