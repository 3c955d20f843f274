use Rattle.std.proofs.Common.{◌≡◌, ℕ, ◌/◌, List, length, sym, ap, subst, ◌∙◌, arith}
use Rattle.nk_bits.specs.declared.control.Control.{Control}
use Rattle.nk_bits.specs.Paging.{page_of}
use Rattle.nk_bits.specs.Translations.{Translations, translation}
use Rattle.phys_mem.specs.MaskedMemory.{is_book_frame, masked}
use Rattle.phys_mem.specs.Memory.{entry_in}
use Rattle.cpu_step.specs.Processor.{Processor}
use Rattle.gate_state.specs.GuardedStates.{IsAdmitted, IsGuarded}
use Rattle.gate_state.specs.WholeMachine.{HeldState}
use Rattle.gate_state.proofs.whole.Whole.translation.Goals as goal

pub returns : goal.returns
returns c =
    let w : HeldState = c.args.self.now in
    let m : List ℕ = c.memory.result.now in
    let page : ℕ = page_of c.args.va in
    let admitted : IsAdmitted w.opening =
    subst (λ (it : HeldState). IsAdmitted it.opening) c.self.view_is c.self.invariant.0.admitted in
    let guarded : IsGuarded w.opening w.state =
    subst (λ (it : HeldState). IsGuarded it.opening it.state) c.self.view_is c.self.invariant.0.guarded in
    let frames : length m / 4096 ≡ w.opening.frames = omega (arith, c.memory.ensures.size) in
    let masks : masked (is_book_frame w.opening.frames) m ≡ w.state.memory =
    ap (λ n. masked (is_book_frame n) m) (sym frames) ∙ c.memory.ensures.seen in
    c.look_up.ensures.found
    ∙ ap (λ (it : Control). translation (entry_in m) (length m / 4096) it.root c.tlb.result.now page)
    (c.control.ensures ∙ ap (λ (it : Processor). it.control) c.processor-cpu.ensures.processor)
    ∙ ap (λ (it : Translations). translation (entry_in m) (length m / 4096) w.state.processor.control.root it page)
    (c.tlb.ensures ∙ ap (λ (it : Processor). it.tlb) c.processor-cpu.ensures.processor)
    ∙ c.masked_law.ensures.translation w.opening w.state m page admitted guarded masks
