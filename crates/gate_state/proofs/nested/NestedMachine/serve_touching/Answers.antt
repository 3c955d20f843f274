use Rattle.std.proofs.Common.{◌≡◌, ap, subst, ◌∙◌}
use Rattle.std.specs.Prelude.{OnSome}
use Rattle.nk_bits.specs.Accesses.{wp_of}
use Rattle.cpu_step.specs.Turns.{enters_body}
use Rattle.nk_body.specs.BooksTouched.{LeavesBooks}
use Rattle.gate_state.specs.MachineSteps.{asked_in, verdict_in}
use Rattle.gate_state.specs.StepsTouched.{KeepsOutside}
use Rattle.gate_state.specs.WholeMachine.{HeldState, WholeState, known_of, served_whole}
use Rattle.gate_state.proofs.BodyKept.{body_stands}
use Rattle.gate_state.proofs.WholeLemmas.{served_behind, served_clear}
use Rattle.gate_state.proofs.nested.NestedMachine.serve_touching.Goals as goal

pub in_gates_law-requires-clause-clear : goal.in_gates_law-requires-clause-clear
in_gates_law-requires-clause-clear c =
    let s = c.self.inside.whole.value.state in
    let served = ap known_of c.deref-4.ensures ∙ c.serve-touched.ensures.served ∙ ap (λ (w : HeldState). served_whole (known_of w)) c.deref_mut.ensures.value in
    ap (λ (w : WholeState). wp_of w.state.processor.control.cr0) served ∙ served_clear s (body_stands s.processor c.self.invariant).1

pub in_gates_law-requires-clause-no_body : goal.in_gates_law-requires-clause-no_body
in_gates_law-requires-clause-no_body c =
    let s = c.self.inside.whole.value.state in
    let served = ap known_of c.deref-4.ensures ∙ c.serve-touched.ensures.served ∙ ap (λ (w : HeldState). served_whole (known_of w)) c.deref_mut.ensures.value in
    ap (λ (w : WholeState). enters_body w.state.processor) served ∙ served_behind s

pub invariant_of-result : goal.invariant_of-result
invariant_of-result c =
    let s = c.self.inside.whole.value.state in
    let served = c.serve-touched.ensures.served ∙ ap (λ (w : HeldState). served_whole (known_of w)) c.deref_mut.ensures.value in (
      ap (λ (w : WholeState). wp_of w.state.processor.control.cr0) served ∙ served_clear s (body_stands s.processor c.self.invariant).1,
      ap (λ (w : WholeState). enters_body w.state.processor) served ∙ served_behind s,
    )

pub returns-clause-refused : goal.returns-clause-refused
returns-clause-refused c =
    subst (λ (w : HeldState). OnSome (verdict_in w.state) (c.serve-touched.new.self.real ≡ w.real))
    (c.deref_mut.ensures.value ∙ c.self.view_is) c.serve-touched.ensures.refused

pub returns-clause-leaves : goal.returns-clause-leaves
returns-clause-leaves c =
    subst (λ (w : HeldState). LeavesBooks w.state.ledger.book (asked_in w.state) w.real c.serve-touched.new.self.real)
    (c.deref_mut.ensures.value ∙ c.self.view_is) c.serve-touched.ensures.leaves

pub returns-clause-touched : goal.returns-clause-touched
returns-clause-touched c =
    subst (λ (w : HeldState). KeepsOutside c.serve-touched.result.1 w.real c.serve-touched.new.self.real)
    (c.deref_mut.ensures.value ∙ c.self.view_is) c.serve-touched.ensures.touched
