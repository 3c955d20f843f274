use Rattle.std.proofs.Common.{◌≡◌, false, sym, subst}
use Rattle.nk_bits.specs.Accesses.{wp_of}
use Rattle.gate_state.specs.MachineStates.{MachineState, Opening}
use Rattle.gate_state.specs.MachineSteps.{move_of, next}
use Rattle.gate_state.specs.WholeMachine.{HeldState}
use Rattle.gate_state.specs.WindowLeft.{ComesNearer}
use Rattle.gate_state.proofs.WholeLemmas.{state_by}
use Rattle.gate_state.proofs.whole.Whole.nearer_law.Goals as goal

pub returns : goal.returns
returns c =
    let o : Opening = record { image = c.self.inside.image.now; frames = c.self.inside.layout.now.frames } in
    let s : MachineState = state_by c.self.inside.cpu c.self.inside.mem c.self.inside.kernel c.self.inside.turns c.self.inside.taken in
    let clear : wp_of s.processor.control.cr0 ≡ false =
    subst (λ (w : HeldState). wp_of w.state.processor.control.cr0 ≡ false) (sym c.self.view_is) c.requires.clear in
    subst (λ (w : HeldState).
    ComesNearer (move_of c.args.plan.now w.state) w.state.processor (next c.args.plan.now w.state).processor) c.self.view_is
    (c.window_law.ensures.step o c.args.plan.now s c.self.invariant.0.admitted c.self.invariant.0.guarded clear)
