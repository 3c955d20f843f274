use Rattle.std.proofs.Common.{◌≡◌, ◌<◌, true, sym, subst}
use Rattle.cpu_step.specs.Turns.{enters_body}
use Rattle.gate_state.specs.MachineStates.{MachineState, Opening}
use Rattle.gate_state.specs.MachineSteps.{served}
use Rattle.gate_state.specs.WholeMachine.{HeldState}
use Rattle.gate_state.specs.WindowLeft.{left}
use Rattle.gate_state.proofs.WholeLemmas.{state_by}
use Rattle.gate_state.proofs.whole.Whole.served_law.Goals as goal

pub returns : goal.returns
returns c =
    let o : Opening = record { image = c.self.inside.image.now; frames = c.self.inside.layout.now.frames } in
    let s : MachineState = state_by c.self.inside.cpu c.self.inside.mem c.self.inside.kernel c.self.inside.turns c.self.inside.taken in
    let enters : enters_body s.processor ≡ true =
    subst (λ (w : HeldState). enters_body w.state.processor ≡ true) (sym c.self.view_is) c.requires.body in
    subst (λ (w : HeldState). left (served w.state).processor < left w.state.processor) c.self.view_is
    (c.window_law.ensures.body o s c.self.invariant.0.admitted c.self.invariant.0.guarded enters)
