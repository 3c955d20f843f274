use Rattle.std.proofs.Common.{◌≡◌, ◌*◌, length, subst}
use Rattle.gate_state.specs.MachineStates.{MachineState, Opening}
use Rattle.gate_state.specs.WholeMachine.{HeldState}
use Rattle.gate_state.proofs.WholeLemmas.{size_is, state_by}
use Rattle.gate_state.proofs.whole.Whole.memory.Goals as goal

pub returns-clause-size : goal.returns-clause-size
returns-clause-size c =
    let o : Opening = record { image = c.self.inside.image.now; frames = c.self.inside.layout.now.frames } in
    let s : MachineState = state_by c.self.inside.cpu c.self.inside.mem c.self.inside.kernel c.self.inside.turns c.self.inside.taken in
    subst (λ (w : HeldState). length c.self.inside.mem ≡ 4096 * w.opening.frames) c.self.view_is
    (size_is c.mask_law.ensures.length o s c.self.inside.kernel c.self.inside.mem c.self.invariant.0)
