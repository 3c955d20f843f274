use Rattle.std.specs.Prelude.{length}
use Rattle.std.proofs.Common.{subst}
use Rattle.cpu_step.specs.Processor.{IsSound}
use Rattle.gate_state.specs.MachineStates.{MachineState, Opening}
use Rattle.gate_state.specs.WholeMachine.{HeldState}
use Rattle.gate_state.proofs.WholeLemmas.{state_by}
use Rattle.gate_state.proofs.whole.Whole.processor.Goals as goal

pub returns-clause-sound : goal.returns-clause-sound
returns-clause-sound c =
    let o : Opening = record { image = c.self.inside.image.now; frames = c.self.inside.layout.now.frames } in
    let s : MachineState = state_by c.self.inside.cpu c.self.inside.mem c.self.inside.kernel c.self.inside.turns c.self.inside.taken in
    subst (λ (w : HeldState). IsSound (length w.state.memory) c.self.inside.cpu) c.self.view_is
    (c.steps_law.ensures.sound o s c.self.invariant.0.admitted c.self.invariant.0.guarded)
