use Rattle.std.proofs.Common.{subst}
use Rattle.gate_state.specs.SafeStates.{IsSafe}
use Rattle.gate_state.specs.WholeMachine.{HeldState}
use Rattle.gate_state.proofs.whole.Whole.safe_law.Goals as goal

pub returns : goal.returns
returns c =
    subst (λ (w : HeldState). IsSafe w.opening w.state) c.self.view_is
    (c.steps_law.ensures.safe _ _ c.self.invariant.0.admitted c.self.invariant.0.guarded)
