use Rattle.std.proofs.Common.{◌≡◌, true, sym, subst}
use Rattle.cpu_step.specs.Turns.{enters_body}
use Rattle.gate_state.specs.MachineOf.{IsStanding, IsAtBody}
use Rattle.gate_state.specs.WholeMachine.{HeldState}
use Rattle.gate_state.proofs.whole.Whole.at_body_law.Goals as goal

pub returns : goal.returns
returns c =
    subst (λ (w : HeldState). IsStanding IsAtBody w.opening w.state) c.self.view_is (record {
      admitted = c.self.invariant.0.admitted;
      guarded = c.self.invariant.0.guarded;
      place = c.steps_law.ensures.at_body _ _ c.self.invariant.0.admitted c.self.invariant.0.guarded
          (subst (λ (w : HeldState). enters_body w.state.processor ≡ true) (sym c.self.view_is) c.requires);
    })
