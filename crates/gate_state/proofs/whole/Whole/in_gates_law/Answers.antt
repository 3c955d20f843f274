use Rattle.std.proofs.Common.{◌≡◌, false, sym, subst}
use Rattle.nk_bits.specs.Accesses.{wp_of}
use Rattle.cpu_step.specs.Turns.{enters_body}
use Rattle.gate_state.specs.MachineOf.{IsStanding, IsInGates}
use Rattle.gate_state.specs.WholeMachine.{HeldState}
use Rattle.gate_state.proofs.whole.Whole.in_gates_law.Goals as goal

pub returns : goal.returns
returns c =
    subst (λ (w : HeldState). IsStanding IsInGates w.opening w.state) c.self.view_is (record {
      admitted = c.self.invariant.0.admitted;
      guarded = c.self.invariant.0.guarded;
      place = c.steps_law.ensures.in_gates _ _ c.self.invariant.0.admitted c.self.invariant.0.guarded
          (subst (λ (w : HeldState). wp_of w.state.processor.control.cr0 ≡ false) (sym c.self.view_is) c.requires.clear)
          (subst (λ (w : HeldState). enters_body w.state.processor ≡ false) (sym c.self.view_is) c.requires.no_body);
    })
