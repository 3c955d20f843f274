use Rattle.std.proofs.Common.{◌≡◌, true, sym, subst}
use Rattle.nk_bits.specs.Accesses.{wp_of}
use Rattle.gate_state.specs.MachineOf.{IsStanding, IsOuter}
use Rattle.gate_state.specs.WholeMachine.{HeldState}
use Rattle.gate_state.proofs.whole.Whole.outer_law.Goals as goal

pub returns : goal.returns
returns c =
    subst (λ (w : HeldState). IsStanding IsOuter w.opening w.state) c.self.view_is (record {
      admitted = c.self.invariant.0.admitted;
      guarded = c.self.invariant.0.guarded;
      place = subst (λ (w : HeldState). wp_of w.state.processor.control.cr0 ≡ true) (sym c.self.view_is) c.requires;
    })
