use Rattle.std.proofs.Common.{◌≡◌, false, sym, subst, ◌∙◌}
use Rattle.std.specs.Prelude.{slice_get}
use Rattle.cpu_step.specs.Turns.{enters_body}
use Rattle.gate_state.specs.EventMoves.{IsBodyBy}
use Rattle.gate_state.specs.WholeMachine.{HeldState}
use Rattle.gate_state.proofs.MoveLemmas.{not_body}
use Rattle.gate_state.proofs.whole.Whole.next_move.Goals as goal

pub returns-clause-body : goal.returns-clause-body
returns-clause-body c =
    let away : enters_body c.self.inside.cpu ≡ false = sym c.enters_body.ensures ∙ c.if-enters_body.false in
    subst (λ (w : HeldState). IsBodyBy (enters_body w.state.processor) c.move_by.result) c.self.view_is
    (not_body (slice_get c.args.plan.now c.self.inside.taken) c.self.inside.turns c.self.inside.cpu c.move_by.result (enters_body c.self.inside.cpu) c.move_by.ensures.moved away)
