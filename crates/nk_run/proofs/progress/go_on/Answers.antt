use Rattle.std.proofs.Common.{◌≡◌, false, inl, inr, ap, sym, subst, ◌∙◌}
use Rattle.gate_state.specs.MachineOf.{whole_of}
use Rattle.gate_state.specs.WholeMachine.{WholeState}
use Rattle.nk_run.specs.declared.ending.Ending.TheVariants as ending
use Rattle.nk_run.specs.RunProgress.{HasEnded}
use Rattle.nk_run.proofs.StepEnds.{goes_on_by, halted_ended, is_rested, stays_at_rest, steps_ended}
use Rattle.nk_run.proofs.progress.go_on.Goals as goal

pub returns-then-turns-steps : goal.returns-then-turns-steps
returns-then-turns-steps c = record {
  hurried = c.hurry-hurried.ensures.hurried;
  ended = steps_ended c.args.steps c.args.plan.now (whole_of c.hurry-hurried.result).state (sym c.turns.ensures ∙ c.if-turns-steps.true);
}

pub returns-in-Rested : goal.returns-in-Rested
returns-in-Rested c =
    let w : WholeState = whole_of c.hurry-hurried.result in
    let is = c.step-next.ensures.step in
    let other : w.state.turns ≡ c.args.steps → ⊥ = λ same. c.if-turns-steps.false (c.turns.ensures ∙ same) in
    let stays = c.step-next.ensures.next ∙ stays_at_rest c.args.steps c.args.plan.now w c.step-next.result.1 is c.in-Rested.is in
    subst (λ (after : WholeState). HasEnded c.args.steps c.args.plan.now (whole_of c.args.machine) after ending.Halted) (sym stays) (record {
      hurried = c.hurry-hurried.ensures.hurried;
      ended = halted_ended c.args.steps c.args.plan.now w c.step-next.result.1 is other c.in-Rested.is;
    })

pub returns-in-Seen : goal.returns-in-Seen
returns-in-Seen c =
    let w : WholeState = whole_of c.hurry-hurried.result in
    let is = c.step-next.ensures.step in
    let other : w.state.turns ≡ c.args.steps → ⊥ = λ same. c.if-turns-steps.false (c.turns.ensures ∙ same) in
    let goes : is_rested c.step-next.result.1 ≡ false =
    elim c.in-Seen.is [
      | inl seen ↦ ap is_rested seen.1
      | inr called ↦ ap is_rested called.1
    ] in
    record {
      between = w;
      hurried = c.hurry-hurried.ensures.hurried;
      going = goes_on_by c.args.steps c.args.plan.now w c.step-next.result.1 is other goes;
      next = c.step-next.ensures.next;
      step = is;
    }
