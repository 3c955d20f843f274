use Rattle.std.proofs.Common.{ℕ, subst, ap, ◌∙◌}
use Rattle.gate_state.specs.MachineOf.{whole_of}
use Rattle.step_trace.specs.PassedSteps.{IsLookedAt}
use Rattle.step_trace.specs.Traces.{is_past}
use Rattle.step_trace.proofs.PassedTurns.{AreTurnLaws, goes_both, past_by, standing_whole, stays_by, turns_passed}
use Rattle.step_trace.proofs.passing.pass_some.Goals as goal

pub look_at-limit-requires-clause-inside : goal.look_at-limit-requires-clause-inside
look_at-limit-requires-clause-inside c =
    let both = goes_both c.args.shown.now c.args.steps c.args.plan.now (whole_of c.args.machine).state c.requires.goes in
    ap (λ (n : ℕ). is_past c.args.shown.now.to n) c.turns.ensures
    ∙ past_by c.args.shown.now c.args.steps c.args.plan.now (whole_of c.args.machine).state both.1

pub returns-clause-passed : goal.returns-clause-passed
returns-clause-passed c =
    let w = whole_of c.args.machine in
    let plan = c.args.plan.now in
    let stands = standing_whole c.args.machine c.standing_law.ensures.sorted in
    let laws : AreTurnLaws w.opening plan = record {
      counts = c.moves_law.ensures plan;
      guarded = λ s guarded turn. c.turns_law.ensures.guarded w.opening plan s stands.admitted guarded turn;
      seen_is = λ s guarded turn hidden. c.turns_law.ensures.seen w.opening plan s stands.admitted guarded turn hidden;
    } in
    turns_passed c.args.shown.now c.args.steps plan c.look_at-limit.result w (whole_of c.hurry.result) c.requires.passes
    (subst (λ (n : ℕ). IsLookedAt c.args.shown.now c.args.steps n c.look_at-limit.result) c.turns.ensures c.look_at-limit.ensures)
    laws stands.guarded c.standing_law.ensures.seen c.requires.goes c.hurry.ensures.hurried

pub returns-clause-still : goal.returns-clause-still
returns-clause-still c = stays_by c.hurry.ensures.hurried
