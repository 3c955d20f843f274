use Rattle.std.proofs.Common.{◌∙◌, ap, arith, refl, sym, subst}
use Rattle.nk_host.specs.TextPuts.{IsTextPut}
use Rattle.gate_state.specs.MachineOf.{whole_of}
use Rattle.gate_state.specs.MachineSteps.{move_of}
use Rattle.gate_state.specs.WholeMachine.{WholeState}
use Rattle.nk_run.specs.RunProgress.{GoesOn, HasEnded, HasGoneOn}
use Rattle.nk_run.specs.WorkSummary.{work_text}
use Rattle.nk_run.proofs.CountedRuns.{begins_counting, counts_less, counts_on, summary_ended}
use Rattle.nk_run.proofs.QuietRuns.{counts_quietly, hurried_left}
use Rattle.nk_run.proofs.Runs.{turn_left}
use Rattle.nk_run.proofs.count.count.Goals as goal

pub loop-ended-init : goal.loop-ended-init
loop-ended-init g c = (refl, begins_counting 2000000 c.args.plan.now (whole_of c.args.machine).state (omega (arith, c.requires)))

pub go_on-requires-clause-within : goal.go_on-requires-clause-within
go_on-requires-clause-within g c = c.loop-ended.invariant.1.turns_within

pub returns-in-Ends : goal.returns-in-Ends
returns-in-Ends g c =
    let it : HasEnded 2000000 c.args.plan.now (whole_of c.loop-ended.machine) (whole_of c.in-Ends.ended) c.in-Ends.ending =
    subst (GoesOn 2000000 c.args.plan.now (whole_of c.loop-ended.machine)) c.in-Ends.is c.go_on.ensures in
    let whole = (counts_quietly c.loop-ended.invariant.1 it.hurried).whole
    ∙ summary_ended 2000000 c.args.plan.now (whole_of c.in-Ends.ended).state c.loop-ended.tally c.in-Ends.ending it.ended in
    subst (λ from. IsTextPut g.O.Sink.taken g.O.Sink.faults from c.sum_up.new.sink
    (work_text 2000000 c.args.plan.now (whole_of c.args.machine).state) c.sum_up.result)
    c.loop-ended.invariant.0
    (subst (λ l. IsTextPut g.O.Sink.taken g.O.Sink.faults c.loop-ended.sink c.sum_up.new.sink l c.sum_up.result)
    (sym whole) c.sum_up.ensures)

pub stepped-tally-requires : goal.stepped-tally-requires
stepped-tally-requires g c =
    let it : HasGoneOn 2000000 c.args.plan.now (whole_of c.loop-ended.machine) (whole_of c.in-Goes.next) c.in-Goes.step =
    subst (GoesOn 2000000 c.args.plan.now (whole_of c.loop-ended.machine)) c.in-Goes.is c.go_on.ensures in
    let counting = counts_quietly c.loop-ended.invariant.1 it.hurried in
    let less = turn_left 2000000 c.args.plan.now it.between.state counting.turns_within it.going in
    record {
      calls = omega (arith, counting.within.calls, less);
      accepted = omega (arith, counting.within.accepted, less);
      deliveries = omega (arith, counting.within.deliveries, less);
    }

pub loop-ended-smaller : goal.loop-ended-smaller
loop-ended-smaller g c =
    let it : HasGoneOn 2000000 c.args.plan.now (whole_of c.loop-ended.machine) (whole_of c.in-Goes.next) c.in-Goes.step =
    subst (GoesOn 2000000 c.args.plan.now (whole_of c.loop-ended.machine)) c.in-Goes.is c.go_on.ensures in
    let counting = counts_quietly c.loop-ended.invariant.1 it.hurried in
    let s = it.between.state in
    let less = counts_less 2000000 c.args.plan.now (whole_of c.args.machine).state s c.loop-ended.tally counting
    it.going (c.moves_law.ensures c.args.plan.now s) (whole_of c.in-Goes.next).state (ap (λ (w : WholeState). w.state) it.next) in
    omega (arith, less, hurried_left 2000000 it.hurried)

pub loop-ended-preserved : goal.loop-ended-preserved
loop-ended-preserved g c =
    let it : HasGoneOn 2000000 c.args.plan.now (whole_of c.loop-ended.machine) (whole_of c.in-Goes.next) c.in-Goes.step =
    subst (GoesOn 2000000 c.args.plan.now (whole_of c.loop-ended.machine)) c.in-Goes.is c.go_on.ensures in
    let counting = counts_quietly c.loop-ended.invariant.1 it.hurried in
    let s = it.between.state in (
      c.loop-ended.invariant.0,
      counts_on 2000000 c.args.plan.now (whole_of c.args.machine).state s c.loop-ended.tally counting
          it.going (c.moves_law.ensures c.args.plan.now s)
          (whole_of c.in-Goes.next).state c.stepped-tally.result (ap (λ (w : WholeState). w.state) it.next)
          (c.stepped-tally.ensures (move_of c.args.plan.now s) s it.step),
    )
