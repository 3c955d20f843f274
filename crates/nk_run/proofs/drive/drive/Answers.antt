use Rattle.std.proofs.Common.{ap, arith, subst}
use Rattle.gate_state.specs.MachineOf.{whole_of}
use Rattle.gate_state.specs.MachineStates.{Opening}
use Rattle.gate_state.specs.MachineSteps.{move_of}
use Rattle.gate_state.specs.WholeMachine.{WholeState}
use Rattle.nk_run.specs.RunProgress.{GoesOn, HasEnded, HasGoneOn}
use Rattle.nk_run.specs.RunStates.{run_text}
use Rattle.nk_run.proofs.Told.{on_err, on_ok}
use Rattle.nk_run.proofs.QuietRuns.{goes_quietly, hurried_left}
use Rattle.nk_run.proofs.Runs.{begins, closes, goes_less, goes_on, was_cut}
use Rattle.nk_run.proofs.drive.drive.Goals as goal

pub loop-ended-init : goal.loop-ended-init
loop-ended-init g c =
    begins g.O.Sink.taken g.O.Sink.faults c.args.sink.now c.args.sink.now _ c.args.steps c.args.plan.now (whole_of c.args.machine)
    c.requires.opening (omega (arith, c.requires.turns))

pub go_on-requires-clause-within : goal.go_on-requires-clause-within
go_on-requires-clause-within g c = c.loop-ended.invariant.turns_within

pub end-requires-clause-opening : goal.end-requires-clause-opening
end-requires-clause-opening g c =
    let it : HasEnded c.args.steps c.args.plan.now (whole_of c.loop-ended.machine) (whole_of c.in-Ends.ended) c.in-Ends.ending =
    subst (GoesOn c.args.steps c.args.plan.now (whole_of c.loop-ended.machine)) c.in-Ends.is c.go_on.ensures in
    (goes_quietly c.loop-ended.invariant it.hurried).opening

pub returns-in-Ends : goal.returns-in-Ends
returns-in-Ends g c =
    let it : HasEnded c.args.steps c.args.plan.now (whole_of c.loop-ended.machine) (whole_of c.in-Ends.ended) c.in-Ends.ending =
    subst (GoesOn c.args.steps c.args.plan.now (whole_of c.loop-ended.machine)) c.in-Ends.is c.go_on.ensures in
    let going = goes_quietly c.loop-ended.invariant it.hurried in
    let o : Opening = record { image = c.args.opened.now.image; frames = c.args.opened.now.layout.frames } in
    closes g.O.Sink.taken g.O.Sink.faults c.args.sink.now c.loop-ended.sink o c.args.steps c.args.plan.now
    (run_text o c.args.steps c.args.plan.now (whole_of c.args.machine).state) (whole_of c.in-Ends.ended) going
    c.end.new.sink c.in-Ends.ending c.end.result it.ended c.end.ensures

pub returns-in-Err : goal.returns-in-Err
returns-in-Err g c =
    let never_fell = c.loop-ended.invariant.never_fell in
    let it : HasGoneOn c.args.steps c.args.plan.now (whole_of c.loop-ended.machine) (whole_of c.in-Goes.next) c.in-Goes.step =
    subst (GoesOn c.args.steps c.args.plan.now (whole_of c.loop-ended.machine)) c.in-Goes.is c.go_on.ensures in
    let going = goes_quietly c.loop-ended.invariant it.hurried in
    let o : Opening = record { image = c.args.opened.now.image; frames = c.args.opened.now.layout.frames } in
    let w : WholeState = it.between in
    let read = ap (λ (w : WholeState). w.source) it.next in
    let cut = was_cut g.O.Sink.taken g.O.Sink.faults c.args.sink.now c.loop-ended.sink o c.args.steps c.args.plan.now
    (run_text o c.args.steps c.args.plan.now (whole_of c.args.machine).state) w going
    c.show.new.sink it.going (c.moves_law.ensures c.args.plan.now w.state)
    (on_err c.in-Err.is c.show.ensures.failed) (on_err c.in-Err.is (c.show.ensures.some (move_of c.args.plan.now w.state) w it.step read)) in
    record {
      never_falls = omega (arith, never_fell, c.show.ensures.never_falls);
      failed = cut.0;
      all = tt;
      some = cut.1;
    }

pub loop-ended-smaller : goal.loop-ended-smaller
loop-ended-smaller g c =
    let it : HasGoneOn c.args.steps c.args.plan.now (whole_of c.loop-ended.machine) (whole_of c.in-Goes.next) c.in-Goes.step =
    subst (GoesOn c.args.steps c.args.plan.now (whole_of c.loop-ended.machine)) c.in-Goes.is c.go_on.ensures in
    let going = goes_quietly c.loop-ended.invariant it.hurried in
    let o : Opening = record { image = c.args.opened.now.image; frames = c.args.opened.now.layout.frames } in
    let w : WholeState = it.between in
    let less = goes_less g.O.Sink.taken g.O.Sink.faults c.args.sink.now c.loop-ended.sink o c.args.steps c.args.plan.now
    (run_text o c.args.steps c.args.plan.now (whole_of c.args.machine).state) w going it.going (c.moves_law.ensures c.args.plan.now w.state)
    (whole_of c.in-Goes.next).state (ap (λ (w : WholeState). w.state) it.next) in
    omega (arith, less, hurried_left c.args.steps it.hurried)

pub loop-ended-preserved : goal.loop-ended-preserved
loop-ended-preserved g c =
    let it : HasGoneOn c.args.steps c.args.plan.now (whole_of c.loop-ended.machine) (whole_of c.in-Goes.next) c.in-Goes.step =
    subst (GoesOn c.args.steps c.args.plan.now (whole_of c.loop-ended.machine)) c.in-Goes.is c.go_on.ensures in
    let going = goes_quietly c.loop-ended.invariant it.hurried in
    let o : Opening = record { image = c.args.opened.now.image; frames = c.args.opened.now.layout.frames } in
    let w : WholeState = it.between in
    let read = ap (λ (w : WholeState). w.source) it.next in
    goes_on g.O.Sink.taken g.O.Sink.faults c.args.sink.now c.loop-ended.sink o c.args.steps c.args.plan.now
    (run_text o c.args.steps c.args.plan.now (whole_of c.args.machine).state) w going
    c.show.new.sink (whole_of c.in-Goes.next) (ap (λ (w : WholeState). w.opening) it.next) (ap (λ (w : WholeState). w.state) it.next)
    it.going (c.moves_law.ensures c.args.plan.now w.state)
    (on_ok c.in_default.is (c.show.ensures.all (move_of c.args.plan.now w.state) w it.step read)) c.show.ensures.never_falls
