use Rattle.std.proofs.Common.{◌*◌, ◌<◌, ℕ, length, arith}
use Rattle.step_trace.proofs.ChangedRuns.{run_told}
use Rattle.step_trace.proofs.memory.put_run.Goals as goal

pub returns-clause-text : goal.returns-clause-text
returns-clause-text c =
    let at : ℕ = c.first_other-at.result in
    let inside : at < length c.args.new.now = omega arith in
    run_told (4096 * c.args.frame) (4096 * c.from.result) c.args.from at c.run_end-end.result c.args.line.now.items _ c.args.old.now c.args.new.now
    (c.first_other-at.ensures.runs (4096 * c.args.frame)) (omega arith) inside (c.first_other-at.ensures.other inside)
    c.run_end-end.ensures.run (omega arith) c.in_ok-put_stored.ensures
