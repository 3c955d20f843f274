use Rattle.std.proofs.Common.{None, Some, sym}
use Rattle.replay_core.proofs.GrantSearch.{begins, next_line, no_line}
use Rattle.replay_core.specs.GrantedCalls.{granted_of}
use Rattle.replay_core.proofs.granting.granted.Goals as goal

pub loop-rest-init : goal.loop-rest-init
loop-rest-init c = begins c.args.journal.now c.args.id

pub returns-in-Some : goal.returns-in-Some
returns-in-Some c =
    sym (next_line (granted_of c.args.journal.now c.args.id) c.args.id c.loop-rest.rest.now c.cut_line.result.0.now
    c.cut_line.result.1.now (Some c.in-Some.call) c.loop-rest.invariant c.cut_line.ensures.lines c.in-Some.ensures)

pub loop-rest-preserved : goal.loop-rest-preserved
loop-rest-preserved c =
    next_line (granted_of c.args.journal.now c.args.id) c.args.id c.loop-rest.rest.now c.cut_line.result.0.now
    c.cut_line.result.1.now None c.loop-rest.invariant c.cut_line.ensures.lines c.in_default.ensures

pub returns : goal.returns
returns c =
    sym (no_line (granted_of c.args.journal.now c.args.id) c.args.id c.loop-rest.rest.now c.loop-rest.invariant
    c.loop-rest-test.ensures)
