use Rattle.std.proofs.Common.{arith}
use Rattle.report_text.proofs.Digits.{begins, ends, goes_on}
use Rattle.report_text.proofs.words.put_least.Goals as goal

pub loop-rest-init : goal.loop-rest-init
loop-rest-init c = begins c.args.number c.args.end c.args.room.now (omega arith)

pub returns-then-rest-eq0-clause-written : goal.returns-then-rest-eq0-clause-written
returns-then-rest-eq0-clause-written c =
    ends c.args.number c.args.end c.loop-rest.rest c.loop-rest.start c.hex_digit.result c.args.room.now c.loop-rest.room
    c.loop-rest.invariant
    c.requires.room c.requires.end c.hex_digit.ensures.value c.if-rest-eq0.true

pub loop-rest-preserved : goal.loop-rest-preserved
loop-rest-preserved c =
    goes_on c.args.number c.args.end c.loop-rest.rest c.loop-rest.start c.hex_digit.result c.args.room.now c.loop-rest.room
    c.loop-rest.invariant
    c.requires.room c.requires.end c.hex_digit.ensures.value c.if-rest-eq0.false
