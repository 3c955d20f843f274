use Rattle.std.proofs.Common.{arith}
use Rattle.x86_alu.proofs.FirstSet.{least, greatest}
use Rattle.x86_alu.proofs.scans.scanned.Goals as goal

pub returns-then-up-clause-place : goal.returns-then-up-clause-place
returns-then-up-clause-place c some =
    rw c.if-up.true (least c.args.a (omega arith) c.ranges.a.fits)

pub returns-else-up-clause-place : goal.returns-else-up-clause-place
returns-else-up-clause-place c some =
    rw c.if-up.false (greatest c.args.a (omega arith) c.ranges.a.fits)
