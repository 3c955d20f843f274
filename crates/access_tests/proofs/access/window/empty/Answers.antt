use Rattle.std.proofs.Common.{length}
use Rattle.access_tests.proofs.access.window.empty.Goals as goal

pub returns : goal.returns
returns c = c.new.ensures (length c.args.mem.now) c.args.control.now 3 c.args.tlb.now
