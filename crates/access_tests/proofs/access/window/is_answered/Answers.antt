use Rattle.std.proofs.Common.{length}
use Rattle.access_tests.proofs.access.window.is_answered.Goals as goal

pub returns-else-number-gt3 : goal.returns-else-number-gt3
returns-else-number-gt3 c = c.keep_off.ensures.window (length c.args.mem.now) c.args.control.now 3 c.args.tlb.now c.requires.window
