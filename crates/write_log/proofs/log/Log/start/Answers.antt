use Rattle.std.proofs.Common.{arith}
use Rattle.write_log.proofs.HeldLogs.{empty_held}
use Rattle.write_log.proofs.log.Log.start.Goals as goal

pub returns-clause-held : goal.returns-clause-held
returns-clause-held c = empty_held c.clear.new.mem (omega (arith, c.requires.size, c.clear.ensures.elsewhere.size)) c.clear.ensures.zero
