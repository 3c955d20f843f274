use Rattle.trap_unit.proofs.KeptPushes.{ArePushed}
use Rattle.trap_unit.proofs.stack.push_kept.Given as goal

abbrev pub invariant-loop-value : goal.invariant-loop-value
invariant-loop-value l = ArePushed l.values l.place l.fn.mem l.value-index l.at l.mem
