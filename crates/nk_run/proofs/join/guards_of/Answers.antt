use Rattle.std.proofs.Common.{◌∙◌, arith, length-set}
use Rattle.nk_run.proofs.JoinRows.{guard_more}
use Rattle.nk_run.proofs.join.guards_of.Goals as goal

pub loop-i-preserved : goal.loop-i-preserved
loop-i-preserved c = record {
  size = length-set c.loop-i.guards c.loop-i.i c.guard.result ∙ c.loop-i.invariant.size;
  taken = guard_more c.args.list.now c.loop-i.i c.loop-i.guards c.guard.result (omega arith) c.guard.ensures c.loop-i.invariant.taken;
}
