use Rattle.std.proofs.Common.{arith}
use Rattle.gate_state.proofs.MoveLemmas.{move_past, taken_without}
use Rattle.gate_state.proofs.whole.move_by.Goals as goal

pub returns-else-taken-len-clause-moved : goal.returns-else-taken-len-clause-moved
returns-else-taken-len-clause-moved c =
    move_past c.args.plan.now c.args.cpu.now c.args.turns c.args.taken _ (omega arith) (c.move_without.ensures c.args.turns)

pub returns-else-taken-len-clause-planned : goal.returns-else-taken-len-clause-planned
returns-else-taken-len-clause-planned c = taken_without 0 c.args.cpu.now _ _ (c.move_without.ensures 0)
