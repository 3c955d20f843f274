use Rattle.std.proofs.Common.{◌%◌, arith}
use Rattle.x86_regs.specs.Combinations.{condition_stands}
use Rattle.x86_regs.proofs.ConditionTable.{made_of_even}
use Rattle.x86_regs.proofs.conditions.condition_stands.Goals as goal

pub returns : goal.returns
unfolding condition_stands
returns c =
    made_of_even c.args.flags (c.args.condition % 16) c.even_condition-even.result (omega arith) c.even_condition-even.ensures
