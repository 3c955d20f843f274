use Rattle.exec_quick.proofs.FlagBits.{and_bit}
use Rattle.exec_quick.proofs.flags.carries.common.Goals as goal

pub returns : goal.returns
returns c = and_bit c.args.a c.args.b c.args.place
