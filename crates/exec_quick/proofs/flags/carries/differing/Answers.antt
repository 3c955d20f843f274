use Rattle.exec_quick.proofs.FlagBits.{xor_bit}
use Rattle.exec_quick.proofs.flags.carries.differing.Goals as goal

pub returns : goal.returns
returns c = xor_bit c.args.a c.args.b c.args.place
