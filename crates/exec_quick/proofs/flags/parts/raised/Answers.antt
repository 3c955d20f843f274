use Rattle.exec_quick.proofs.FlagWords.{raised_bit}
use Rattle.exec_quick.proofs.flags.parts.raised.Goals as goal

pub returns : goal.returns
returns c = raised_bit c.args.word c.args.place c.requires
