use Rattle.std.proofs.Common.{ap, sym}
use Rattle.x86_decode.specs.Grid.{entry_at}
use Rattle.x86_decode.proofs.reader.entry.Goals as goal

pub returns-in-OneByte : goal.returns-in-OneByte
unfolding entry_at
returns-in-OneByte c = sym (ap (λ m. entry_at m c.args.opcode) c.in-OneByte.is)

pub returns-in-TwoByte : goal.returns-in-TwoByte
unfolding entry_at
returns-in-TwoByte c = sym (ap (λ m. entry_at m c.args.opcode) c.in-TwoByte.is)
