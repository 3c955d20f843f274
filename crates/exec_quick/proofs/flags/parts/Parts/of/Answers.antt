use Rattle.exec_quick.specs.StatusFlags.{flags_word}
use Rattle.exec_quick.proofs.FlagWords.{itself}
use Rattle.exec_quick.proofs.flags.parts.Parts.of.Goals as goal

pub returns : goal.returns
unfolding flags_word
returns c =
    rw c.bit.ensures (rw c.raised.ensures (rw c.zero_where.ensures (rw c.bit-2.ensures
    (rw c.raised-2.ensures (rw c.even_where.ensures (rw c.bit-3.ensures (itself c.flag_law.ensures c.args.flags)))))))
