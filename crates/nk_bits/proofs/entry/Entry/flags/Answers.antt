use Rattle.std.proofs.Common.{◌∙◌}
use Rattle.bitflags.proofs.OnLiterals.{bitflags_on_literals}
use Rattle.nk_bits.proofs.EntryBits.{named_by_mask}
use Rattle.nk_bits.proofs.entry.Entry.flags.Goals as goal

pub returns : goal.returns
unfolding bitflags_on_literals
returns c = record { value = c.from_bits_truncate.ensures tt ∙ named_by_mask c.args.self.now.0 }
