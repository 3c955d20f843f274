use Rattle.nk_bits.proofs.EntryBits.{index_by_shift}
use Rattle.nk_bits.proofs.address.index.Goals as goal

pub returns-clause-value : goal.returns-clause-value
returns-clause-value c = index_by_shift c.args.va c.args.level c.requires.level.0
