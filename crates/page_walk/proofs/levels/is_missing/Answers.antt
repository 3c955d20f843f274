use Rattle.std.proofs.Common.{rules}
use Rattle.nk_bits.specs.Paging.{is_missing}
use Rattle.page_walk.proofs.levels.is_missing.Goals as goal

pub returns-clause-value : goal.returns-clause-value
unfolding is_missing
returns-clause-value c = search rules
