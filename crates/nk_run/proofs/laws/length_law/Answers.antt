use Rattle.nk_run.proofs.RunEnds.{ends_first}
use Rattle.nk_run.proofs.laws.length_law.Goals as goal

pub returns : goal.returns
returns c steps plan s within = ends_first steps plan (c.moves_law.ensures plan) s within
