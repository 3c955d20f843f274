use Rattle.boot_map.proofs.MapLaws.{opening_respects}
use Rattle.boot_map.proofs.laws.opening_respects_law.Goals as goal

pub returns : goal.returns
returns c = opening_respects
