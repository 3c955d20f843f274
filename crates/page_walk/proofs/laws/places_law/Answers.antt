use Rattle.page_walk.proofs.Places.{stores_at_frames}
use Rattle.page_walk.proofs.laws.places_law.Goals as goal

pub returns : goal.returns
returns c = λ size va width value target is few. stores_at_frames c.memory_law.ensures.places size va width value target is few
