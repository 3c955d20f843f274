use Rattle.byte_scanner.proofs.SeamLemmas.{at_least}
use Rattle.byte_scanner.proofs.seam.first_within.Goals as goal

pub returns-in-Some : goal.returns-in-Some
returns-in-Some c =
    at_least c.args.piece.now c.args.at c.in-Some.place c.in-Some.ensures.least _ c.found_at.ensures
