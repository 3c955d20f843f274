use Rattle.byte_scanner.proofs.SeamLemmas.{across_last, across_two}
use Rattle.byte_scanner.proofs.seam.first_of_two.Goals as goal

pub returns-in-Some : goal.returns-in-Some
returns-in-Some c =
    across_two c.args.at c.args.piece.now _ c.byte_at-next.ensures c.args.first c.args.last c.in-Some.found c.in-Some.ensures

pub returns-in-None : goal.returns-in-None
returns-in-None c =
    across_last c.args.at c.args.piece.now _ _ c.byte_at-next.ensures c.byte_at.ensures c.args.first c.args.last
    c.requires c.in-None.ensures _ c.found_of-in-None.ensures
