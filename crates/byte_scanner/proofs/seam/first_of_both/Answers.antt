use Rattle.byte_scanner.specs.KeptBytes.{kept_bytes}
use Rattle.byte_scanner.proofs.JoinedRuns.{either_part}
use Rattle.byte_scanner.proofs.seam.first_of_both.Goals as goal

pub returns-in-None : goal.returns-in-None
returns-in-None c =
    either_part (kept_bytes c.args.kept) c.args.piece.now c.args.at c.requires.kept c.in-None.ensures _ c.first_within.ensures
