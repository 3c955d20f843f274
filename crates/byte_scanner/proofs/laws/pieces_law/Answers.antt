use Rattle.byte_scanner.proofs.ScannedRuns.{all_scanned, nothing_scanned, scanned_on}
use Rattle.byte_scanner.proofs.laws.pieces_law.Goals as goal

pub returns : goal.returns
returns c = record { nothing = nothing_scanned; fed = scanned_on; all = all_scanned }
