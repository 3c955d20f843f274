use Rattle.std.proofs.Common.{Some, get_or, slice_get, sym}
use Rattle.std.proofs.lemmas.Option.{slice_get-get_or}
use Rattle.byte_scanner.proofs.ProtectedLemmas.{stands_here}
use Rattle.byte_scanner.proofs.encoding.found_at.Goals as goal

pub returns : goal.returns
returns c =
    stands_here (slice_get c.args.bytes.now) c.args.place (Some (get_or c.args.bytes.now c.args.place 0)) _ _
    (slice_get-get_or c.args.bytes.now c.args.place 0 c.requires) (sym c.byte_at-second.ensures) (sym c.byte_at-third.ensures)
    c.args.at _ c.found_of.ensures
