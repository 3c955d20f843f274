use Rattle.std.proofs.Common.{Some, get_or, slice_get, sym, ◌∙◌}
use Rattle.std.proofs.lemmas.Option.{slice_get-get_or}
use Rattle.byte_scanner.proofs.ProtectedLemmas.{length_from}
use Rattle.byte_scanner.proofs.encoding.length_at.Goals as goal

pub returns : goal.returns
returns c =
    c.length_of.ensures.is
    ∙ sym (length_from (slice_get c.args.bytes.now) c.args.place (Some (get_or c.args.bytes.now c.args.place 0)) _ _
    (slice_get-get_or c.args.bytes.now c.args.place 0 c.requires) (sym c.byte_at-second.ensures) (sym c.byte_at-third.ensures))
