use Rattle.std.proofs.Common.{◌-◌, ◌++◌, length, slice_get, subst, sym}
use Rattle.std.specs.Prelude.{MatchOption}
use Rattle.byte_scanner.specs.declared.kept.Kept.{Kept}
use Rattle.byte_scanner.specs.KeptBytes.{kept_bytes}
use Rattle.byte_scanner.specs.LeastPlace.{NoneBelow}
use Rattle.byte_scanner.specs.PieceRuns.{IsFirstIn}
use Rattle.byte_scanner.proofs.SeamLemmas.{across_one}
use Rattle.byte_scanner.proofs.seam.first_across.Goals as goal

pub returns-in-One : goal.returns-in-One
returns-in-One c =
    let P : Kept → Type 0 = λ kept. MatchOption c.found_of.result (NoneBelow (slice_get (kept_bytes kept ++ c.args.piece.now)) (length (kept_bytes kept))) (IsFirstIn (c.args.at - length (kept_bytes kept)) (kept_bytes kept ++ c.args.piece.now)) in
    subst P (sym c.in-One.is)
    (across_one c.args.at c.args.piece.now _ _ c.byte_at.ensures c.byte_at-in-One.ensures c.in-One.last c.found_of.result c.found_of.ensures)
