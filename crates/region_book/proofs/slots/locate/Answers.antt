use Rattle.std.proofs.Common.{◌≡◌, ◌<◌, ◌==◌, length, map, slice_index_or, subst, sym}
use Rattle.std.specs.Prelude.{IfNone, IfSome, None, Some}
use Rattle.std.specs.List.{position}
use Rattle.std.proofs.lemmas.List.{length-map}
use Rattle.region_book.specs.declared.row.Row.{Row}
use Rattle.region_book.specs.RegionBytes.{row_in}
use Rattle.region_book.specs.RegionRows.{row_of}
use Rattle.region_book.proofs.Found.{position_none, position_some}
use Rattle.region_book.proofs.slots.locate.Goals as goal

pub returns-clause-none : goal.returns-clause-none
returns-clause-none c =
    let rows = map (row_in c.args.mem.now) c.args.slots.now in
    subst (λ r. IfNone r (row_of rows c.args.id ≡ None)) (sym c.position_of.ensures)
    (position_none (λ (row : Row). row.id == c.args.id) rows)

pub returns-clause-some : goal.returns-clause-some
returns-clause-some c =
    let rows = map (row_in c.args.mem.now) c.args.slots.now in
    subst (λ r. IfSome r (λ i. (i < length c.args.slots.now) × ((d : Row) → row_of rows c.args.id ≡ Some (slice_index_or rows i d))))
    (sym c.position_of.ensures)
    (subst (λ n. IfSome (position (λ (row : Row). row.id == c.args.id) rows)
    (λ i. (i < n) × ((d : Row) → row_of rows c.args.id ≡ Some (slice_index_or rows i d))))
    (length-map c.args.slots.now (row_in c.args.mem.now))
    (position_some (λ (row : Row). row.id == c.args.id) rows))
