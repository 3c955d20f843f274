use Rattle.std.proofs.Common.{◌++◌, refl}
use Rattle.nk_body.specs.NestedRecord.{Nested, nested_held}
use Rattle.report_text.specs.ClosingSection.{bytes_of_region, entry_lines, log_lines, region_lines}
use Rattle.report_text.proofs.Texts.{both_cut, both_put}
use Rattle.report_text.proofs.closing.put_tables.Goals as goal

pub returns-in-Ok : goal.returns-in-Ok
returns-in-Ok g c =
    let nk : Nested = nested_held c.args.kernel.now c.args.mem.now in
    both_put g.O.Sink.taken g.O.Sink.faults c.put_ledger.result _ _ _ _
    (entry_lines c.args.image.now c.args.layout.now.frames nk) _
    (region_lines (bytes_of_region nk) nk.ledger.book.regions ++ log_lines 0 nk.ledger.log) refl refl
    c.in-Ok.ensures c.put_ledger.ensures

pub returns-in-Err : goal.returns-in-Err
returns-in-Err g c =
    let nk : Nested = nested_held c.args.kernel.now c.args.mem.now in
    both_cut g.O.Sink.taken g.O.Sink.faults _ _ _ (entry_lines c.args.image.now c.args.layout.now.frames nk)
    (region_lines (bytes_of_region nk) nk.ledger.book.regions ++ log_lines 0 nk.ledger.log) refl c.in-Err.ensures
