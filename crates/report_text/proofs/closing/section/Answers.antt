use Rattle.std.proofs.Common.{◌++◌, refl}
use Rattle.phys_mem.specs.MaskedMemory.{seen}
use Rattle.nk_body.specs.NestedRecord.{books_in, nested_held}
use Rattle.report_text.specs.RunLines.{root_line, trap_line}
use Rattle.report_text.proofs.ListedLines.{changes_of, section_is}
use Rattle.report_text.proofs.Texts.{both_cut, both_put, same_put}
use Rattle.report_text.proofs.closing.section.Goals as goal

pub returns-in-Ok : goal.returns-in-Ok
returns-in-Ok g c =
    let own = c.args.kernel.now in
    let changes = changes_of c.args.image.now c.args.layout.now.frames (nested_held own c.args.mem.now) in
    same_put g.O.Sink.taken g.O.Sink.faults
    (section_is c.args.image.now c.args.layout.now.frames (books_in own c.args.mem.now) (seen c.args.mem.now) c.requires.books.books)
    (both_put g.O.Sink.taken g.O.Sink.faults c.put_changes.result _ _ _ _ (root_line own.root ++ trap_line own.trap) _
    changes refl refl c.in-Ok.ensures c.put_changes.ensures)

pub returns-in-Err : goal.returns-in-Err
returns-in-Err g c =
    let own = c.args.kernel.now in
    let changes = changes_of c.args.image.now c.args.layout.now.frames (nested_held own c.args.mem.now) in
    same_put g.O.Sink.taken g.O.Sink.faults
    (section_is c.args.image.now c.args.layout.now.frames (books_in own c.args.mem.now) (seen c.args.mem.now) c.requires.books.books)
    (both_cut g.O.Sink.taken g.O.Sink.faults _ _ _ (root_line own.root ++ trap_line own.trap) changes refl c.in-Err.ensures)
