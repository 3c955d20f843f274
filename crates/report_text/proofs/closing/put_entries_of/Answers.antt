use Rattle.std.proofs.Common.{sym, ◌∙◌}
use Rattle.phys_mem.specs.MaskedMemory.{seen}
use Rattle.nk_bits.specs.Kinds.{kind_of}
use Rattle.page_desc.specs.DescriptorBytes.{kinds_in}
use Rattle.nk_body.specs.NestedRecord.{books_in}
use Rattle.report_text.proofs.HeldBooks.{held_tables, table_shows}
use Rattle.report_text.proofs.ListedLines.{no_table_lines, table_lines}
use Rattle.report_text.proofs.Texts.{none_put, same_put}
use Rattle.report_text.proofs.closing.put_entries_of.Goals as goal

pub returns-then-is_table_now : goal.returns-then-is_table_now
returns-then-is_table_now g c =
    let own = c.args.kernel.now in
    let m = c.args.mem.now in
    let table = sym c.is_table_now.ensures ∙ c.if-is_table_now.true in
    same_put g.O.Sink.taken g.O.Sink.faults
    (table_lines c.args.image.now c.args.layout.now.frames (kinds_in m) own.root (books_in own m).ledger (seen m) m c.args.frame table
    (λ i low. c.held_tables_law.ensures.entries own.frames own.root c.args.frame i m (held_tables own m c.requires.books)
    low (table_shows (kind_of (kinds_in m) c.args.frame) table)))
    c.put_table.ensures

pub returns-else-is_table_now : goal.returns-else-is_table_now
returns-else-is_table_now g c =
    let own = c.args.kernel.now in
    let m = c.args.mem.now in
    none_put g.O.Sink.taken g.O.Sink.faults c.args.sink.now _
    (no_table_lines c.args.image.now c.args.layout.now.frames (kinds_in m) own.root (books_in own m).ledger (seen m) c.args.frame
    (sym c.is_table_now.ensures ∙ c.if-is_table_now.false))
