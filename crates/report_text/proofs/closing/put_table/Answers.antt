use Rattle.std.proofs.Common.{ap, sym, ◌∙◌}
use Rattle.page_desc.specs.PageTables.{is_table}
use Rattle.report_text.proofs.ListedLines.{new_table_lines, old_table_lines}
use Rattle.report_text.proofs.Texts.{same_put}
use Rattle.report_text.proofs.closing.put_table.Goals as goal

pub returns-then-is_table : goal.returns-then-is_table
returns-then-is_table g c =
    same_put g.O.Sink.taken g.O.Sink.faults
    (old_table_lines c.args.image.now c.args.layout.now.frames c.args.mem.now c.args.frame
    (ap is_table (sym c.kind.ensures) ∙ sym c.is_table.ensures ∙ c.if-is_table.true))
    c.put_old_table.ensures

pub returns-else-is_table : goal.returns-else-is_table
returns-else-is_table g c =
    same_put g.O.Sink.taken g.O.Sink.faults
    (new_table_lines c.args.image.now c.args.layout.now.frames c.args.mem.now c.args.frame
    (ap is_table (sym c.kind.ensures) ∙ sym c.is_table.ensures ∙ c.if-is_table.false))
    c.put_new_table.ensures
