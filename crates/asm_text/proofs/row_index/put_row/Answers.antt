use Rattle.std.proofs.Common.{sym, ◌∙◌, arith}
use Rattle.asm_text.proofs.RowIndexes.{row_put}
use Rattle.asm_text.proofs.row_index.put_row.Goals as goal

pub returns-in-Some : goal.returns-in-Some
returns-in-Some c =
    row_put c.args.place c.in-Some.row c.args.index.now _ c.requires.within (sym c.table_row.ensures ∙ c.in-Some.is) c.requires.behind
    (omega arith) (omega arith) (omega arith) (omega (arith, c.op_number-number.ensures.small)) (cc) c.op_number-number.result c.op_number-number.ensures.value
