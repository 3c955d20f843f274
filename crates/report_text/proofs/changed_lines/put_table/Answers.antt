use Rattle.std.proofs.Common.{◌≤◌, length, decimal, rules, arith}
use Rattle.std.proofs.lemmas.Fmt.{length-decimal-le}
use Rattle.report_text.proofs.changed_lines.put_table.Goals as goal

pub write_digits-digits-requires : goal.write_digits-digits-requires
write_digits-digits-requires c =
    let short : length (decimal c.from.result) ≤ 3 =
    length-decimal-le 3 c.from.result (omega arith) (omega arith) (omega arith) in
    search (rules, short)

pub put-requires-clause-room : goal.put-requires-clause-room
put-requires-clause-room c =
    let short : length (decimal c.from.result) ≤ 3 =
    length-decimal-le 3 c.from.result (omega arith) (omega arith) (omega arith) in
    omega (arith, short)

pub returns-clause-start : goal.returns-clause-start
returns-clause-start c =
    let short : length (decimal c.from.result) ≤ 3 =
    length-decimal-le 3 c.from.result (omega arith) (omega arith) (omega arith) in
    (omega arith, omega (arith, short))
