use Rattle.std.proofs.Common.{arith, rules}
use Rattle.report_text.proofs.Hexadecimal.{hex_16_of_bytes}
use Rattle.report_text.proofs.words.put_16.Goals as goal

pub returns-clause-written : goal.returns-clause-written
returns-clause-written c =
    let digits = hex_16_of_bytes c.args.number (omega arith) in
    search (rules, digits)
