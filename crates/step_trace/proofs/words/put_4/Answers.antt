use Rattle.std.proofs.Common.{arith, rules}
use Rattle.step_trace.proofs.HexadecimalFour.{hex_4_of_bytes}
use Rattle.step_trace.proofs.words.put_4.Goals as goal

pub returns : goal.returns
returns c =
    let digits = hex_4_of_bytes c.hexadecimal_law.ensures c.args.number (omega arith) in
    search (rules, digits)
