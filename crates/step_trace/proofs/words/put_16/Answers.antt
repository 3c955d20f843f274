use Rattle.std.proofs.Common.{arith, rules}
use Rattle.std.specs.Fmt.{digits, padded_integral}
use Rattle.report_text.specs.RunLines.{hex_16}
use Rattle.step_trace.proofs.HexadecimalFour.{hex_16_of_bytes}
use Rattle.step_trace.proofs.words.put_16.Goals as goal

pub returns : goal.returns
unfolding hex_16 padded_integral digits
returns c =
    let sixteen = hex_16_of_bytes c.hexadecimal_law.ensures c.args.number (omega arith) in
    search (rules, sixteen)
