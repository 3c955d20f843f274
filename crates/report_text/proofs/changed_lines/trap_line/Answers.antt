use Rattle.std.proofs.Common.{arith}
use Rattle.std.proofs.lemmas.Grind.{common_steps}
use Rattle.report_text.specs.RunLines.{trap_line}
use Rattle.report_text.proofs.Hexadecimal.{hex_16_of_bytes}
use Rattle.report_text.proofs.changed_lines.trap_line.Goals as goal

pub returns : goal.returns
unfolding trap_line
returns c = let digits = hex_16_of_bytes c.args.address (omega arith) in grind (arith, common_steps, digits)
