use Rattle.std.proofs.Common.{ap, arith, length}
use Rattle.report_text.proofs.FaultNames.{short_name}
use Rattle.report_text.proofs.image_lines.kind_name.Goals as goal

pub returns-clause-short : goal.returns-clause-short
returns-clause-short c = omega (arith, short_name c.args.kind, ap length c.name.ensures)
