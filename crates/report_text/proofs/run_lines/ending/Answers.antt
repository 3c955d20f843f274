use Rattle.std.proofs.Common.{◌∙◌}
use Rattle.report_text.specs.RunLines.{ending_line, turns_line}
use Rattle.report_text.proofs.Texts.{both_cut, both_put}
use Rattle.report_text.proofs.run_lines.ending.Goals as goal

pub returns-in-Ok : goal.returns-in-Ok
returns-in-Ok g c =
    both_put g.O.Sink.taken g.O.Sink.faults c.put_all-in-Ok.result _ _ _ _ (ending_line c.args.halted) _ (turns_line c.args.turns)
    (c.as_bytes.ensures.value ∙ c.ending_line.ensures) c.turns_line.ensures c.in-Ok.ensures.put
    c.put_all-in-Ok.ensures.put

pub returns-in-Err : goal.returns-in-Err
returns-in-Err g c =
    both_cut g.O.Sink.taken g.O.Sink.faults _ _ _ (ending_line c.args.halted) (turns_line c.args.turns)
    (c.as_bytes.ensures.value ∙ c.ending_line.ensures) c.in-Err.ensures.put
