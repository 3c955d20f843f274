use Rattle.std.proofs.Common.{ap, ◌∙◌}
use Rattle.report_text.specs.RunLines.{root_line, trap_line}
use Rattle.report_text.proofs.Texts.{both_cut, both_put}
use Rattle.report_text.proofs.closing.put_books.Goals as goal

pub returns-in-Ok : goal.returns-in-Ok
returns-in-Ok g c =
    both_put g.O.Sink.taken g.O.Sink.faults c.put_all-in-Ok.result _ _ _ _ (root_line c.args.kernel.now.root) _
    (trap_line c.args.kernel.now.trap)
    (c.root_line.ensures ∙ ap root_line c.root.ensures) (c.trap_line.ensures ∙ ap trap_line c.trap.ensures)
    c.in-Ok.ensures.put c.put_all-in-Ok.ensures.put

pub returns-in-Err : goal.returns-in-Err
returns-in-Err g c =
    both_cut g.O.Sink.taken g.O.Sink.faults _ _ _ (root_line c.args.kernel.now.root) (trap_line c.args.kernel.now.trap)
    (c.root_line.ensures ∙ ap root_line c.root.ensures) c.in-Err.ensures.put
