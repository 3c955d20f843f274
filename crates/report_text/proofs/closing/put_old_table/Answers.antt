use Rattle.std.proofs.Common.{arith}
use Rattle.report_text.proofs.ListedLines.{lines_begin, lines_ended, lines_go_on, lines_were_cut}
use Rattle.report_text.proofs.Texts.{later_cut, whole_put}
use Rattle.report_text.proofs.Known.{on_ok}
use Rattle.report_text.proofs.closing.put_old_table.Goals as goal

pub loop-index-init : goal.loop-index-init
loop-index-init g c = lines_begin g.O.Sink.taken g.O.Sink.faults c.args.sink.now c.args.sink.now _ 512

pub returns-in-Err : goal.returns-in-Err
returns-in-Err g c =
    later_cut g.O.Sink.taken g.O.Sink.faults _ _ _ _ _ c.loop-index.invariant.never_fell c.in-Err.ensures
    (lines_were_cut g.O.Sink.taken g.O.Sink.faults _ _ _ _ _ _ c.loop-index.invariant c.put_entry.new.sink (omega arith)
    c.in-Err.ensures.some)

pub loop-index-preserved : goal.loop-index-preserved
loop-index-preserved g c =
    lines_go_on g.O.Sink.taken g.O.Sink.faults _ _ _ _ _ _ c.loop-index.invariant c.put_entry.new.sink (omega arith)
    (on_ok c.in_default.is c.put_entry.ensures.all) c.put_entry.ensures.never_falls

pub returns : goal.returns
returns g c =
    whole_put g.O.Sink.taken g.O.Sink.faults _ _ _ c.loop-index.invariant.never_fell
    (lines_ended g.O.Sink.taken g.O.Sink.faults _ _ _ _ _ _ c.loop-index.invariant (omega arith))
