use Rattle.std.proofs.Common.{arith}
use Rattle.report_text.specs.ClosingSection.{entry_lines}
use Rattle.report_text.proofs.ListedLines.{lines_begin, lines_ended, lines_go_on, lines_were_cut}
use Rattle.report_text.proofs.Texts.{later_cut, whole_put}
use Rattle.report_text.proofs.Known.{on_ok}
use Rattle.report_text.proofs.closing.put_entries.Goals as goal

pub loop-frame-init : goal.loop-frame-init
loop-frame-init g c =
    lines_begin g.O.Sink.taken g.O.Sink.faults c.args.sink.now c.args.sink.now _ c.args.layout.now.frames

pub returns-in-Err : goal.returns-in-Err
unfolding entry_lines
returns-in-Err g c =
    later_cut g.O.Sink.taken g.O.Sink.faults _ _ _ _ _ c.loop-frame.invariant.never_fell c.in-Err.ensures
    (lines_were_cut g.O.Sink.taken g.O.Sink.faults _ _ _ _ _ _ c.loop-frame.invariant c.put_entries_of.new.sink (omega arith)
    c.in-Err.ensures.some)

pub loop-frame-preserved : goal.loop-frame-preserved
loop-frame-preserved g c =
    lines_go_on g.O.Sink.taken g.O.Sink.faults _ _ _ _ _ _ c.loop-frame.invariant c.put_entries_of.new.sink
    (omega arith)
    (on_ok c.in_default.is c.put_entries_of.ensures.all) c.put_entries_of.ensures.never_falls

pub returns : goal.returns
unfolding entry_lines
returns g c =
    whole_put g.O.Sink.taken g.O.Sink.faults _ _ _ c.loop-frame.invariant.never_fell
    (lines_ended g.O.Sink.taken g.O.Sink.faults _ _ _ _ _ _ c.loop-frame.invariant (omega arith))
