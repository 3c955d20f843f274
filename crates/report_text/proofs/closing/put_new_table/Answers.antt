use Rattle.std.proofs.Common.{◌+◌, ◌<◌, arith, subst}
use Rattle.std.specs.Io.KnownBytes.{Appends}
use Rattle.nk_host.specs.Taken.{AppendsPrefix}
use Rattle.report_text.proofs.ListedLines.{entry_rose, entry_stayed_0, lines_begin, lines_ended, lines_go_on, lines_passed, lines_were_cut}
use Rattle.report_text.proofs.Known.{on_ok}
use Rattle.report_text.proofs.Texts.{later_cut, whole_put}
use Rattle.report_text.proofs.closing.put_new_table.Goals as goal

pub loop-index-init : goal.loop-index-init
loop-index-init g c = record {
  going =
      lines_passed g.O.Sink.taken g.O.Sink.faults _ _ _ 512 _ 0 c.next_entry-index.result
      (lines_begin g.O.Sink.taken g.O.Sink.faults c.args.sink.now c.args.sink.now _ 512) (omega arith) (omega arith)
      (λ i from below. entry_stayed_0 _ _ _ (c.next_entry-index.ensures.zero i from below));
  low = omega arith;
  used = c.next_entry-index.ensures.entry;
}

pub returns-in-Err : goal.returns-in-Err
returns-in-Err g c =
    let here : c.loop-index.index < 512 = c.loop-index-test.true in
    let line = entry_rose c.args.mem.now c.args.frame c.loop-index.index c.entry-value.result c.entry_line.result.now
    c.entry_line.ensures c.entry-value.ensures (c.loop-index.invariant.used here) in
    later_cut g.O.Sink.taken g.O.Sink.faults _ _ _ _ _ c.loop-index.invariant.going.never_fell c.in-Err.ensures.put
    (lines_were_cut g.O.Sink.taken g.O.Sink.faults _ _ _ _ _ _ c.loop-index.invariant.going c.put_all.new.sink here
    (subst (AppendsPrefix (g.O.Sink.taken c.loop-index.sink) (g.O.Sink.taken c.put_all.new.sink)) line
    c.in-Err.ensures.put.some))

pub loop-index-preserved : goal.loop-index-preserved
loop-index-preserved g c =
    let here : c.loop-index.index < 512 = c.loop-index-test.true in
    let line = entry_rose c.args.mem.now c.args.frame c.loop-index.index c.entry-value.result c.entry_line.result.now
    c.entry_line.ensures c.entry-value.ensures (c.loop-index.invariant.used here) in
    let put = subst (Appends (g.O.Sink.taken c.loop-index.sink) (g.O.Sink.taken c.put_all.new.sink)) line
    (on_ok c.in_default.is c.put_all.ensures.put.all) in
    record {
      going =
          lines_passed g.O.Sink.taken g.O.Sink.faults _ _ _ 512 _ (c.loop-index.index + 1)
          c.next_entry-index-in-loop-index.result
          (lines_go_on g.O.Sink.taken g.O.Sink.faults _ _ _ _ _ _ c.loop-index.invariant.going c.put_all.new.sink here put
          c.put_all.ensures.put.never_falls)
          (omega arith) (omega arith)
          (λ i from below. entry_stayed_0 _ _ _ (c.next_entry-index-in-loop-index.ensures.zero i from below));
      low = omega arith;
      used = c.next_entry-index-in-loop-index.ensures.entry;
    }

pub returns : goal.returns
returns g c =
    whole_put g.O.Sink.taken g.O.Sink.faults _ _ _ c.loop-index.invariant.going.never_fell
    (lines_ended g.O.Sink.taken g.O.Sink.faults _ _ _ _ _ _ c.loop-index.invariant.going (omega arith))
