use Rattle.std.proofs.Common.{◌<◌, ◌≤◌, length, arith, subst}
use Rattle.std.specs.Io.KnownBytes.{Appends}
use Rattle.nk_host.specs.Taken.{AppendsPrefix}
use Rattle.write_log.specs.LogBytes.{log_in}
use Rattle.report_text.proofs.LedgerLines.{record_at, records_listed}
use Rattle.report_text.proofs.ListedLines.{lines_ended, lines_go_on, lines_were_cut}
use Rattle.report_text.proofs.Known.{on_err, on_ok, some_at}
use Rattle.report_text.proofs.Texts.{rose_before, whole_put}
use Rattle.report_text.proofs.ledger_lines.put_log.Goals as goal

pub returns-in-Err : goal.returns-in-Err
returns-in-Err g c =
    let log = log_in c.args.log.now c.args.mem.now in
    let count = (c.held_log_law.ensures.counts c.args.log.now c.args.mem.now c.requires).0 in
    let below : c.loop-i.i < length log = omega (arith, count) in
    let (it, at, text) = record_at log c.loop-i.i below in
    let here = subst (AppendsPrefix (g.O.Sink.taken c.loop-i.sink) (g.O.Sink.taken c.put_record.new.sink)) text
    (on_err c.in-Err.is (some_at _ at c.put_record.ensures.some)) in
    record {
      never_falls = omega (arith, c.loop-i.invariant.going.never_fell, c.in-Err.ensures.never_falls);
      failed = rose_before _ _ _ c.loop-i.invariant.going.never_fell c.in-Err.ensures.failed;
      all = tt;
      some = subst (AppendsPrefix (g.O.Sink.taken c.args.sink.now) (g.O.Sink.taken c.put_record.new.sink))
          (records_listed log)
          (lines_were_cut g.O.Sink.taken g.O.Sink.faults _ _ _ _ _ _ c.loop-i.invariant.going c.put_record.new.sink below here);
    }

pub loop-i-preserved : goal.loop-i-preserved
loop-i-preserved g c =
    let log = log_in c.args.log.now c.args.mem.now in
    let count = (c.held_log_law.ensures.counts c.args.log.now c.args.mem.now c.requires).0 in
    let below : c.loop-i.i < length log = omega (arith, count) in
    let (it, at, text) = record_at log c.loop-i.i below in
    let here = subst (Appends (g.O.Sink.taken c.loop-i.sink) (g.O.Sink.taken c.put_record.new.sink)) text
    (on_ok c.in_default.is (some_at _ at c.put_record.ensures.all)) in
    record {
      going = lines_go_on g.O.Sink.taken g.O.Sink.faults _ _ _ _ _ _ c.loop-i.invariant.going c.put_record.new.sink
          below here
          c.put_record.ensures.never_falls;
      spot = c.next-spot.ensures;
    }

pub returns : goal.returns
returns g c =
    let log = log_in c.args.log.now c.args.mem.now in
    let count = (c.held_log_law.ensures.counts c.args.log.now c.args.mem.now c.requires).0 in
    let past : length log ≤ c.loop-i.i = omega (arith, count) in
    whole_put g.O.Sink.taken g.O.Sink.faults _ _ _ c.loop-i.invariant.going.never_fell
    (subst (Appends (g.O.Sink.taken c.args.sink.now) (g.O.Sink.taken c.loop-i.sink)) (records_listed log)
    (lines_ended g.O.Sink.taken g.O.Sink.faults _ _ _ _ _ _ c.loop-i.invariant.going past))
