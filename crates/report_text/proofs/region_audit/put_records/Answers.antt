use Rattle.std.proofs.Common.{◌<◌, ◌≤◌, length, arith}
use Rattle.write_log.specs.LogBytes.{log_in}
use Rattle.report_text.proofs.CountedLists.{contained}
use Rattle.report_text.proofs.LedgerLines.{there}
use Rattle.report_text.proofs.Texts.{rose_before, whole_put}
use Rattle.report_text.proofs.ToldRecords.{told_all, told_begin, told_cut, told_end, told_on}
use Rattle.report_text.proofs.Known.{on_err, on_ok, some_at, some_from}
use Rattle.report_text.proofs.region_audit.put_records.Goals as goal

pub loop-i-init : goal.loop-i-init
loop-i-init g c =
    record {
      told = told_begin g.O.Sink.taken g.O.Sink.faults c.args.sink.now c.args.sink.now c.args.id
          (log_in c.args.log.now c.args.mem.now) c.args.auditing.now;
      spot = c.first-spot.ensures c.args.mem.now;
    }

pub put_record-requires-clause-within : goal.put_record-requires-clause-within
put_record-requires-clause-within g c =
    let log = log_in c.args.log.now c.args.mem.now in
    let count = (c.held_log_law.ensures.counts c.args.log.now c.args.mem.now c.requires.held).0 in
    let below : c.loop-i.i < length log = omega (arith, count) in
    let (it, at) = there log c.loop-i.i below in
    some_from _ at (λ same.
    let inside = c.requires.within it (contained log c.loop-i.i it at) same in
    omega (arith, inside, c.loop-i.invariant.told.sized))

pub returns-in-Err-clause-put : goal.returns-in-Err-clause-put
returns-in-Err-clause-put g c =
    let log = log_in c.args.log.now c.args.mem.now in
    let count = (c.held_log_law.ensures.counts c.args.log.now c.args.mem.now c.requires.held).0 in
    let below : c.loop-i.i < length log = omega (arith, count) in
    let (it, at) = there log c.loop-i.i below in
    record {
      never_falls = omega (arith, c.loop-i.invariant.told.never_fell, c.in-Err.ensures.never_falls);
      failed = rose_before _ _ _ c.loop-i.invariant.told.never_fell c.in-Err.ensures.failed;
      all = tt;
      some = told_cut g.O.Sink.taken g.O.Sink.faults _ _ _ log _ _ c.loop-i.i c.loop-i.invariant.told it at
          c.put_record.new.sink
          (on_err c.in-Err.is (some_at _ at c.put_record.ensures.some));
    }

pub loop-i-preserved : goal.loop-i-preserved
loop-i-preserved g c =
    let log = log_in c.args.log.now c.args.mem.now in
    let count = (c.held_log_law.ensures.counts c.args.log.now c.args.mem.now c.requires.held).0 in
    let below : c.loop-i.i < length log = omega (arith, count) in
    let (it, at) = there log c.loop-i.i below in
    record {
      told = told_on g.O.Sink.taken g.O.Sink.faults _ _ _ log _ _ c.loop-i.i c.loop-i.invariant.told it at c.put_record.new.sink
          c.put_record.new.auditing
          (λ same. let inside = c.requires.within it (contained log c.loop-i.i it at) same in
          omega (arith, inside, c.loop-i.invariant.told.sized))
          (on_ok c.in_default.is (some_at _ at c.put_record.ensures.all)) c.put_record.ensures.never_falls
          (some_at _ at c.put_record.ensures.put);
      spot = c.next-spot.ensures;
    }

pub returns-clause-put : goal.returns-clause-put
returns-clause-put g c =
    let log = log_in c.args.log.now c.args.mem.now in
    let count = (c.held_log_law.ensures.counts c.args.log.now c.args.mem.now c.requires.held).0 in
    let past : length log ≤ c.loop-i.i = omega (arith, count) in
    whole_put g.O.Sink.taken g.O.Sink.faults _ _ _ c.loop-i.invariant.told.never_fell
    (told_all g.O.Sink.taken g.O.Sink.faults _ _ _ log _ _ c.loop-i.i c.loop-i.invariant.told past)

pub returns-clause-told : goal.returns-clause-told
returns-clause-told g c =
    let log = log_in c.args.log.now c.args.mem.now in
    let count = (c.held_log_law.ensures.counts c.args.log.now c.args.mem.now c.requires.held).0 in
    let past : length log ≤ c.loop-i.i = omega (arith, count) in
    told_end g.O.Sink.taken g.O.Sink.faults _ _ _ log _ _ c.loop-i.i c.loop-i.invariant.told past
