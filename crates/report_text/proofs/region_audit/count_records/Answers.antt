use Rattle.std.proofs.Common.{◌+◌, ◌<◌, ◌≤◌, ◌∙◌, ap, arith, drop, length, refl}
use Rattle.std.specs.Int.{from_bool}
use Rattle.std.specs.Prelude.{◌==◌}
use Rattle.std.proofs.Math.ListN.{drop_of_length-le}
use Rattle.write_log.specs.declared.log.Noted.{Noted}
use Rattle.write_log.specs.LogBytes.{log_in}
use Rattle.report_text.proofs.CountedLists.{counted_all, counts_begin, counts_on, from_place}
use Rattle.report_text.proofs.LedgerLines.{noted_at}
use Rattle.report_text.proofs.region_audit.count_records.Goals as goal

pub loop-i-init : goal.loop-i-init
loop-i-init c =
    let log = log_in c.args.log.now c.args.mem.now in
    record { counted = counts_begin _ log (drop 0 log) refl; spot = c.first-spot.ensures c.args.mem.now }

pub loop-i-preserved : goal.loop-i-preserved
loop-i-preserved c =
    let log = log_in c.args.log.now c.args.mem.now in
    let count = (c.held_log_law.ensures.counts c.args.log.now c.args.mem.now c.requires).0 in
    let below : c.loop-i.i < length log = omega (arith, count) in
    let it = noted_at log c.loop-i.i c.entry_at.result below c.entry_at.ensures in
    record {
      counted = counts_on _ log (drop c.loop-i.i log) (drop (c.loop-i.i + 1) log) c.loop-i.i c.loop-i.count c.from-count.result it.of
          c.loop-i.invariant.counted (from_place log c.loop-i.i it.of it.at)
          (c.from-count.ensures ∙ ap (λ (n : Noted). from_bool (n.region == c.args.id)) it.same);
      spot = c.next-spot.ensures;
    }

pub returns : goal.returns
returns c =
    let log = log_in c.args.log.now c.args.mem.now in
    let count = (c.held_log_law.ensures.counts c.args.log.now c.args.mem.now c.requires).0 in
    let past : length log ≤ c.loop-i.i = omega (arith, count) in
    counted_all _ log (drop c.loop-i.i log) c.loop-i.i c.loop-i.count c.loop-i.invariant.counted
    (drop_of_length-le log past)
