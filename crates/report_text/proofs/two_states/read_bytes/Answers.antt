use Rattle.std.proofs.Common.{◌≡◌, ◌≢◌, ◌<◌, length, take, arith, ◌∙◌, sym, below_more, get_or-set_other, get_or-set_same}
use Rattle.std.specs.Prelude.{slice_index}
use Rattle.std.proofs.Math.ListN.{length-set}
use Rattle.std.proofs.lemmas.List.{ext_get_or, get_or-take, length-take-le}
use Rattle.write_log.specs.LogBytes.{log_in}
use Rattle.write_log.specs.LogRecords.{LogRecord}
use Rattle.report_text.proofs.LedgerLines.{there}
use Rattle.report_text.proofs.Known.{some_at, some_from}
use Rattle.report_text.proofs.two_states.read_bytes.Goals as goal

pub loop-at-preserved : goal.loop-at-preserved
loop-at-preserved c =
    let log = log_in c.args.log.now c.args.mem.now in
    let count = (c.held_log_law.ensures.counts c.args.log.now c.args.mem.now c.requires.held).0 in
    let below : c.args.i < length log = omega (arith, c.requires.number, count) in
    let (of, is) = there log c.args.i below in
    let read = some_at _ is c.loop-at.invariant.read in
    let byte : c.byte_at.result ≡ slice_index of.bytes c.loop-at.at = some_at _ is c.byte_at.ensures in
    let kept = length-set c.loop-at.buffer c.loop-at.at c.byte_at.result in
    record {
      room = omega (arith, kept, c.loop-at.invariant.room);
      read = some_from _ is
          (below_more _ _
          (λ k h. let other : k ≢ c.loop-at.at = omega arith in rw get_or-set_other (read k h))
          (let low : c.loop-at.at < length c.loop-at.buffer = omega (arith, c.loop-at.invariant.room) in
          rw get_or-set_same byte));
    }

pub returns : goal.returns
returns c =
    let log = log_in c.args.log.now c.args.mem.now in
    let count = (c.held_log_law.ensures.counts c.args.log.now c.args.mem.now c.requires.held).0 in
    let below : c.args.i < length log = omega (arith, c.requires.number, count) in
    let (of, is) = there log c.args.i below in
    let read = some_at _ is c.loop-at.invariant.read in
    let size : length of.bytes ≡ c.args.count =
    some_at (λ (of : LogRecord). length of.bytes ≡ c.args.count) is c.requires.count in
    let whole : length (take c.args.count c.loop-at.buffer) ≡ c.args.count =
    length-take-le c.args.count c.loop-at.buffer c.loop-at.invariant.room in
    some_from _ is
    (ext_get_or 0 (take c.args.count c.loop-at.buffer) of.bytes (whole ∙ sym size)
    (λ k low. let inside : k < c.args.count = omega (arith, low, whole) in
    get_or-take c.args.count c.loop-at.buffer k 0 inside ∙ read k (omega (arith, inside))))
