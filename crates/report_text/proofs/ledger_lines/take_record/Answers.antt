use Rattle.std.proofs.Common.{◌++◌, ◌∙◌, ◌≡◌, ◌<◌, [], ◌∷◌, length, ap, arith, sym, subst}
use Rattle.std.specs.Prelude.{slice_index}
use Rattle.hex.specs.Hex.{encode_lower}
use Rattle.nk_host.specs.PiecesOut.{MovedOn}
use Rattle.nk_host.specs.Taken.{AppendsPrefix}
use Rattle.write_log.specs.LogBytes.{log_in}
use Rattle.write_log.specs.LogRecords.{LogRecord}
use Rattle.report_text.specs.ClosingSection.{lines_of}
use Rattle.report_text.proofs.LedgerLines.{there}
use Rattle.report_text.proofs.LineParts.{bytes_taken}
use Rattle.report_text.proofs.TakenUp.{takes_ended, takes_on, takes_were_cut}
use Rattle.report_text.proofs.Known.{some_at, some_from}
use Rattle.report_text.proofs.ledger_lines.take_record.Goals as goal

pub returns-in-Err-clause-cut : goal.returns-in-Err-clause-cut
returns-in-Err-clause-cut g c =
    let log = log_in c.args.log.now c.args.mem.now in
    let count = (c.held_log_law.ensures.counts c.args.log.now c.args.mem.now c.requires.held).0 in
    let below : c.args.i < length log = omega (arith, c.requires.number, count) in
    let (of, is) = there log c.args.i below in
    let going = some_at _ is c.loop-at.invariant.taken in
    let size : length of.bytes ≡ c.args.it.now.length =
    some_at (λ (of : LogRecord). length of.bytes ≡ c.args.it.now.length) is c.requires.count in
    let byte : c.byte_at-byte.result ≡ slice_index of.bytes c.loop-at.at = some_at _ is c.byte_at-byte.ensures in
    let here = subst (λ b. AppendsPrefix (g.O.Sink.taken c.loop-at.sink) (g.O.Sink.taken c.push_hex.new.sink)
    (c.loop-at.pieces ++ encode_lower (b ∷ [])))
    byte c.in-Err.ensures.cut in
    let cut = takes_were_cut c.pieces_law.ensures g.O.Sink.taken g.O.Sink.faults _ _ _ _ _ _ _ _ going c.push_hex.new.sink
    (omega arith) here in
    let text : lines_of (λ o. encode_lower (slice_index of.bytes o ∷ [])) c.args.it.now.length 0
    ≡ encode_lower of.bytes =
    ap (λ n. lines_of (λ o. encode_lower (slice_index of.bytes o ∷ [])) n 0) (sym size) ∙ bytes_taken of.bytes in
    some_from _ is
    (subst (λ l. AppendsPrefix (g.O.Sink.taken c.args.sink.now) (g.O.Sink.taken c.push_hex.new.sink)
    (c.args.pieces.now ++ l)) text cut)

pub loop-at-preserved : goal.loop-at-preserved
loop-at-preserved g c =
    let log = log_in c.args.log.now c.args.mem.now in
    let count = (c.held_log_law.ensures.counts c.args.log.now c.args.mem.now c.requires.held).0 in
    let below : c.args.i < length log = omega (arith, c.requires.number, count) in
    let (of, is) = there log c.args.i below in
    let going = some_at _ is c.loop-at.invariant.taken in
    let byte : c.byte_at-byte.result ≡ slice_index of.bytes c.loop-at.at = some_at _ is c.byte_at-byte.ensures in
    let here = subst (λ b. MovedOn (g.O.Sink.taken c.loop-at.sink) (g.O.Sink.taken c.push_hex.new.sink)
    c.loop-at.pieces c.push_hex.new.self
    (encode_lower (b ∷ []))) byte c.in_default.ensures.moved in
    record {
      taken = some_from _ is
          (takes_on c.pieces_law.ensures g.O.Sink.taken g.O.Sink.faults _ _ _ _ _ _ _ _ going c.push_hex.new.sink c.push_hex.new.self
          (omega arith) here
          c.push_hex.ensures.never_falls);
      counted = omega (arith, c.loop-at.invariant.counted, c.push_hex.ensures.never_falls);
    }

pub returns-clause-moved : goal.returns-clause-moved
returns-clause-moved g c =
    let log = log_in c.args.log.now c.args.mem.now in
    let count = (c.held_log_law.ensures.counts c.args.log.now c.args.mem.now c.requires.held).0 in
    let below : c.args.i < length log = omega (arith, c.requires.number, count) in
    let (of, is) = there log c.args.i below in
    let going = some_at _ is c.loop-at.invariant.taken in
    let size : length of.bytes ≡ c.args.it.now.length =
    some_at (λ (of : LogRecord). length of.bytes ≡ c.args.it.now.length) is c.requires.count in
    let text : lines_of (λ o. encode_lower (slice_index of.bytes o ∷ [])) c.args.it.now.length 0
    ≡ encode_lower of.bytes =
    ap (λ n. lines_of (λ o. encode_lower (slice_index of.bytes o ∷ [])) n 0) (sym size) ∙ bytes_taken of.bytes in
    some_from _ is
    (subst (MovedOn (g.O.Sink.taken c.args.sink.now) (g.O.Sink.taken c.loop-at.sink) c.args.pieces.now
    c.loop-at.pieces) text
    (takes_ended c.pieces_law.ensures g.O.Sink.taken g.O.Sink.faults _ _ _ _ _ _ _ _ going (omega arith)))
