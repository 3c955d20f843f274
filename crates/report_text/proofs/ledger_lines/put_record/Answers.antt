use Rattle.std.proofs.Common.{◌++◌, ◌<◌, length, codes, arith}
use Rattle.hex.specs.Hex.{encode_lower}
use Rattle.write_log.specs.LogBytes.{log_in}
use Rattle.report_text.proofs.LedgerLines.{noted_at}
use Rattle.report_text.proofs.LineParts.{log_parts}
use Rattle.report_text.proofs.TakenUp.{end_cut, first_cut, second_cut, third_cut, went_out}
use Rattle.report_text.proofs.Known.{some_at, some_from}
use Rattle.report_text.proofs.ledger_lines.put_record.Goals as goal

pub returns-in-Err-clause-some : goal.returns-in-Err-clause-some
returns-in-Err-clause-some g c =
    let log = log_in c.args.log.now c.args.mem.now in
    let count = (c.held_log_law.ensures.counts c.args.log.now c.args.mem.now c.requires.held).0 in
    let below : c.args.i < length log = omega (arith, c.requires.number, count) in
    let it = noted_at log c.args.i c.entry_at-it.result below c.entry_at-it.ensures in
    let line = log_parts c.args.i it.of c.entry_at-it.result c.record_head.result.now it.same c.record_head.ensures in
    some_from _ it.at (first_cut c.pieces_law.ensures _ _ _ c.record_head.result.now (encode_lower it.of.bytes ++ codes "\n") _
    c.new-pieces.ensures line c.in-Err.ensures.cut)

pub returns-in-Err-take_record-clause-some : goal.returns-in-Err-take_record-clause-some
returns-in-Err-take_record-clause-some g c =
    let log = log_in c.args.log.now c.args.mem.now in
    let count = (c.held_log_law.ensures.counts c.args.log.now c.args.mem.now c.requires.held).0 in
    let below : c.args.i < length log = omega (arith, c.requires.number, count) in
    let it = noted_at log c.args.i c.entry_at-it.result below c.entry_at-it.ensures in
    let line = log_parts c.args.i it.of c.entry_at-it.result c.record_head.result.now it.same c.record_head.ensures in
    some_from _ it.at
    (second_cut c.pieces_law.ensures _ _ c.record_head.result.now (encode_lower it.of.bytes) (codes "\n") _ c.new-pieces.ensures line _
    _ c.in_default.ensures.moved
    _ (some_at _ it.at c.in-Err-take_record.ensures.cut))

pub returns-in-Err-push-clause-some : goal.returns-in-Err-push-clause-some
returns-in-Err-push-clause-some g c =
    let log = log_in c.args.log.now c.args.mem.now in
    let count = (c.held_log_law.ensures.counts c.args.log.now c.args.mem.now c.requires.held).0 in
    let below : c.args.i < length log = omega (arith, c.requires.number, count) in
    let it = noted_at log c.args.i c.entry_at-it.result below c.entry_at-it.ensures in
    let line = log_parts c.args.i it.of c.entry_at-it.result c.record_head.result.now it.same c.record_head.ensures in
    some_from _ it.at
    (third_cut c.pieces_law.ensures _ _ c.record_head.result.now (encode_lower it.of.bytes) (codes "\n") _ c.new-pieces.ensures line _
    _ c.in_default.ensures.moved
    _ _ (some_at _ it.at c.in_default-take_record.ensures.moved) _ c.in-Err-push.ensures.cut)

pub returns-clause-all : goal.returns-clause-all
returns-clause-all g c =
    let log = log_in c.args.log.now c.args.mem.now in
    let count = (c.held_log_law.ensures.counts c.args.log.now c.args.mem.now c.requires.held).0 in
    let below : c.args.i < length log = omega (arith, c.requires.number, count) in
    let it = noted_at log c.args.i c.entry_at-it.result below c.entry_at-it.ensures in
    let line = log_parts c.args.i it.of c.entry_at-it.result c.record_head.result.now it.same c.record_head.ensures in
    some_from _ it.at
    (went_out c.pieces_law.ensures _ _ c.record_head.result.now (encode_lower it.of.bytes) (codes "\n") _ c.new-pieces.ensures line _ _
    c.in_default.ensures.moved
    _ _ (some_at _ it.at c.in_default-take_record.ensures.moved) _ _ c.in_default-push.ensures.moved c.finish.result _
    _ c.finish.ensures.moved c.finish.ensures.none)

pub returns-clause-some : goal.returns-clause-some
returns-clause-some g c =
    let log = log_in c.args.log.now c.args.mem.now in
    let count = (c.held_log_law.ensures.counts c.args.log.now c.args.mem.now c.requires.held).0 in
    let below : c.args.i < length log = omega (arith, c.requires.number, count) in
    let it = noted_at log c.args.i c.entry_at-it.result below c.entry_at-it.ensures in
    let line = log_parts c.args.i it.of c.entry_at-it.result c.record_head.result.now it.same c.record_head.ensures in
    some_from _ it.at
    (end_cut c.pieces_law.ensures _ _ c.record_head.result.now (encode_lower it.of.bytes) (codes "\n") _ c.new-pieces.ensures line _ _
    c.in_default.ensures.moved
    _ _ (some_at _ it.at c.in_default-take_record.ensures.moved) _ _ c.in_default-push.ensures.moved c.finish.result _
    c.finish.ensures.cut)
