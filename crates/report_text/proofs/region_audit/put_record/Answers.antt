use Rattle.std.proofs.Common.{◌≡◌, ◌+◌, ◌≤◌, ◌<◌, OnErr, OnOk, length, ap, arith, sym, subst, ◌∙◌}
use Rattle.std.specs.Io.KnownBytes.{Appends}
use Rattle.std.proofs.KnownBytes.{Appends-nil}
use Rattle.nk_host.specs.Taken.{AppendsPrefix}
use Rattle.write_log.specs.declared.log.Noted.{Noted}
use Rattle.write_log.specs.LogBytes.{log_in}
use Rattle.write_log.specs.LogRecords.{LogRecord}
use Rattle.report_text.proofs.AuditParts.{bytes_elsewhere, bytes_here, lines_elsewhere, lines_here}
use Rattle.report_text.proofs.LedgerLines.{noted_at}
use Rattle.report_text.proofs.Known.{some_at, some_from}
use Rattle.report_text.proofs.region_audit.put_record.Goals as goal

pub put_record-requires-clause-count : goal.put_record-requires-clause-count
put_record-requires-clause-count g c =
    let log = log_in c.args.log.now c.args.mem.now in
    let count = (c.held_log_law.ensures.counts c.args.log.now c.args.mem.now c.requires.held).0 in
    let below : c.args.i < length log = omega (arith, c.requires.number, count) in
    let it = noted_at log c.args.i c.entry_at-it.result below c.entry_at-it.ensures in
    some_from _ it.at (sym (ap (λ (n : Noted). n.length) it.same))

pub put_record-requires-clause-offset : goal.put_record-requires-clause-offset
put_record-requires-clause-offset g c =
    let log = log_in c.args.log.now c.args.mem.now in
    let count = (c.held_log_law.ensures.counts c.args.log.now c.args.mem.now c.requires.held).0 in
    let below : c.args.i < length log = omega (arith, c.requires.number, count) in
    let it = noted_at log c.args.i c.entry_at-it.result below c.entry_at-it.ensures in
    some_from _ it.at (sym (ap (λ (n : Noted). n.offset) it.same))

pub put_record-requires-clause-within : goal.put_record-requires-clause-within
put_record-requires-clause-within g c =
    let log = log_in c.args.log.now c.args.mem.now in
    let count = (c.held_log_law.ensures.counts c.args.log.now c.args.mem.now c.requires.held).0 in
    let below : c.args.i < length log = omega (arith, c.requires.number, count) in
    let it = noted_at log c.args.i c.entry_at-it.result below c.entry_at-it.ensures in
    let same : it.of.region ≡ c.args.id = sym (ap (λ (n : Noted). n.region) it.same) ∙ c.if-it-id.true in
    let inside : it.of.offset + length it.of.bytes ≤ length c.args.auditing.now =
    some_at (λ (it : LogRecord). it.region ≡ c.args.id → it.offset + length it.bytes ≤ length c.args.auditing.now) it.at
    c.requires.within same in
    let offset : c.entry_at-it.result.offset ≡ it.of.offset = ap (λ (n : Noted). n.offset) it.same in
    let size : c.entry_at-it.result.length ≡ length it.of.bytes = ap (λ (n : Noted). n.length) it.same in
    omega (arith, inside, offset, size)

pub returns-then-it-id-clause-all : goal.returns-then-it-id-clause-all
returns-then-it-id-clause-all g c =
    let log = log_in c.args.log.now c.args.mem.now in
    let count = (c.held_log_law.ensures.counts c.args.log.now c.args.mem.now c.requires.held).0 in
    let below : c.args.i < length log = omega (arith, c.requires.number, count) in
    let it = noted_at log c.args.i c.entry_at-it.result below c.entry_at-it.ensures in
    let same : it.of.region ≡ c.args.id = sym (ap (λ (n : Noted). n.region) it.same) ∙ c.if-it-id.true in
    some_from _ it.at
    (subst (λ l. OnOk c.put_record.result (Appends (g.O.Sink.taken c.args.sink.now) (g.O.Sink.taken c.put_record.new.sink) l))
    (lines_here c.args.id c.args.i c.args.auditing.now it.of same) (some_at _ it.at c.put_record.ensures.all))

pub returns-then-it-id-clause-some : goal.returns-then-it-id-clause-some
returns-then-it-id-clause-some g c =
    let log = log_in c.args.log.now c.args.mem.now in
    let count = (c.held_log_law.ensures.counts c.args.log.now c.args.mem.now c.requires.held).0 in
    let below : c.args.i < length log = omega (arith, c.requires.number, count) in
    let it = noted_at log c.args.i c.entry_at-it.result below c.entry_at-it.ensures in
    let same : it.of.region ≡ c.args.id = sym (ap (λ (n : Noted). n.region) it.same) ∙ c.if-it-id.true in
    some_from _ it.at
    (subst (λ l. OnErr c.put_record.result
    (AppendsPrefix (g.O.Sink.taken c.args.sink.now) (g.O.Sink.taken c.put_record.new.sink) l))
    (lines_here c.args.id c.args.i c.args.auditing.now it.of same) (some_at _ it.at c.put_record.ensures.some))

pub returns-then-it-id-clause-put : goal.returns-then-it-id-clause-put
returns-then-it-id-clause-put g c =
    let log = log_in c.args.log.now c.args.mem.now in
    let count = (c.held_log_law.ensures.counts c.args.log.now c.args.mem.now c.requires.held).0 in
    let below : c.args.i < length log = omega (arith, c.requires.number, count) in
    let it = noted_at log c.args.i c.entry_at-it.result below c.entry_at-it.ensures in
    let same : it.of.region ≡ c.args.id = sym (ap (λ (n : Noted). n.region) it.same) ∙ c.if-it-id.true in
    some_from _ it.at
    (some_at _ it.at c.put_record.ensures.put ∙ bytes_here c.args.id c.args.i c.args.auditing.now it.of same)

pub returns-else-it-id-clause-all : goal.returns-else-it-id-clause-all
returns-else-it-id-clause-all g c =
    let log = log_in c.args.log.now c.args.mem.now in
    let count = (c.held_log_law.ensures.counts c.args.log.now c.args.mem.now c.requires.held).0 in
    let below : c.args.i < length log = omega (arith, c.requires.number, count) in
    let it = noted_at log c.args.i c.entry_at-it.result below c.entry_at-it.ensures in
    let taken = g.O.Sink.taken c.args.sink.now in
    some_from _ it.at
    (subst (Appends taken taken)
    (lines_elsewhere c.args.id c.args.i c.args.auditing.now it.of
    (λ same. c.if-it-id.false (ap (λ (n : Noted). n.region) it.same ∙ same)))
    (Appends-nil taken))

pub returns-else-it-id-clause-put : goal.returns-else-it-id-clause-put
returns-else-it-id-clause-put g c =
    let log = log_in c.args.log.now c.args.mem.now in
    let count = (c.held_log_law.ensures.counts c.args.log.now c.args.mem.now c.requires.held).0 in
    let below : c.args.i < length log = omega (arith, c.requires.number, count) in
    let it = noted_at log c.args.i c.entry_at-it.result below c.entry_at-it.ensures in
    some_from _ it.at
    (bytes_elsewhere c.args.id c.args.i c.args.auditing.now it.of
    (λ same. c.if-it-id.false (ap (λ (n : Noted). n.region) it.same ∙ same)))
