use Rattle.std.proofs.Common.{◌≡◌, ◌+◌, ◌<◌, IfSome, length, slice_index, arith, subst, sym, ap, ◌∙◌}
use Rattle.phys_mem.specs.Memory.{byte_at}
use Rattle.write_log.specs.LogBytes.{record_at}
use Rattle.write_log.specs.LogRecords.{LogRecord}
use Rattle.write_log.proofs.LogWalk.{record_byte}
use Rattle.write_log.proofs.log.Log.byte_at.Goals as goal

pub returns : goal.returns
returns c =
    let inside : c.args.at < length (record_at c.args.mem.now c.args.spot.place).bytes =
    subst (λ o. IfSome o (λ (it : LogRecord). c.args.at < length it.bytes)) c.stands.ensures.entry c.requires.at in
    subst (λ o. IfSome o (λ (it : LogRecord). c.load8.result ≡ slice_index it.bytes c.args.at)) (sym c.stands.ensures.entry)
    (c.load8.ensures ∙ ap (λ k. byte_at c.args.mem.now (c.args.spot.place + 24 + k)) c.from.ensures
    ∙ record_byte c.args.mem.now c.args.spot.place c.args.at (omega (arith, inside, c.stands.ensures.count)))
