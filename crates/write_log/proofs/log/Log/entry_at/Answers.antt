use Rattle.std.proofs.Common.{Some, ap, sym, ◌∙◌}
use Rattle.std.specs.Option.{option_map}
use Rattle.write_log.specs.LogRecords.{noted}
use Rattle.write_log.proofs.LogWalk.{noted_is}
use Rattle.write_log.proofs.log.Log.entry_at.Goals as goal

pub returns : goal.returns
returns c =
    ap Some
    (noted_is c.args.mem.now c.args.spot.place (record { region = c.region.result; offset = c.offset.result; length = c.count.result })
    c.region.ensures c.offset.ensures (c.count.ensures ∙ sym c.stands.ensures.count))
    ∙ ap (option_map noted) (sym c.stands.ensures.entry)
