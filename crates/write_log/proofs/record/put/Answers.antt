use Rattle.std.proofs.Common.{◌+◌, arith, ap, subst, sym, ◌∙◌}
use Rattle.phys_mem.specs.Memory.{stored}
use Rattle.write_log.specs.RecordStores.{IsPut, byte_stores, with_head}
use Rattle.write_log.proofs.PutRecords.{is_put}
use Rattle.write_log.proofs.record.put.Goals as goal

pub returns : goal.returns
unfolding with_head
returns c =
    subst (IsPut c.args.at c.args.number (record { region = c.args.region; offset = c.args.offset; bytes = c.args.bytes.now }) c.args.mem.now)
    (sym (c.put_bytes.ensures ∙ ap (λ m. stored m (byte_stores (c.args.at + 24) c.args.bytes.now)) c.put_head.ensures.head))
    (is_put c.memory_law.ensures c.args.mem.now c.args.at c.args.number c.args.region c.args.offset c.args.bytes.now
    c.requires.room (omega arith) (omega arith) (omega arith) c.requires.count)
