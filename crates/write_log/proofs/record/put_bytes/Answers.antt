use Rattle.std.proofs.Common.{◌<◌, arith}
use Rattle.phys_mem.specs.Memory.{byte_at}
use Rattle.write_log.proofs.RecordBytes.{byte_more, bytes_done}
use Rattle.write_log.proofs.record.put_bytes.Goals as goal

pub loop-i-preserved : goal.loop-i-preserved
loop-i-preserved c =
    let small : byte_at c.args.bytes.now c.loop-i.i < 256 = omega (arith, c.type_inv.bytes c.loop-i.i) in
    record {
      left = byte_more _ c.loop-i.mem c.store8.new.self c.args.at c.loop-i.i c.args.bytes.now (omega arith) small c.store8.ensures.stored c.loop-i.invariant.left;
      same = omega arith;
    }

pub returns : goal.returns
returns c = bytes_done _ c.loop-i.mem c.args.at c.loop-i.i c.args.bytes.now (omega arith) c.loop-i.invariant.left
