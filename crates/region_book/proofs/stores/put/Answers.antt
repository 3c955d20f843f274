use Rattle.std.proofs.Common.{◌<◌, ◌+◌, arith, refl, slice_index}
use Rattle.region_book.proofs.RowStores.{bytes_done, byte_more}
use Rattle.region_book.proofs.SeenStores.{books_stay, stores_seen}
use Rattle.region_book.proofs.stores.put.Goals as goal

pub loop-i-preserved : goal.loop-i-preserved
loop-i-preserved c =
    let small : slice_index c.args.bytes.now c.loop-i.i < 256 = omega (arith, c.type_inv.bytes c.loop-i.i) in
    record {
      left = byte_more _ c.loop-i.mem c.store8.new.self c.args.row.now c.place-place.result
          (c.args.offset + c.loop-i.i) c.place-place.ensures c.args.offset c.loop-i.i c.args.bytes.now _
          refl (omega arith) refl small c.store8.ensures.stored c.loop-i.invariant.left;
      same = omega arith;
    }

pub returns-clause-stored : goal.returns-clause-stored
returns-clause-stored c = bytes_done _ c.loop-i.mem c.args.row.now c.args.offset c.loop-i.i c.args.bytes.now
    (omega arith) c.loop-i.invariant.left

pub returns-clause-seen : goal.returns-clause-seen
returns-clause-seen c =
    stores_seen c.args.mem.now c.loop-i.mem c.args.row.now c.args.offset c.args.row.now.size c.args.bytes.now
    c.requires.within c.requires.apart (returns-clause-stored c) c.mask_law.ensures.stored_seen c.loop-i.invariant.same

pub returns-clause-others : goal.returns-clause-others
returns-clause-others c =
    books_stay c.args.mem.now c.loop-i.mem c.args.row.now c.args.offset c.args.row.now.size c.args.bytes.now
    c.requires.within c.requires.apart (returns-clause-stored c) c.memory_law.ensures.byte_elsewhere
