use Rattle.std.proofs.Common.{◌≤◌, ◌+◌, ℕ, length, arith, replicate}
use Rattle.std.proofs.lemmas.List.{length-replicate}
use Rattle.region_book.proofs.RowStores.{zeros_done, zero_more}
use Rattle.region_book.proofs.SeenStores.{books_stay, stores_seen}
use Rattle.region_book.proofs.stores.put_zeros.Goals as goal

pub loop-offset-preserved : goal.loop-offset-preserved
loop-offset-preserved c = record {
  left = zero_more _ c.loop-offset.mem c.store8.new.self c.args.row.now c.place-place.result c.loop-offset.offset
      c.place-place.ensures c.args.row.now.size
      (omega arith) c.store8.ensures.stored c.loop-offset.invariant.left;
  same = omega arith;
}

pub returns-clause-stored : goal.returns-clause-stored
returns-clause-stored c = zeros_done _ c.loop-offset.mem c.args.row.now c.args.row.now.size c.loop-offset.offset
    (omega arith) c.loop-offset.invariant.left

pub returns-clause-seen : goal.returns-clause-seen
returns-clause-seen c =
    let fits : 0 + length (replicate {A = ℕ} c.args.row.now.size 0) ≤ c.args.row.now.size =
    omega (arith, length-replicate {A = ℕ} c.args.row.now.size 0) in
    stores_seen c.args.mem.now c.loop-offset.mem c.args.row.now 0 c.args.row.now.size (replicate c.args.row.now.size 0)
    fits c.requires.apart (returns-clause-stored c) c.mask_law.ensures.stored_seen c.loop-offset.invariant.same

pub returns-clause-others : goal.returns-clause-others
returns-clause-others c =
    let fits : 0 + length (replicate {A = ℕ} c.args.row.now.size 0) ≤ c.args.row.now.size =
    omega (arith, length-replicate {A = ℕ} c.args.row.now.size 0) in
    books_stay c.args.mem.now c.loop-offset.mem c.args.row.now 0 c.args.row.now.size (replicate c.args.row.now.size 0)
    fits c.requires.apart (returns-clause-stored c) c.memory_law.ensures.byte_elsewhere
