use Rattle.std.proofs.Common.{arith, map, sym}
use Rattle.region_book.specs.RegionBytes.{row_in}
use Rattle.region_book.proofs.PoolPlaces.{no_room, room_found}
use Rattle.region_book.proofs.pool.room.Goals as goal

pub returns-then-place-size-gt-POOL_SIZE-clause-room : goal.returns-then-place-size-gt-POOL_SIZE-clause-room
returns-then-place-size-gt-POOL_SIZE-clause-room c =
    λ bits. sym (no_room bits (map (row_in c.args.mem.now) c.args.slots.now) c.args.size c.loop-round.place c.loop-round.invariant.taken
    c.if-place-size-gt-POOL_SIZE.true)

pub returns-clause-room : goal.returns-clause-room
returns-clause-room c =
    λ bits. sym (no_room bits (map (row_in c.args.mem.now) c.args.slots.now) c.args.size c.loop-round.place c.loop-round.invariant.taken
    (omega arith))

pub returns-then-behind-place-clause-room : goal.returns-then-behind-place-clause-room
returns-then-behind-place-clause-room c =
    λ bits. sym (room_found bits (map (row_in c.args.mem.now) c.args.slots.now) c.args.size c.loop-round.place c.loop-round.invariant.taken
    c.loop-round.invariant.even (omega arith) (omega arith) (c.behind_met-behind.ensures.stays c.if-behind-place.true))
