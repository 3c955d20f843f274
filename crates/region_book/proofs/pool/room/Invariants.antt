-- Each multiple of 16 below the place is taken, and a round passes one at least.
use Rattle.std.proofs.Common.{◌≡◌, ℕ, ◌*◌, ◌%◌, ◌<◌, ◌≤◌, true, map}
use Rattle.std.specs.List.{list_any}
use Rattle.region_book.specs.RegionBytes.{row_in}
use Rattle.region_book.specs.RegionRows.{row_meets}
use Rattle.region_book.proofs.pool.room.Given as goal

abbrev pub invariant-loop-round : goal.invariant-loop-round
invariant-loop-round l = record {
  most : l.place ≤ 65536;
  even : l.place % 16 ≡ 0;
  far : 16 * l._round ≤ l.place;
  taken : (q : ℕ) → q % 16 ≡ 0 → q < l.place → list_any (row_meets l.size q) (map (row_in l.mem) l.slots) ≡ true;
}
