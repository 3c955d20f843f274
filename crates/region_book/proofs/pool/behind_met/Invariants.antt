-- Each multiple of 16 that was passed is taken; where the place stays, no row so far has a byte of the range.
use Rattle.std.proofs.Common.{◌≡◌, ℕ, ◌%◌, ◌<◌, ◌≤◌, false, true, map, take}
use Rattle.std.specs.List.{list_any}
use Rattle.region_book.specs.RegionBytes.{row_in}
use Rattle.region_book.specs.RegionRows.{row_meets}
use Rattle.region_book.proofs.pool.behind_met.Given as goal

abbrev pub invariant-loop-i : goal.invariant-loop-i
invariant-loop-i l = record {
  on : l.place ≤ l.behind;
  most : l.behind ≤ 65536;
  even : l.behind % 16 ≡ 0;
  taken : (q : ℕ) → q % 16 ≡ 0 → l.place ≤ q → q < l.behind → list_any (row_meets l.size q) (map (row_in l.mem) l.slots) ≡ true;
  stays : l.behind ≡ l.place → list_any (row_meets l.size l.place) (take l.i (map (row_in l.mem) l.slots)) ≡ false;
}
