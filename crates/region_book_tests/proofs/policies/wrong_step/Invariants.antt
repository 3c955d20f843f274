use Rattle.region_book.specs.RegionBytes.{HoldsRegions, book_in}
use Rattle.region_book.specs.RegionRecords.{IsBook}
use Rattle.write_log.specs.LogBytes.{HoldsLog}
use Rattle.region_book_tests.proofs.policies.wrong_step.Given as goal

abbrev pub invariant-loop-index : goal.invariant-loop-index
invariant-loop-index l = record {
  held : HoldsRegions l.regions l.mem;
  held_log : HoldsLog l.log l.mem;
  book : IsBook (book_in l.regions l.mem);
}
