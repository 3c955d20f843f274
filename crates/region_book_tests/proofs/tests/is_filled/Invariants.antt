use Rattle.region_book.specs.RegionBytes.{HoldsRegions, book_in}
use Rattle.region_book.specs.RegionRecords.{IsBook}
use Rattle.region_book_tests.proofs.tests.is_filled.Given as goal

abbrev pub invariant-loop-i : goal.invariant-loop-i
invariant-loop-i l = record { held : HoldsRegions l.regions l.mem; book : IsBook (book_in l.regions l.mem) }
