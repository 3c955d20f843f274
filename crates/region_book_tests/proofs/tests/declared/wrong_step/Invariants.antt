use Rattle.page_desc.specs.DescriptorBytes.{HoldsDescriptors}
use Rattle.region_book.specs.RegionBytes.{HoldsRegions, book_in}
use Rattle.region_book.specs.RegionRecords.{IsBook}
use Rattle.region_book_tests.proofs.tests.declared.wrong_step.Given as goal

abbrev pub invariant-loop-index : goal.invariant-loop-index
invariant-loop-index l = record {
  regions : HoldsRegions l.regions l.mem;
  book : IsBook (book_in l.regions l.mem);
  held : HoldsDescriptors l.frames l.mem;
}
