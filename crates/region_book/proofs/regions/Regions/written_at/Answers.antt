use Rattle.std.specs.Prelude.{slice_get}
use Rattle.region_book.specs.RegionBytes.{bits_in, book_in}
use Rattle.region_book.proofs.RegionReads.{written_is}
use Rattle.region_book.proofs.regions.Regions.written_at.Goals as goal

pub returns : goal.returns
returns c =
    written_is (slice_get (book_in c.args.self.now c.args.mem.now).regions c.args.i) c.args.offset c.args.count (bits_in c.args.mem.now)
    c.nth_row-row.result c.requires.within c.nth_row-row.ensures.region c.first_bit.result _ c.first_bit.ensures.first c.any_set.ensures
