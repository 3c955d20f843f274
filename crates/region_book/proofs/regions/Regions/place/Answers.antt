use Rattle.region_book.specs.RegionBytes.{book_in}
use Rattle.region_book.proofs.RegionReads.{byte_is, byte_within}
use Rattle.region_book.proofs.regions.Regions.place.Goals as goal

pub place-requires-clause-offset : goal.place-requires-clause-offset
place-requires-clause-offset c =
    byte_within (book_in c.args.self.now c.args.mem.now) c.args.id c.row.result c.unwrap.result c.unwrap.ensures c.row.ensures.some
    c.row.ensures.held c.args.offset c.requires.within

pub returns : goal.returns
returns c =
    byte_is (book_in c.args.self.now c.args.mem.now) c.args.id c.row.result c.unwrap.result c.unwrap.ensures c.row.ensures.some
    c.row.ensures.held c.args.offset
    (λ p. p) c.place.result
    (byte_within (book_in c.args.self.now c.args.mem.now) c.args.id c.row.result c.unwrap.result c.unwrap.ensures c.row.ensures.some
    c.row.ensures.held c.args.offset c.requires.within)
    c.place.ensures
