use Rattle.std.proofs.Common.{◌<◌, sym, subst, length, ap, ◌∙◌}
use Rattle.phys_mem.specs.Memory.{byte_at}
use Rattle.region_book.specs.RegionBytes.{book_in}
use Rattle.region_book.proofs.RegionReads.{byte_fits, byte_is, byte_within}
use Rattle.region_book.proofs.regions.Regions.byte.Goals as goal

pub place-requires-clause-offset : goal.place-requires-clause-offset
place-requires-clause-offset c =
    byte_within (book_in c.args.self.now c.args.mem.now) c.args.id c.row.result c.unwrap-row.result c.unwrap-row.ensures c.row.ensures.some
    c.row.ensures.held c.args.offset c.requires.within

pub load8-requires : goal.load8-requires
load8-requires c =
    subst (λ p. p < length c.args.mem.now) (sym c.place.ensures)
    (byte_fits (book_in c.args.self.now c.args.mem.now) c.args.id c.row.result c.unwrap-row.result c.unwrap-row.ensures c.row.ensures.some
    c.row.ensures.held
    (length c.args.mem.now) c.requires.book c.requires.frames c.args.offset
    (byte_within (book_in c.args.self.now c.args.mem.now) c.args.id c.row.result c.unwrap-row.result c.unwrap-row.ensures c.row.ensures.some
    c.row.ensures.held c.args.offset c.requires.within))

pub returns : goal.returns
returns c =
    byte_is (book_in c.args.self.now c.args.mem.now) c.args.id c.row.result c.unwrap-row.result c.unwrap-row.ensures c.row.ensures.some
    c.row.ensures.held c.args.offset
    (byte_at c.args.mem.now) c.load8.result
    (byte_within (book_in c.args.self.now c.args.mem.now) c.args.id c.row.result c.unwrap-row.result c.unwrap-row.ensures c.row.ensures.some
    c.row.ensures.held c.args.offset c.requires.within)
    (c.load8.ensures ∙ ap (byte_at c.args.mem.now) c.place.ensures)
