use Rattle.std.proofs.Common.{arith, ap, length}
use Rattle.region_book.specs.RegionBytes.{RegionIndex}
use Rattle.region_book.proofs.PlaceFound.{region_here}
use Rattle.region_book.proofs.RowReads.{row_stands_held}
use Rattle.region_book.proofs.regions.Regions.nth_row.Goals as goal

pub returns-clause-held : goal.returns-clause-held
returns-clause-held c =
    row_stands_held c.args.self.now c.args.mem.now c.self.inside.slots (ap (λ (index : RegionIndex). index.slots) c.self.view_is)
    c.args.i c.at.result (omega (arith, c.requires.number, ap (λ (index : RegionIndex). length index.slots) c.self.view_is)) c.at.ensures.index c.row_at.result c.row_at.ensures c.requires.held

pub returns-clause-region : goal.returns-clause-region
returns-clause-region c =
    region_here c.args.self.now c.args.mem.now c.self.inside.slots (ap (λ (index : RegionIndex). index.slots) c.self.view_is)
    c.args.i c.at.result c.row_at.result (omega (arith, c.requires.number, ap (λ (index : RegionIndex). length index.slots) c.self.view_is)) c.at.ensures.index c.row_at.ensures
