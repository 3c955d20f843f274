use Rattle.std.proofs.Common.{[], ap}
use Rattle.region_book.specs.RegionBytes.{RegionIndex}
use Rattle.region_book.proofs.RowReads.{shown_at}
use Rattle.region_book.proofs.regions.Regions.nth.Goals as goal

pub returns : goal.returns
returns c =
    shown_at c.args.self.now c.args.mem.now c.self.inside.slots (ap (λ (index : RegionIndex). index.slots) c.self.view_is)
    c.args.i c.at.result c.row_at.result c.shown.result c.at.ensures.slot c.row_at.ensures (c.shown.ensures [])
