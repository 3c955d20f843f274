use Rattle.std.proofs.Common.{ap}
use Rattle.region_book.specs.RegionBytes.{RegionIndex}
use Rattle.region_book.proofs.PlaceFound.{none_found, some_found}
use Rattle.region_book.proofs.regions.Regions.position.Goals as goal

pub returns-clause-none : goal.returns-clause-none
returns-clause-none c =
    none_found c.args.self.now c.args.mem.now c.self.inside.slots (ap (λ (index : RegionIndex). index.slots) c.self.view_is)
    c.locate.result c.args.id c.locate.ensures.none

pub returns-clause-some : goal.returns-clause-some
returns-clause-some c =
    some_found c.args.self.now c.args.mem.now c.self.inside.slots (ap (λ (index : RegionIndex). index.slots) c.self.view_is)
    c.locate.result c.args.id c.locate.ensures.some
