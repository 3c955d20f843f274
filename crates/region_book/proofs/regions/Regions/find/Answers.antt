use Rattle.std.proofs.Common.{ap, sym, ◌∙◌}
use Rattle.std.specs.Prelude.{Some, option_map}
use Rattle.region_book.specs.RegionRecords.{shown_region}
use Rattle.region_book.proofs.regions.Regions.find.Goals as goal

pub returns-in-Some : goal.returns-in-Some
returns-in-Some c = ap Some (c.shown.ensures c.in-Some.ensures.some.0)
    ∙ ap (option_map shown_region) (sym c.in-Some.ensures.some.1)
