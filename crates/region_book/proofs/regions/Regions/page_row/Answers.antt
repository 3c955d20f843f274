use Rattle.std.proofs.Common.{ap, sym, ◌∙◌}
use Rattle.region_book.specs.RegionBytes.{RegionIndex}
use Rattle.region_book.proofs.DeclaredRegions.{page_row_is}
use Rattle.region_book.proofs.regions.Regions.page_row.Goals as goal

pub returns-clause-region : goal.returns-clause-region
returns-clause-region c = λ book next.
    page_row_is book c.self.inside.next c.args.va c.args.size c.args.policy c.self.inside.declared
    c.args.pages.now.count c.args.pages.now.frames (ap (λ (index : RegionIndex). index.next) c.self.view_is ∙ sym next)
    c.requires.whole
