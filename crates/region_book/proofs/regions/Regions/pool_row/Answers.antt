use Rattle.std.proofs.Common.{ap, arith, sym, ◌∙◌}
use Rattle.region_book.specs.RegionBytes.{RegionIndex}
use Rattle.region_book.proofs.PoolRegions.{pool_row_is}
use Rattle.region_book.proofs.regions.Regions.pool_row.Goals as goal

pub returns-clause-region : goal.returns-clause-region
returns-clause-region c = λ book next.
    pool_row_is book c.self.inside.next c.args.place _ c.args.size c.args.policy 0 _
    (ap (λ (index : RegionIndex). index.next) c.self.view_is ∙ sym next) (omega arith)
