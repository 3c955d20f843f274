use Rattle.std.proofs.Common.{inr}
use Rattle.region_book_tests.proofs.policies.start_log.Goals as goal

pub returns-clause-held : goal.returns-clause-held
returns-clause-held c =
    (c.held_regions_law.ensures.agree c.args.regions.now c.args.mem.now c.start.new.mem c.requires.held c.start.ensures.elsewhere.size
    (λ p low high. c.start.ensures.elsewhere.elsewhere p (inr low))).1
