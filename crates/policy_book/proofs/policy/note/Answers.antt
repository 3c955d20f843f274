use Rattle.std.proofs.Common.{inr}
use Rattle.policy_book.proofs.policy.note.Goals as goal

pub returns-clause-book : goal.returns-clause-book
returns-clause-book c =
    (c.held_regions_law.ensures.agree c.args.regions.now c.args.mem.now c.add.new.mem c.requires.held c.add.ensures.elsewhere.size
    (λ p low high. c.add.ensures.elsewhere.elsewhere p (inr low))).0

pub returns-clause-held : goal.returns-clause-held
returns-clause-held c =
    (c.held_regions_law.ensures.agree c.args.regions.now c.args.mem.now c.add.new.mem c.requires.held c.add.ensures.elsewhere.size
    (λ p low high. c.add.ensures.elsewhere.elsewhere p (inr low))).1
