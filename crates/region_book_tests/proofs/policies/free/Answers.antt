use Rattle.std.proofs.Common.{inl}
use Rattle.region_book_tests.proofs.policies.free.Goals as goal

pub returns-clause-held_log : goal.returns-clause-held_log
returns-clause-held_log c =
    (c.held_log_law.ensures.agree c.args.log.now c.args.mem.now c.free.new.mem c.requires.held_log c.free.ensures.elsewhere.size
    (λ p low high. c.free.ensures.elsewhere.elsewhere p (inl high))).1
