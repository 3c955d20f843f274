use Rattle.std.proofs.Common.{◌/◌, length, inl}
use Rattle.region_book_tests.proofs.LogFrames.{log_place}
use Rattle.region_book_tests.proofs.policies.allocate.Goals as goal

pub returns-in-Ok-clause-held_log : goal.returns-in-Ok-clause-held_log
returns-in-Ok-clause-held_log c =
    (c.held_log_law.ensures.agree c.args.log.now c.args.mem.now c.alloc.new.mem c.requires.held_log c.alloc.ensures.size
    (λ p low high. c.alloc.ensures.others p (log_place (length c.args.mem.now / 4096) p low high) (inl high))).1
