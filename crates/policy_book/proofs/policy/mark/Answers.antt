use Rattle.std.proofs.Common.{◌/◌, length, inl}
use Rattle.policy_book.proofs.OtherBooks.{log_place}
use Rattle.policy_book.proofs.policy.mark.Goals as goal

pub returns-clause-log : goal.returns-clause-log
returns-clause-log c =
    (c.held_log_law.ensures.agree c.args.log.now c.args.mem.now c.mark_at.new.mem c.requires.held_log c.mark_at.ensures.size
    (λ p low high. c.mark_at.ensures.others p (log_place (length c.args.mem.now / 4096) p low high) (inl high))).0

pub returns-clause-held_log : goal.returns-clause-held_log
returns-clause-held_log c =
    (c.held_log_law.ensures.agree c.args.log.now c.args.mem.now c.mark_at.new.mem c.requires.held_log c.mark_at.ensures.size
    (λ p low high. c.mark_at.ensures.others p (log_place (length c.args.mem.now / 4096) p low high) (inl high))).1

pub returns-clause-logs : goal.returns-clause-logs
returns-clause-logs c = λ p low high. c.mark_at.ensures.others p (log_place (length c.args.mem.now / 4096) p low high) (inl high)
