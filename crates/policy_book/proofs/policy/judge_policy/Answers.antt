use Rattle.write_log.specs.LogBytes.{log_in}
use Rattle.std.proofs.Common.{◌≡◌, ◌+◌, nat_lt, arith, ap, ◌∙◌}
use Rattle.std.specs.Bool.{then_some}
use Rattle.nk_bits.specs.declared.rule.Rule.TheVariants.{LogFull}
use Rattle.write_log.specs.LogRecords.{room_of}
use Rattle.policy_book.proofs.Writes.{append_rule, closed_rule, log_rule, once_rule, other_rule}
use Rattle.policy_book.proofs.policy.judge_policy.Goals as goal

pub returns-in-1 : goal.returns-in-1
returns-in-1 c = c.then_some.ensures ∙ once_rule (log_in c.args.log.now c.args.mem.now) c.args.offset c.args.count _ c.args.live.now.region c.written_at.result c.requires.found c.in-1.is c.written_at.ensures

pub returns-in-2 : goal.returns-in-2
returns-in-2 c = c.then_some-in-2.ensures ∙ append_rule (log_in c.args.log.now c.args.mem.now) c.args.offset c.args.count _ c.args.live.now.region c.requires.found c.in-2.is

pub returns-in-3 : goal.returns-in-3
returns-in-3 c = closed_rule (log_in c.args.log.now c.args.mem.now) c.args.offset c.args.count _ c.args.live.now.region c.requires.found c.in-3.is

pub returns-in-4 : goal.returns-in-4
returns-in-4 c =
    let sum : 24 + c.from.result ≡ 24 + c.args.count = ap (λ n. 24 + n) c.from.ensures in
    c.then_some-in-4.ensures
    ∙ ap (λ n. then_some (nat_lt n (24 + c.from.result)) LogFull) (c.room.ensures.room c.args.mem.now c.requires.held_log)
    ∙ ap (λ n. then_some (nat_lt (room_of (log_in c.args.log.now c.args.mem.now)) n) LogFull) sum
    ∙ log_rule (log_in c.args.log.now c.args.mem.now) c.args.offset c.args.count _ c.args.live.now.region c.requires.found c.in-4.is

pub returns-in_default : goal.returns-in_default
returns-in_default c =
    other_rule (log_in c.args.log.now c.args.mem.now) c.args.offset c.args.count _ c.args.live.now.region c.requires.found (omega arith) (omega arith) (omega arith) (omega arith)
