use Rattle.std.proofs.Common.{◌<◌, ◌+◌, ◌^◌, arith, subst, sym}
use Rattle.mem_access.proofs.Numbers.{parts_bound, parts_fit, shifted}
use Rattle.mem_access.proofs.bytes.joined.Goals as goal

pub overflow_add-result : goal.overflow_add-result
overflow_add-result c =
    omega (
      arith,
      parts_fit c.args.low c.args.part c.args.high c.args.count c.requires.count.1 c.requires.low c.requires.high,
      shifted c.args.low c.args.part c.args.high c.args.count c.requires.count.1 c.requires.low c.requires.high,
    )

pub returns-clause-value : goal.returns-clause-value
returns-clause-value c = shifted c.args.low c.args.part c.args.high c.args.count c.requires.count.1 c.requires.low c.requires.high

pub returns-clause-bound : goal.returns-clause-bound
returns-clause-bound c =
    subst (λ x. x < 256 ^ (c.args.part + c.args.count)) (sym (returns-clause-value c))
    (parts_bound c.args.low c.args.part c.args.high c.args.count c.requires.low c.requires.high)
