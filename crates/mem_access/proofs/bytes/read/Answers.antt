use Rattle.std.proofs.Common.{◌≡◌, ◌+◌, ◌-◌, ◌^◌, ◌<◌, arith, subst, sym, ◌∙◌}
use Rattle.mem_access.proofs.Numbers.{whole_value}
use Rattle.mem_access.proofs.Spans.{part_whole, part_less}
use Rattle.mem_access.proofs.bytes.read.Goals as goal

pub number-requires-clause-inside : goal.number-requires-clause-inside
number-requires-clause-inside c =
    omega (arith, c.requires.target.first_fits, part_whole c.args.va c.args.width (sym c.crosses.ensures ∙ c.if-not-crosses.true))

pub returns-then-not-crosses-clause-value : goal.returns-then-not-crosses-clause-value
returns-then-not-crosses-clause-value c =
    let whole = part_whole c.args.va c.args.width (sym c.crosses.ensures ∙ c.if-not-crosses.true) in
    whole_value c.args.mem.now c.args.va c.args.width c.args.width c.args.target.now (sym whole) c.number.result (omega arith) c.number.ensures.value

pub number-high-requires-clause-inside : goal.number-high-requires-clause-inside
number-high-requires-clause-inside c =
    let less : c.first_part-part.result < c.args.width = omega (arith, part_less c.args.va c.args.width (sym c.crosses.ensures ∙ c.if-not-crosses.false)) in
    omega (arith, c.requires.target.second_fits (omega arith))

pub joined-requires-clause-count : goal.joined-requires-clause-count
joined-requires-clause-count c =
    let less : c.first_part-part.result < c.args.width = omega (arith, part_less c.args.va c.args.width (sym c.crosses.ensures ∙ c.if-not-crosses.false)) in
    (omega arith, omega arith)

pub returns-clause-bound : goal.returns-clause-bound
returns-clause-bound c =
    let all : c.first_part-part.result + (c.args.width - c.first_part-part.result) ≡ c.args.width = omega arith in
    subst (λ n. c.joined.result < 256 ^ n) all c.joined.ensures.bound
