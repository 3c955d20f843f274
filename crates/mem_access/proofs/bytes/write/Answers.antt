use Rattle.std.proofs.Common.{◌<◌, arith, sym, ◌∙◌}
use Rattle.mem_access.proofs.Numbers.{one_part, two_parts}
use Rattle.mem_access.proofs.Spans.{part_whole, part_less}
use Rattle.mem_access.proofs.bytes.write.Goals as goal

pub put-requires : goal.put-requires
put-requires c = omega (arith, c.requires.target.first_fits, part_whole c.args.va c.args.width (sym c.crosses.ensures ∙ c.if-not-crosses.true))

pub returns-then-not-crosses-clause-stored : goal.returns-then-not-crosses-clause-stored
returns-then-not-crosses-clause-stored c =
    let whole = part_whole c.args.va c.args.width (sym c.crosses.ensures ∙ c.if-not-crosses.true) in
    one_part c.args.mem.now c.args.va c.args.width c.args.width c.args.target.now (sym whole) c.memory_law.ensures.append
    c.put.new.mem c.args.value (omega arith) c.put.ensures.stored

pub rest-requires : goal.rest-requires
rest-requires c = omega (arith, part_less c.args.va c.args.width (sym c.crosses.ensures ∙ c.if-not-crosses.false))

pub put-requires-3 : goal.put-requires-3
put-requires-3 c =
    let less : c.first_part-part.result < c.args.width = omega (arith, part_less c.args.va c.args.width (sym c.crosses.ensures ∙ c.if-not-crosses.false)) in
    omega (arith, c.requires.target.second_fits (omega arith), c.put-2.ensures.length)

pub returns-clause-stored : goal.returns-clause-stored
returns-clause-stored c =
    two_parts c.args.mem.now c.args.va c.args.width c.first_part-part.result c.args.target.now c.first_part-part.ensures.part c.memory_law.ensures.append
    c.put-2.new.mem c.put-3.new.mem c.args.value c.rest.result c.rest.ensures
    c.put-2.ensures.stored c.put-3.ensures.stored
