use Rattle.std.proofs.Common.{sym, ◌∙◌, arith}
use Rattle.gate_state.specs.MachineOf.{whole_of}
use Rattle.memory_sights.proofs.SightsFound.{linear_found, linear_nowhere}
use Rattle.memory_sights.proofs.seen.byte_linear.Goals as goal

-- the address isn't canonical
pub returns-then-not-canonical : goal.returns-then-not-canonical
returns-then-not-canonical c =
    linear_nowhere (whole_of c.args.machine.now).state c.args.cpl c.args.va (omega arith)
    (sym c.canonical.ensures.value ∙ c.if-not-canonical.true)

-- the translation of the page was judged
pub returns : goal.returns
returns c =
    c.byte_for.ensures
    ∙ linear_found (whole_of c.args.machine.now).state c.args.cpl c.args.va c.leaf_at-leaf.result (omega arith)
    (sym c.canonical.ensures.value ∙ c.if-not-canonical.false) c.leaf_at-leaf.ensures.found
