use Rattle.std.proofs.Common.{sym, ◌∙◌, arith}
use Rattle.step_trace.proofs.ToldPlaces.{no_place, place_kept}
use Rattle.step_trace.proofs.code.code_place.Goals as goal

-- the address isn't canonical
pub returns-then-not-canonical-clause-place : goal.returns-then-not-canonical-clause-place
returns-then-not-canonical-clause-place c =
    sym (no_place c.args.cpu.now c.args.mem.now c.args.va (omega arith) (sym c.canonical.ensures.value ∙ c.if-not-canonical.true))

-- the translation of the page was judged
pub returns-clause-place : goal.returns-clause-place
returns-clause-place c =
    place_kept c.args.cpu.now c.args.mem.now c.args.va c.control-control.result.now c.regs.result.now c.tlb.result.now c.look_up-leaf.result c.place_for.result
    (omega arith) (sym c.canonical.ensures.value ∙ c.if-not-canonical.false) c.control-control.ensures c.regs.ensures c.tlb.ensures
    c.look_up-leaf.ensures.found c.place_for.ensures.place
