use Rattle.std.proofs.Common.{sym}
use Rattle.asm_text.specs.Candidates.{by_rex}
use Rattle.asm_text.proofs.Bests.{best_none, best_step}
use Rattle.asm_text.proofs.search.try_each_rex.Goals as goal

pub loop-low-init : goal.loop-low-init
loop-low-init c = sym (best_none c.args.instr.now c.args.best.now.items)

pub loop-low-preserved : goal.loop-low-preserved
loop-low-preserved c =
    best_step c.args.instr.now c.args.best.now.items
    (by_rex c.args.instr.now c.args.map c.args.opcode c.args.row.now c.args.narrow) c.loop-low.low
    c.loop-low.best.items c.try_low.new.best.items c.loop-low.invariant c.try_low.ensures
