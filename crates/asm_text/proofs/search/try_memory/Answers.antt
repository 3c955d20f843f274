use Rattle.std.proofs.Common.{◌+◌, ◌*◌, sym}
use Rattle.asm_text.specs.Candidates.{by_modrm}
use Rattle.asm_text.proofs.Bests.{best_none, best_step}
use Rattle.asm_text.proofs.search.try_memory.Goals as goal

pub loop-rm-init : goal.loop-rm-init
loop-rm-init c = sym (best_none c.args.instr.now c.args.best.now.items)

pub loop-rm-preserved : goal.loop-rm-preserved
loop-rm-preserved c =
    best_step c.args.instr.now c.args.best.now.items
    (λ rm. by_modrm c.args.stem.now c.args.form.now c.args.tail.now (8 * c.args.field + rm)) c.loop-rm.rm
    c.loop-rm.best.items c.try_rm.new.best.items c.loop-rm.invariant c.try_rm.ensures
