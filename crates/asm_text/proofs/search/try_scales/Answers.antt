use Rattle.std.proofs.Common.{sym}
use Rattle.asm_text.specs.Candidates.{by_scale}
use Rattle.asm_text.proofs.Bests.{best_none, best_step}
use Rattle.asm_text.proofs.search.try_scales.Goals as goal

pub loop-scale-init : goal.loop-scale-init
loop-scale-init c = sym (best_none c.args.instr.now c.args.best.now.items)

pub loop-scale-preserved : goal.loop-scale-preserved
loop-scale-preserved c =
    best_step c.args.instr.now c.args.best.now.items
    (by_scale c.args.stem.now c.args.form.now c.args.tail.now c.args.modrm) c.loop-scale.scale
    c.loop-scale.best.items c.try_scale.new.best.items c.loop-scale.invariant c.try_scale.ensures
