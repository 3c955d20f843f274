use Rattle.std.proofs.Common.{◌+◌, ◌*◌, sym}
use Rattle.asm_text.specs.Skipping.{by_field}
use Rattle.asm_text.proofs.Bests.{best_none, best_step}
use Rattle.asm_text.proofs.search.try_regs.Goals as goal

pub loop-reg-init : goal.loop-reg-init
loop-reg-init c = sym (best_none c.args.instr.now c.args.best.now.items)

pub loop-reg-preserved : goal.loop-reg-preserved
loop-reg-preserved c =
    best_step c.args.instr.now c.args.best.now.items
    (λ reg. by_field c.args.stem.now c.args.form.now c.args.tail.now (8 * c.args.mode + reg)) c.loop-reg.reg
    c.loop-reg.best.items c.try_field.new.best.items c.loop-reg.invariant c.try_field.ensures
