use Rattle.std.proofs.Common.{sym, ◌∙◌}
use Rattle.asm_text.specs.Skipping.{by_mode}
use Rattle.asm_text.proofs.ModRmSkips.{mode_none}
use Rattle.asm_text.proofs.Skips.{none_kept}
use Rattle.asm_text.proofs.search.try_mode.Goals as goal

pub returns-else-mode_may_fit : goal.returns-else-mode_may_fit
returns-else-mode_may_fit c =
    none_kept c.args.instr.now c.args.best.now.items (by_mode c.args.stem.now c.args.form.now c.args.tail.now c.args.mode)
    (mode_none c.args.stem.now c.args.form.now c.args.tail.now c.args.mode (sym c.mode_may_fit.ensures ∙ c.if-mode_may_fit.false))
