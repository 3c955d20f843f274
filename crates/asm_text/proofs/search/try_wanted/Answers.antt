use Rattle.std.proofs.Common.{ap, sym, ◌∙◌}
use Rattle.asm_text.specs.Candidates.{best_of}
use Rattle.asm_text.specs.Skipping.{by_mode}
use Rattle.asm_text.proofs.ModRmSkips.{mode_one, mode_past}
use Rattle.asm_text.proofs.Skips.{none_kept}
use Rattle.asm_text.proofs.search.try_wanted.Goals as goal

pub returns-then-reg-lt8 : goal.returns-then-reg-lt8
returns-then-reg-lt8 c =
    c.try_field.ensures
    ∙ ap (best_of c.args.instr.now c.args.best.now.items)
    (sym (mode_one c.args.stem.now c.args.form.now c.args.tail.now c.in-Some.reg c.args.mode c.in-Some.is c.if-reg-lt8.true))

pub returns-else-reg-lt8 : goal.returns-else-reg-lt8
returns-else-reg-lt8 c =
    none_kept c.args.instr.now c.args.best.now.items (by_mode c.args.stem.now c.args.form.now c.args.tail.now c.args.mode)
    (mode_past c.args.stem.now c.args.form.now c.args.tail.now c.in-Some.reg c.args.mode c.in-Some.is c.if-reg-lt8.false)
