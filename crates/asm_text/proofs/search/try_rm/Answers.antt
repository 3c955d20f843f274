use Rattle.std.proofs.Common.{sym, ◌∙◌}
use Rattle.asm_text.proofs.AddressSkips.{rm_kept}
use Rattle.asm_text.proofs.search.try_rm.Goals as goal

pub returns-else-rm_may_fit : goal.returns-else-rm_may_fit
returns-else-rm_may_fit c =
    rm_kept c.decoding_law.ensures c.args.instr.now c.args.stem.now c.requires.begun c.args.form.now c.args.tail.now
    c.requires.operand c.requires.formed c.args.best.now.items c.args.field c.args.rm c.requires.small
    (sym c.rm_may_fit.ensures ∙ c.if-rm_may_fit.false)
