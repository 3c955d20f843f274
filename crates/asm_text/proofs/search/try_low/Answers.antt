use Rattle.std.proofs.Common.{ap, sym, ◌∙◌}
use Rattle.asm_text.specs.Candidates.{by_rex}
use Rattle.asm_text.specs.Skipping.{rex_may_fit}
use Rattle.asm_text.proofs.RexSkips.{rex_none}
use Rattle.asm_text.proofs.Skips.{none_kept}
use Rattle.asm_text.proofs.search.try_low.Goals as goal

pub returns-else-rex_may_fit : goal.returns-else-rex_may_fit
returns-else-rex_may_fit c =
    none_kept c.args.instr.now c.args.best.now.items
    (by_rex c.args.instr.now c.args.map c.args.opcode c.args.row.now c.args.narrow c.args.low)
    (rex_none c.args.instr.now c.args.map c.args.opcode c.args.row.now c.args.narrow c.args.low c.requires.small
    (ap (λ b. rex_may_fit b c.args.low) (sym c.requires.bits) ∙ (sym c.rex_may_fit.ensures ∙ c.if-rex_may_fit.false)))
