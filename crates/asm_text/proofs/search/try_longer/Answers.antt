use Rattle.std.proofs.Common.{◌≡◌, ℕ, ◌+◌, ap, sym, ◌∙◌, arith}
use Rattle.asm_text.specs.Skipping.{by_each_rex, is_behind, narrow_length, row_least}
use Rattle.asm_text.proofs.RowLengths.{each_rex_begins}
use Rattle.asm_text.proofs.Skips.{behind_kept}
use Rattle.asm_text.proofs.search.try_longer.Goals as goal

pub returns-then-is_behind : goal.returns-then-is_behind
returns-then-is_behind c =
    let least : ℕ = row_least c.args.map c.args.row.now.shape c.args.instr.now + narrow_length c.args.narrow + 1 in
    let same : least ≡ c.args.least + c.narrow_length.result + 1 = omega (arith, c.requires.least, c.narrow_length.ensures.value) in
    behind_kept c.args.instr.now c.args.best.now.items least
    (by_each_rex c.args.instr.now c.args.map c.args.opcode c.args.row.now c.args.narrow)
    (ap (is_behind c.args.best.now.items) same ∙ (sym c.is_behind.ensures ∙ c.if-is_behind.true))
    (each_rex_begins c.args.instr.now c.args.map c.args.opcode c.args.row.now c.args.narrow)
