use Rattle.std.proofs.Common.{◌≡◌, ℕ, ◌+◌, ap, sym, ◌∙◌, arith}
use Rattle.asm_text.specs.Candidates.{by_rexes}
use Rattle.asm_text.specs.Skipping.{is_behind, narrow_length, row_least}
use Rattle.asm_text.proofs.RowLengths.{rexes_begin}
use Rattle.asm_text.proofs.Skips.{behind_kept}
use Rattle.asm_text.proofs.search.try_rexes.Goals as goal

pub returns-then-is_behind : goal.returns-then-is_behind
returns-then-is_behind c =
    let least : ℕ = row_least c.args.map c.args.row.now.shape c.args.instr.now + narrow_length c.args.narrow in
    let same : least ≡ c.args.least + c.narrow_length.result = omega (arith, c.requires.least, c.narrow_length.ensures.value) in
    behind_kept c.args.instr.now c.args.best.now.items least
    (by_rexes c.args.instr.now c.args.map c.args.opcode c.args.row.now c.args.narrow)
    (ap (is_behind c.args.best.now.items) same ∙ (sym c.is_behind.ensures ∙ c.if-is_behind.true))
    (rexes_begin c.args.instr.now c.args.map c.args.opcode c.args.row.now c.args.narrow)
