use Rattle.std.proofs.Common.{rules, length, subst, sym}
use Rattle.cpu_step.specs.CodeLines.{code_number}
use Rattle.cpu_step.specs.KeptFetches.{LiesOnPage}
use Rattle.cpu_step.proofs.lines.renew_line.Goals as goal

pub ahead-requires : goal.ahead-requires
ahead-requires c =
    let code = c.code_for-code.result.now in
    let lies : LiesOnPage (length c.args.mem.now) code =
    subst (LiesOnPage (length c.args.mem.now)) (sym (c.code_for-code.ensures code)) (c.requires.codes (code_number c.args.at) code (search rules)) in
    record { page = lies.page }

pub replace_line-requires-clause-lies : goal.replace_line-requires-clause-lies
replace_line-requires-clause-lies c =
    let code = c.code_for-code.result.now in
    subst (LiesOnPage (length c.args.mem.now)) (sym (c.code_for-code.ensures code)) (c.requires.codes (code_number c.args.at) code (search rules))
