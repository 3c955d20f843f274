use Rattle.std.proofs.Common.{sym, ◌∙◌}
use Rattle.exec_quick.proofs.kept.load.Goals as goal

pub returns-clause-value : goal.returns-clause-value
returns-clause-value c =
    c.kept_number.ensures.value
    ∙ sym (c.one_page_law.ensures.value c.args.mem.now c.args.va c.args.bytes (record { first = c.args.place; second = 0 }) c.requires.one)
