use Rattle.std.proofs.Common.{get_or, ◌+◌, ◌%◌, length, arith, sym, ◌∙◌}
use Rattle.mem_access.proofs.Spans.{apart_from, target_of_one, bytes_fit}
use Rattle.mem_access.proofs.window.Window.write_elsewhere.Goals as goal

pub returns-in-Some-clause-target : goal.returns-in-Some-clause-target
returns-in-Some-clause-target c =
    target_of_one (length c.args.mem.now) c.args.va c.args.width (c.in-Some.page.base + c.args.va % 4096)
    (omega (arith, c.in-Some.ensures.kept.base)) (omega (arith, c.in-Some.ensures.kept.inside)) (sym c.crosses.ensures ∙ c.if-crosses.false)

pub returns-in-Some-clause-fits : goal.returns-in-Some-clause-fits
returns-in-Some-clause-fits c =
    bytes_fit (length c.args.mem.now) c.args.va c.args.width (c.in-Some.page.base + c.args.va % 4096)
    (omega (arith, c.in-Some.ensures.kept.inside)) (sym c.crosses.ensures ∙ c.if-crosses.false)

pub returns-in-Some-clause-apart : goal.returns-in-Some-clause-apart
returns-in-Some-clause-apart c = λ i few.
    apart_from c.in-Some.page.base (get_or c.args.self.now.off i 0) c.args.va c.args.width c.in-Some.ensures.kept.base (c.requires.window.off i)
    (c.is_off.ensures c.if-not-is_off.true i few) (sym c.crosses.ensures ∙ c.if-crosses.false)
