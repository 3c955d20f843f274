use Rattle.mem_access.proofs.Lent.{lent_run}
use Rattle.mem_access.proofs.bytes.lend.Goals as goal

pub returns-clause-bytes : goal.returns-clause-bytes
returns-clause-bytes c =
    lent_run c.args.mem.now c.frame-page.result.now c.args.va c.args.place c.min-count.result c.requires.agrees c.frame-page.ensures.bytes c.min-count.ensures
