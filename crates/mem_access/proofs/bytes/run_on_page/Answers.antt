use Rattle.mem_access.proofs.Lent.{run_lent}
use Rattle.mem_access.proofs.bytes.run_on_page.Goals as goal

pub returns-clause-bytes : goal.returns-clause-bytes
returns-clause-bytes c = run_lent c.args.mem.now c.frame-page.result.now c.args.place c.args.count c.requires.page c.frame-page.ensures.bytes
