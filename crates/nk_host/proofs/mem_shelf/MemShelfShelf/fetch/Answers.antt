use Rattle.nk_host.proofs.Places.{read_never_falls, read_only_at}
use Rattle.nk_host.proofs.mem_shelf.MemShelfShelf.fetch.Goals as goal

pub returns-clause-never_falls : goal.returns-clause-never_falls
returns-clause-never_falls c =
    rw c.fetch_next.ensures.after (read_never_falls c.args.self.now c.args.name.now c.fetch_next.ensures.one_each c.fetch_next.ensures.fits)

pub returns-clause-only_at : goal.returns-clause-only_at
returns-clause-only_at c = rw c.fetch_next.ensures.after (read_only_at c.args.self.now c.args.name.now)
