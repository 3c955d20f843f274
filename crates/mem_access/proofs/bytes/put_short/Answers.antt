use Rattle.mem_access.proofs.Numbers.{low_stored}
use Rattle.mem_access.proofs.bytes.put_short.Goals as goal

pub returns-in-1-clause-stored : goal.returns-in-1-clause-stored
returns-in-1-clause-stored c = low_stored c.args.mem.now c.store8.new.self c.args.count 1 c.args.at c.args.value c.in-1.is c.store8.ensures.stored

pub returns-in-2-clause-stored : goal.returns-in-2-clause-stored
returns-in-2-clause-stored c = low_stored c.args.mem.now c.store16.new.self c.args.count 2 c.args.at c.args.value c.in-2.is c.store16.ensures.stored

pub returns-in-4-clause-stored : goal.returns-in-4-clause-stored
returns-in-4-clause-stored c = low_stored c.args.mem.now c.store32.new.self c.args.count 4 c.args.at c.args.value c.in-4.is c.store32.ensures.stored
