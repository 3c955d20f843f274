use Rattle.std.proofs.Common.{length}
use Rattle.mem_access.proofs.pages.walk_kept.Goals as goal

pub walk_below-requires-clause-from : goal.walk_below-requires-clause-from
walk_below-requires-clause-from c = c.in-Some.ensures.frame (length c.args.mem.now) c.requires.context.frames

pub walk_below-requires-in-Some-kept-clause-from : goal.walk_below-requires-in-Some-kept-clause-from
walk_below-requires-in-Some-kept-clause-from c = c.in-Some-kept.ensures.frame (length c.args.mem.now) c.requires.context.frames

pub walk_below-requires-in-Some-kept-2-clause-from : goal.walk_below-requires-in-Some-kept-2-clause-from
walk_below-requires-in-Some-kept-2-clause-from c = c.in-Some-kept-2.ensures.frame (length c.args.mem.now) c.requires.context.frames
