use Rattle.std.proofs.Common.{length}
use Rattle.execution_tests.proofs.quick.make_alone.Goals as goal

pub make_at-went-requires-clause-window : goal.make_at-went-requires-clause-window
make_at-went-requires-clause-window c = c.new-window.ensures (length c.args.mem.now) _ _ c.args.tlb.now
