use Rattle.std.proofs.Common.{◌≡◌, ◌+◌, replicate}
use Rattle.phys_mem.proofs.block.RawBlock.zeroed.Given as goal

abbrev pub invariant-loop-at : goal.invariant-loop-at
invariant-loop-at l = (l.cells.heap ≡ l.alloc) × (l.cells.at ≡ l.start) × (l.cells.bytes ≡ replicate l.at 0) × (l.cells.spare + l.at ≡ l.len)
