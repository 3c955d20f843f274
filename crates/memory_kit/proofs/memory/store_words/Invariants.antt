use Rattle.std.proofs.Common.{◌≡◌, length}
use Rattle.memory_kit.proofs.memory.store_words.Given as goal

abbrev pub invariant-loop-at : goal.invariant-loop-at
invariant-loop-at l = record { same : length l.mem ≡ length l.fn.mem }
