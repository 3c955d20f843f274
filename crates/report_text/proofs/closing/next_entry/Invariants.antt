use Rattle.std.proofs.Common.{ℕ, ◌≡◌, ◌<◌, ◌≤◌}
use Rattle.phys_mem.specs.Memory.{entry_in}
use Rattle.report_text.proofs.closing.next_entry.Given as goal

abbrev pub invariant-loop-index : goal.invariant-loop-index
invariant-loop-index l = (i : ℕ) → l.from ≤ i → i < l.index → entry_in l.mem l.frame i ≡ 0
