use Rattle.std.proofs.Common.{◌≡◌, ◌+◌, ◌-◌, ◌%◌, ◌<◌, ◌≤◌, ℕ}
use Rattle.phys_mem.specs.Memory.{byte_at}
use Rattle.cpu_step.proofs.lines.has_code.Given as goal

abbrev pub invariant-loop-at : goal.invariant-loop-at
invariant-loop-at l = (l.at ≤ l.size) × (l.at % 8 ≡ 0) × ((k : ℕ) → k < l.at → byte_at l.code k ≡ byte_at l.mem (l.place + k))

abbrev pub decreases-loop-at : goal.decreases-loop-at
decreases-loop-at l = l.size - l.at
