use Rattle.std.proofs.Common.{◌≡◌, ℕ, ◌+◌, ◌*◌, ◌<◌}
use Rattle.phys_mem.specs.Memory.{byte_at}
use Rattle.step_trace.proofs.memory.is_same.Given as goal

abbrev pub invariant-loop-i : goal.invariant-loop-i
invariant-loop-i l = (k : ℕ) → k < 64 * l.i → byte_at l.copy (4096 * l.frame + k) ≡ byte_at l.mem (4096 * l.frame + k)
