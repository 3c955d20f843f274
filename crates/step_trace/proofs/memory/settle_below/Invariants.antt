use Rattle.std.proofs.Common.{◌≡◌, ℕ, ◌/◌, ◌<◌, length}
use Rattle.phys_mem.specs.Memory.{byte_at}
use Rattle.step_trace.proofs.memory.settle_below.Given as goal

abbrev pub invariant-loop-frame : goal.invariant-loop-frame
invariant-loop-frame l = record {
  size : length l.copy ≡ length l.mem;
  copied : (p : ℕ) → p / 4096 < l.frame → byte_at l.copy p ≡ byte_at l.mem p;
}
