use Rattle.std.proofs.Common.{◌≡◌, ℕ, ◌-◌, ◌/◌, ◌<◌, ◌≤◌, ◌++◌, length}
use Rattle.phys_mem.specs.Memory.{byte_at}
use Rattle.step_trace.specs.StepChanges.{memory_changes}
use Rattle.step_trace.specs.StepTexts.{changes_text}
use Rattle.step_trace.proofs.memory.put_below.Given as goal

abbrev pub invariant-loop-frame : goal.invariant-loop-frame
invariant-loop-frame l = record {
  size : length l.copy ≡ length l.mem;
  text : l.line.items ++ changes_text (memory_changes (l.end - l.frame) l.frame l.initial.copy l.mem)
      ≡ l.initial.line.items ++ changes_text (memory_changes l.end 0 l.initial.copy l.mem);
  copied : (p : ℕ) → p / 4096 < l.frame → byte_at l.copy p ≡ byte_at l.mem p;
  left : (p : ℕ) → l.frame ≤ p / 4096 → byte_at l.copy p ≡ byte_at l.initial.copy p;
}
