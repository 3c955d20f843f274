use Rattle.std.proofs.Common.{◌≡◌, ◌+◌, ◌-◌, ◌*◌, ◌≤◌, ◌++◌, drop}
use Rattle.step_trace.specs.StepChanges.{runs}
use Rattle.step_trace.specs.StepTexts.{changes_text}
use Rattle.step_trace.proofs.memory.put_frame.Given as goal

abbrev pub invariant-loop-at : goal.invariant-loop-at
invariant-loop-at l = record {
  inside : l.at ≤ 4096;
  text : l.line.items ++ changes_text (runs (4096 * l.frame + l.at) 0 (drop l.at l.old) (drop l.at l.new))
      ≡ l.initial.line.items ++ changes_text (runs (4096 * l.frame) 0 l.old l.new);
}

abbrev pub decreases-loop-at : goal.decreases-loop-at
decreases-loop-at l = 4096 - l.at
