use Rattle.std.proofs.Common.{◌≡◌, ◌-◌, ◌≤◌, All, length}
use Rattle.cpu_step.specs.CodeLines.{AreMadeOn, IsLineOf}
use Rattle.cpu_step.proofs.line_turns.lines_run.Given as goal

abbrev pub invariant-loop-count : goal.invariant-loop-count
invariant-loop-count l =
    (l.count ≤ l.most) × (length l.lines.items ≡ 4096) × All (IsLineOf l.stamp l.codes l.mem) l.lines.items
    × AreMadeOn l.count l.control l.tlb l.fn.regs l.fn.mem l.fn.window l.regs l.mem l.window

abbrev pub decreases-loop-count : goal.decreases-loop-count
decreases-loop-count l = l.most - l.count
