use Rattle.std.proofs.Common.{◌≡◌, ◌-◌, ◌≤◌, All, length}
use Rattle.cpu_step.specs.CodeLines.{AreTurns, IsLineOf, IsStretch}
use Rattle.cpu_step.proofs.stretches.stretch.Given as goal

abbrev pub invariant-loop-count : goal.invariant-loop-count
invariant-loop-count l =
    (l.count ≤ l.most) × (length l.lines.items ≡ 4096) × All (IsLineOf l.stamp l.codes l.mem) l.lines.items
    × IsStretch (length l.mem) l.control l.regs.cpl l.tlb l.codes l.window
    × AreTurns l.count l.control l.tlb l.fn.regs l.fn.mem l.regs l.mem

abbrev pub decreases-loop-count : goal.decreases-loop-count
decreases-loop-count l = l.most - l.count
