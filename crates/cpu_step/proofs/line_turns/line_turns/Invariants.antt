use Rattle.std.proofs.Common.{◌≡◌, ◌+◌, ◌-◌, ◌≤◌, All, length}
use Rattle.cpu_step.specs.CodeLines.{AreFrom, AreMadeOn, IsFormIn}
use Rattle.cpu_step.proofs.line_turns.line_turns.Given as goal

abbrev pub invariant-loop-quick : goal.invariant-loop-quick
invariant-loop-quick l =
    (l.left ≤ l.most) × (length l.round ≤ l.left) × (length l.forms ≤ length l.round)
    × All (IsFormIn l.line.code l.line.size) l.forms × AreFrom l.line.at l.at l.forms
    × AreMadeOn (l.most - l.left + (length l.round - length l.forms)) l.control l.tlb l.fn.regs l.fn.mem l.fn.window (record l.regs { rip = l.at }) l.mem l.window

abbrev pub decreases-loop-quick : goal.decreases-loop-quick
decreases-loop-quick l = l.left + length l.forms
