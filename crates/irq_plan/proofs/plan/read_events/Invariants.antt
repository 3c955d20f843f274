use Rattle.std.proofs.Common.{◌≡◌, ◌+◌, ◌≤◌, length}
use Rattle.irq_plan.specs.PlanFile.{plan_of, read_from}
use Rattle.irq_plan.specs.PlanReading.{behind}
use Rattle.text_lines.specs.TextLines.{lines}
use Rattle.irq_plan.proofs.plan.read_events.Given as goal

abbrev pub invariant-loop-rest : goal.invariant-loop-rest
invariant-loop-rest l =
    (plan_of l.bytes ≡ behind l.events.items (read_from l.number l.least (lines l.rest)))
    × (l.number + length l.rest ≤ 1 + length l.bytes)

abbrev pub decreases-loop-rest : goal.decreases-loop-rest
decreases-loop-rest l = length l.rest
