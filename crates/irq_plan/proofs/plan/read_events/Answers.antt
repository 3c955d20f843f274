use Rattle.std.proofs.Common.{arith}
use Rattle.irq_plan.proofs.PlanForms.{plan_form}
use Rattle.irq_plan.proofs.Reading.{bad_line, begins, good_line, no_line}
use Rattle.irq_plan.specs.PlanFile.{plan_of}
use Rattle.irq_plan.proofs.plan.read_events.Goals as goal

pub loop-rest-init : goal.loop-rest-init
loop-rest-init c = (begins c.args.bytes.now c.new-events.result.items c.new-events.ensures.items, omega arith)

pub returns-in_default-clause-fault : goal.returns-in_default-clause-fault
returns-in_default-clause-fault c =
    bad_line (plan_of c.args.bytes.now) c.loop-rest.events.items c.loop-rest.number c.loop-rest.least
    c.loop-rest.rest.now c.cut_line.result.0.now c.cut_line.result.1.now
    c.loop-rest.invariant.0 c.cut_line.ensures.lines c.in_default.ensures

pub loop-rest-preserved : goal.loop-rest-preserved
loop-rest-preserved c = (
  good_line (plan_of c.args.bytes.now) c.loop-rest.events.items c.loop-rest.number c.loop-rest.least
      c.loop-rest.rest.now c.cut_line.result.0.now c.cut_line.result.1.now c.in-Some.event c.push.new.self.items
      c.loop-rest.invariant.0 c.cut_line.ensures.lines c.in-Some.ensures c.in_default-push.ensures.items,
  omega arith,
)

pub returns-clause-plan : goal.returns-clause-plan
returns-clause-plan c =
    no_line (plan_of c.args.bytes.now) c.loop-rest.events.items c.loop-rest.number c.loop-rest.least
    c.loop-rest.rest.now c.loop-rest.invariant.0 c.loop-rest-test.ensures

pub returns-clause-form : goal.returns-clause-form
returns-clause-form c = plan_form c.args.bytes.now c.loop-rest.events.items (returns-clause-plan c)
