use Rattle.irq_plan.proofs.PlanForms.{plan_form}
use Rattle.irq_plan.proofs.law.plan_law.Goals as goal

pub returns : goal.returns
returns c = plan_form
