use Rattle.std.proofs.Common.{◌≡◌, List, [], Ok, Result, ℕ}
use Rattle.irq_plan.specs.declared.event.Event.{Event}
use Rattle.irq_plan.specs.PlanFile.{plan_of, read_from}
use Rattle.nk_run.proofs.work.quiet.Goals as goal

ok_same : (one other : List Event) → ◌≡◌ {A = Result (List Event) ℕ} (Ok one) (Ok other) → other ≡ one
ok_same one other e = cc

pub returns-in-Ok : goal.returns-in-Ok
unfolding plan_of read_from
returns-in-Ok c = ok_same [] c.in-Ok.plan c.in-Ok.ensures.plan
