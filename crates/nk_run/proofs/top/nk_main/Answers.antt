use Rattle.nk_run.proofs.Promises.{promised}
use Rattle.nk_run.proofs.top.nk_main.Goals as goal

pub returns : goal.returns
returns g c =
    rw c.number.ensures (promised c.run_law.ensures.ended c.run_law.ensures.safe c.run_law.ensures.replayed c.join_law.ensures _ _ _ _ _
    c.new.ensures c.answer.ensures.bytes c.answer.ensures.answered)
