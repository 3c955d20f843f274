use Rattle.nk_run.proofs.AdmittedImages.{made_admitted}
use Rattle.nk_run.proofs.RunEnds.{ended_where_run}
use Rattle.nk_run.proofs.SafeRuns.{replayed_where_run, safe_where_run}
use Rattle.nk_run.proofs.WorkBounds.{work_within}
use Rattle.nk_run.proofs.laws.run_law.Goals as goal

pub returns-clause-safe : goal.returns-clause-safe
returns-clause-safe c =
    let made = c.made_image_law.ensures in
    safe_where_run c.pages_law.ensures c.clean_law.ensures.clean c.plan_law.ensures c.safe_law.ensures
    (λ words number asked.
    made_admitted c.pages_law.ensures c.clean_law.ensures.clean made.bytes made.formed made.clean made.room number
    (work_within words number asked))

pub returns-clause-replayed : goal.returns-clause-replayed
returns-clause-replayed c = replayed_where_run c.pages_law.ensures c.clean_law.ensures.clean c.plan_law.ensures c.journal_law.ensures

pub returns-clause-ended : goal.returns-clause-ended
returns-clause-ended c = ended_where_run c.length_law.ensures
