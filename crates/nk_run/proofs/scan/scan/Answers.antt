use Rattle.nk_run.proofs.ScanRows.{good_says, stop_says}
use Rattle.nk_run.proofs.scan.scan.Goals as goal

pub returns-in-Ok-clause-says : goal.returns-in-Ok-clause-says
returns-in-Ok-clause-says g c =
    good_says _ c.requires _ _ _ _ _ c.name.ensures c.admitted_line.ensures c.in-Ok.ensures.says

pub returns-in-Err-clause-says : goal.returns-in-Err-clause-says
returns-in-Err-clause-says g c =
    stop_says _ c.requires c.in-Err.stop _ _ _ _ c.name.ensures c.in-Err.ensures.says c.stopped.ensures
