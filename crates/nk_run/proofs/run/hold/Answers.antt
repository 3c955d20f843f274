use Rattle.nk_run.proofs.Rows.{stops_behind}
use Rattle.nk_run.proofs.run.hold.Goals as goal

pub returns-in-Err-open_outside-clause-held : goal.returns-in-Err-open_outside-clause-held
returns-in-Err-open_outside-clause-held g c =
    stops_behind _ _ _ _ c.in-Ok.image _ _ _ _ c.in-Ok.ensures.never_falls c.in-Ok.ensures.files_stay c.in-Ok.ensures.opened
    c.in-Err-open_outside.ensures.opened
