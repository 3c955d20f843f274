use Rattle.nk_run.proofs.RunRows.{map_says, map_stops}
use Rattle.nk_run.proofs.map.map.Goals as goal

pub returns-in-Err-clause-says : goal.returns-in-Err-clause-says
returns-in-Err-clause-says g c = map_stops _ c.args.frames c.args.va c.requires.asked _ _ _ c.in-Err.ensures.opened

pub returns-in-Ok-clause-says : goal.returns-in-Ok-clause-says
returns-in-Ok-clause-says g c =
    map_says _ c.args.frames c.args.va c.requires.asked c.in-Ok.image _ _ _ c.in-Ok.ensures.opened c.translate.ensures
