use Rattle.std.proofs.Common.{[], refl}
use Rattle.command_words.specs.declared.command_line.Role.TheVariants.{Journal}
use Rattle.command_words.specs.CommandLine.{name_in}
use Rattle.nk_run.proofs.Rows.{fetch_stops, stops_behind}
use Rattle.nk_run.proofs.replay.hold.Goals as goal

pub returns-in-Err-fetch-clause-held : goal.returns-in-Err-fetch-clause-held
returns-in-Err-fetch-clause-held g c =
    stops_behind _ _ _ _ c.in-Ok.image _ _ _ _ c.in-Ok.ensures.never_falls c.in-Ok.ensures.files_stay c.in-Ok.ensures.opened
    (fetch_stops _ _ Journal (name_in c.args.request.now Journal) [] (λ files. []) _ _ refl refl c.in-Err-fetch.ensures.fetched)
