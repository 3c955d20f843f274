use Rattle.std.proofs.Common.{◌≡◌, ◌∙◌, map, sym}
use Rattle.nk_run.specs.Outcome.{modules_named}
use Rattle.nk_run.proofs.JoinRows.{held_is, hold_stops, list_stops}
use Rattle.nk_run.proofs.Told.{if_told, told_at}
use Rattle.nk_run.proofs.join.hold.Goals as goal

pub returns-in-Err-clause-held : goal.returns-in-Err-clause-held
returns-in-Err-clause-held g c = list_stops _ _ _ _ c.in-Err.ensures.opened

pub returns-in-Ok-fetch_modules-clause-held : goal.returns-in-Ok-fetch_modules-clause-held
returns-in-Ok-fetch_modules-clause-held g c = (
  c.in-Ok.ensures.opened.0,
  held_is c.args.request.now _ _ c.in-Ok.listed.image c.in-Ok.listed.list (map (λ m. m.items) c.in-Ok-fetch_modules.modules.items)
      c.in-Ok.ensures.files_stay c.in-Ok.ensures.opened.1 c.in-Ok-fetch_modules.ensures.fetched,
)

pub returns-in-Err-fetch_modules-clause-held : goal.returns-in-Err-fetch_modules-clause-held
returns-in-Err-fetch_modules-clause-held g c =
    hold_stops c.args.request.now _ _ _ c.in-Ok.listed.image c.in-Ok.listed.list _ _ c.in-Ok.ensures.never_falls c.in-Ok.ensures.files_stay
    c.in-Ok.ensures.opened.1 (c.in-Err-fetch_modules.ensures.fetched c.args.request.now
    (if_told _ (λ files. c.in-Ok.listed.list ≡ modules_named files c.args.request.now) (λ files e.
    let opened = told_at _ _ files (sym c.in-Ok.ensures.files_stay ∙ e) c.in-Ok.ensures.opened.1 in opened.1)))
