use Rattle.std.proofs.Common.{◌≡◌, ℕ, List, Some, subst}
use Rattle.nk_host.specs.Told.{IfTold}
use Rattle.nk_run.specs.Outcome.{fetch_verdict, passes}
use Rattle.nk_run.proofs.Rows.{word_stops}
use Rattle.nk_run.proofs.image.fetch.Goals as goal

pub returns-in-Ok-clause-fetched : goal.returns-in-Ok-clause-fetched
returns-in-Ok-clause-fetched g c =
    subst
    (λ (n : List ℕ). IfTold (g.S.Shelf.files c.args.shelf.now)
    (λ files. (files n ≡ Some c.in-Ok.bytes.items) × (fetch_verdict c.args.role (files n) ≡ passes)))
    c.name.ensures c.in-Ok.ensures.fetched

pub returns-in-Err-clause-fetched : goal.returns-in-Err-clause-fetched
returns-in-Err-clause-fetched g c = word_stops _ _ _ _ _ _ c.requires c.name.ensures c.in-Err.ensures.fetched
