use Rattle.nk_run.proofs.TextRows.{formed_row_says, listing_is, noaddress_says}
use Rattle.std.proofs.Common.{refl}
use Rattle.nk_run.proofs.listing.open_code.Goals as goal

pub returns-in-Err-clause-made : goal.returns-in-Err-clause-made
returns-in-Err-clause-made g c =
    formed_row_says c.args.request.now c.args.address c.args.count c.requires _ _ _ c.in-Err.ensures.opened

pub returns-in-None-clause-made : goal.returns-in-None-clause-made
returns-in-None-clause-made g c = record {
  code = c.in-None.ensures;
  outcome_is = listing_is c.args.request.now c.args.address c.args.count c.requires _ c.in-Ok.image c.in-Ok.ensures.opened c.in-None.ensures;
}

pub returns-in-Some-clause-made : goal.returns-in-Some-clause-made
returns-in-Some-clause-made g c =
    noaddress_says c.args.request.now c.args.address c.args.count c.requires _ c.in-Ok.image c.in-Ok.ensures.opened _ _ _ refl c.in-Some.ensures
