use Rattle.std.proofs.Common.{inr, refl}
use Rattle.report_text.specs.ListingLines.{code_listing}
use Rattle.nk_run.proofs.TextRows.{listed_says}
use Rattle.nk_run.proofs.Texts.{put_written}
use Rattle.nk_run.proofs.listing.list_code.Goals as goal

pub returns-in-Ok : goal.returns-in-Ok
returns-in-Ok g c = record {
  status = 0;
  text = code_listing c.in-Ok.image c.args.address c.args.count;
  says = inr (listed_says c.args.request.now c.args.address c.args.count c.requires _ _ c.in-Ok.ensures.made.outcome_is);
  written = put_written g.O.Sink.taken g.O.Sink.faults _ _ _ _ _ _ _ refl c.list.ensures c.unless_cut.ensures;
  files_stay = c.open_code.ensures.files_stay;
}

pub returns-in-Err : goal.returns-in-Err
returns-in-Err g c = record {
  status = _;
  text = _;
  says = inr c.in-Err.ensures.made;
  written = c.write.ensures.written;
  files_stay = c.open_code.ensures.files_stay;
}
