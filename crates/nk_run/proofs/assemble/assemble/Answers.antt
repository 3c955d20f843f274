use Rattle.std.proofs.Common.{inr}
use Rattle.nk_run.proofs.TextRows.{code_says, text_row_says}
use Rattle.nk_run.proofs.Texts.{put_written}
use Rattle.nk_run.proofs.assemble.assemble.Goals as goal

pub returns-in-Ok : goal.returns-in-Ok
returns-in-Ok g c = record {
  status = 0;
  text = c.in-Ok.code.items;
  says = inr (code_says c.args.request.now c.requires _ c.in-Ok.code.items c.in-Ok.ensures.made);
  written = put_written g.O.Sink.taken g.O.Sink.faults _ _ _ _ _ _ _ c.deref.ensures.value c.put_all.ensures.put
      c.unless_cut.ensures;
  files_stay = c.make_code.ensures.files_stay;
}

pub returns-in-Err : goal.returns-in-Err
returns-in-Err g c = record {
  status = _;
  text = _;
  says = inr (text_row_says c.args.request.now c.requires _ _ _ c.in-Err.ensures.made);
  written = c.write.ensures.written;
  files_stay = c.make_code.ensures.files_stay;
}
