use Rattle.std.proofs.Common.{inr}
use Rattle.nk_run.proofs.JoinRows.{joined_says}
use Rattle.nk_run.proofs.Texts.{put_written}
use Rattle.nk_run.proofs.join.join.Goals as goal

pub returns-in-Ok-clause-answered : goal.returns-in-Ok-clause-answered
returns-in-Ok-clause-answered g c = record {
  status = 0;
  text = c.in-Ok.file.items;
  says = inr (joined_says _ c.requires _ _ c.in-Ok.ensures.made);
  written = put_written g.O.Sink.taken g.O.Sink.faults _ _ _ _ _ _ _ c.deref.ensures.value c.put_all.ensures.put
      c.unless_cut.ensures;
  files_stay = c.make_joined.ensures.files_stay;
}

pub returns-in-Err-clause-answered : goal.returns-in-Err-clause-answered
returns-in-Err-clause-answered g c = record {
  status = _;
  text = _;
  says = inr c.in-Err.ensures.made;
  written = c.write.ensures.written;
  files_stay = c.make_joined.ensures.files_stay;
}
