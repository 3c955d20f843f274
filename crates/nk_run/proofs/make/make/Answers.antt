use Rattle.std.proofs.Common.{inr, ◌∙◌}
use Rattle.image_maker.specs.MadeImage.{image_of_number}
use Rattle.nk_run.proofs.RunRows.{make_says, make_wants}
use Rattle.nk_run.proofs.Texts.{put_written}
use Rattle.nk_run.proofs.make.make.Goals as goal

pub returns-in-Ok : goal.returns-in-Ok
returns-in-Ok g c = λ words shelf asked same. record {
  status = 0;
  text = image_of_number c.args.number;
  says = inr (make_says words c.args.number asked shelf);
  written = put_written g.O.Sink.taken g.O.Sink.faults _ _ _ _ _ _ _ (c.deref.ensures.value ∙ c.in-Ok.ensures)
      c.put_all.ensures.put c.unless_cut.ensures;
  files_stay = same;
}

pub returns-in-Err : goal.returns-in-Err
returns-in-Err g c = λ words shelf asked same. record {
  status = _;
  text = _;
  says = inr (make_wants words c.args.number asked shelf _ _ c.no_memory.ensures);
  written = c.write.ensures.written;
  files_stay = same;
}
