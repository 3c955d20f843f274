use Rattle.std.proofs.Common.{inr, refl}
use Rattle.nk_body.specs.NestedRecord.{nested_held}
use Rattle.report_text.specs.ClosingSection.{section}
use Rattle.nk_run.proofs.RunRows.{replay_row_says, replayed_says, section_says}
use Rattle.nk_run.proofs.Texts.{put_written}
use Rattle.nk_run.proofs.replay.replay.Goals as goal

pub returns-in-Err : goal.returns-in-Err
returns-in-Err g c = record {
  status = _;
  text = _;
  says = inr (replay_row_says _ c.args.frames c.requires.asked _ _ _ c.in-Err.ensures.made);
  written = c.write.ensures.written;
  files_stay = c.make_replay.ensures.files_stay;
}

pub returns : goal.returns
returns g c =
    let it = c.in-Ok.replayed in
    let made = c.in-Ok.ensures.made in
    record {
      status = 0;
      text = section it.opened.image it.opened.layout.frames (nested_held it.left.kernel it.left.memory);
      says = inr (replayed_says c.args.request.now c.args.frames c.requires.asked _ _
          (section_says c.args.request.now c.args.frames _ it.opened.image it.journal.items made.passed it.opened.layout.frames made.frames_are
          c.requires.asked (nested_held it.left.kernel it.left.memory) made.made));
      written = put_written g.O.Sink.taken g.O.Sink.faults _ _ _ _ _ _ _ refl c.show.ensures c.unless_cut.ensures;
      files_stay = c.make_replay.ensures.files_stay;
    }
