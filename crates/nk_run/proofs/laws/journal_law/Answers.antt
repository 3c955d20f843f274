use Rattle.nk_run.proofs.RunsReplayed.{replayed_run}
use Rattle.nk_run.proofs.laws.journal_law.Goals as goal

pub returns : goal.returns
returns c o input plan steps admitted in_form most =
    replayed_run c.beside_law.ensures o input plan
    (record {
      guarded = λ k. c.shown_law.ensures.guarded o input plan k admitted in_form;
      made = λ k. c.safety_law.ensures.nested o input plan k admitted in_form;
      steps = record {
        seen = λ s guarded. c.shown_law.ensures.seen o plan s admitted guarded;
        called = λ s guarded. c.shown_law.ensures.called o s admitted guarded;
        counts = c.moves_law.ensures plan;
      };
    })
    steps most
