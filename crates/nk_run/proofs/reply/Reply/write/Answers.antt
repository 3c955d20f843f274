use Rattle.nk_run.proofs.Texts.{put_written}
use Rattle.nk_run.proofs.reply.Reply.write.Goals as goal

pub returns-clause-written : goal.returns-clause-written
returns-clause-written g c =
    put_written g.O.Sink.taken g.O.Sink.faults _ _ _ _ _ _ _ c.as_bytes.ensures c.put_all.ensures.put
    c.unless_cut.ensures
