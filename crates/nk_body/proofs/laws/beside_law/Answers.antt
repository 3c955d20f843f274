use Rattle.nk_body.proofs.CallsBeside.{answer_same, call_beside, verdict_same}
use Rattle.nk_body.proofs.OpeningBeside.{opening_beside}
use Rattle.nk_body.proofs.laws.beside_law.Goals as goal

pub returns : goal.returns
returns c = record {
  begins = λ b m frames is.
      opening_beside b m frames is (c.opening_kinds_law.ensures.count b frames) (c.opening_kinds_law.ensures.each b frames);
  judged = verdict_same;
  answered = answer_same;
  stays = call_beside (record {
    byte = record { memory = c.memory_law.ensures; frame = c.frame_law.ensures };
    region = c.apart_law.ensures;
    accepted = c.accepted_law.ensures;
    declared = c.declared_law.ensures;
  });
}
