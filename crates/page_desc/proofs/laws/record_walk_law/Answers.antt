use Rattle.page_desc.proofs.RecordWalk.{record_walk}
use Rattle.page_desc.proofs.laws.record_walk_law.Goals as goal

pub returns : goal.returns
returns c = record {
  same = λ kinds root page m sound. record_walk kinds root m sound page;
}
