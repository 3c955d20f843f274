use Rattle.cpu_step.proofs.FetchFaults.{fetch_small}
use Rattle.cpu_step.proofs.laws.fetch_law.Goals as goal

pub returns : goal.returns
returns c = record {
  right = c.decoding_law.ensures.right;
  only = c.decoding_law.ensures.only;
  small = fetch_small c.access_law.ensures c.bound_law.ensures;
}
