use Rattle.vmmu.proofs.CallFacts.{declarable, loadable, removable, writable}
use Rattle.vmmu.proofs.laws.accepted_law.Goals as goal

pub returns : goal.returns
returns c = record {
  declared = declarable;
  written = writable;
  removed = removable;
  loaded = loadable;
}
