use Rattle.x86_regs.proofs.SmallActs.{acts_small}
use Rattle.x86_regs.proofs.SmallFaults.{faults_small, raised_small}
use Rattle.x86_regs.proofs.laws.bound_law.Goals as goal

pub returns : goal.returns
returns c = record {
  fault = faults_small c.access_law.ensures;
  act = acts_small;
  raised = raised_small;
}
