use Rattle.proc_audit.proofs.ChainLaws.{laws}
use Rattle.proc_audit.proofs.laws.process_law.Goals as goal

pub returns : goal.returns
returns c = laws
