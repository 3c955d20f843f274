use Rattle.proc_audit.proofs.ChainSteps.{IsFollowing}
use Rattle.proc_audit.proofs.chain.follow.Given as goal

abbrev pub invariant-loop-links : goal.invariant-loop-links
invariant-loop-links l = IsFollowing l.region l._links l.slot l.met
