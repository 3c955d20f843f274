use Rattle.std.proofs.Common.{◌≡◌, length}
use Rattle.nk_host.proofs.Passed.{WentOut}
use Rattle.nk_host.proofs.whole.write_whole.Given as goal

abbrev pub invariant-loop-rest : goal.invariant-loop-rest
invariant-loop-rest g l = record {
  out : WentOut l.bytes l.rest (g.W.Write.contents l.initial.to.inner) (g.W.Write.contents l.to.inner);
  counted : l.to.faults ≡ l.initial.to.faults;
}

abbrev pub decreases-loop-rest : goal.decreases-loop-rest
decreases-loop-rest g l = length l.rest
