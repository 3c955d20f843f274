use Rattle.std.proofs.Common.{◌≡◌, ◌-◌, ◌≤◌, length, take}
use Rattle.std.specs.Io.KnownBytes.{Consumes}
use Rattle.nk_host.proofs.filling.fill.Given as goal

abbrev pub invariant-loop-done : goal.invariant-loop-done
invariant-loop-done g l = record {
  given : Consumes (g.F.Read.remaining l.initial.from.inner) (g.F.Read.remaining l.from.inner) (take l.done l.block);
  within : l.done ≤ length l.block;
  counted : l.from.faults ≡ l.initial.from.faults;
}

abbrev pub decreases-loop-done : goal.decreases-loop-done
decreases-loop-done g l = length l.block - l.done
