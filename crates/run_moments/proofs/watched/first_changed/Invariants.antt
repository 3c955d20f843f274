use Rattle.std.proofs.Common.{◌≡◌, drop}
use Rattle.gate_state.specs.MachineOf.{whole_of}
use Rattle.run_moments.specs.StopsMet.{differs_by}
use Rattle.run_moments.proofs.watched.first_changed.Given as goal

abbrev pub invariant-loop-i : goal.invariant-loop-i
invariant-loop-i l =
    differs_by (drop l.i l.watches) (drop l.i l.kept) (whole_of l.machine).state ≡ differs_by l.watches l.kept (whole_of l.machine).state
