use Rattle.std.proofs.Common.{◌≡◌, ◌++◌, drop}
use Rattle.gate_state.specs.MachineOf.{whole_of}
use Rattle.run_moments.specs.StopsMet.{all_seen}
use Rattle.run_moments.proofs.watched.look.Given as goal

abbrev pub invariant-loop-i : goal.invariant-loop-i
invariant-loop-i l =
    l.kept.items ++ all_seen (drop l.i l.watches) (whole_of l.machine).state ≡ all_seen l.watches (whole_of l.machine).state
