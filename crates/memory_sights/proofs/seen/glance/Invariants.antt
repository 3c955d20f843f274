use Rattle.std.proofs.Common.{◌≡◌, ◌≤◌, ◌+◌, ◌-◌, ◌++◌, length}
use Rattle.gate_state.specs.MachineOf.{whole_of}
use Rattle.memory_sights.specs.Sights.{bytes_seen}
use Rattle.memory_sights.proofs.seen.glance.Given as goal

abbrev pub invariant-loop-done : goal.invariant-loop-done
invariant-loop-done l = record {
  left : l.bytes.items ++ bytes_seen (whole_of l.machine).state (l.address + l.done) (l.count - l.done)
      ≡ bytes_seen (whole_of l.machine).state l.address l.count;
  room : length l.bytes.items ≤ l.done;
}
