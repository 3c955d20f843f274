use Rattle.std.proofs.Common.{◌≡◌, ◌-◌, ◌^◌, length}
use Rattle.std.specs.Io.KnownBytes.{Consumes}
use Rattle.gdb_packets.specs.Packets.{IsWithout}
use Rattle.gdb_packets.specs.BytesHeard.{left_of}
use Rattle.gdb_packets.proofs.listener.Listener.gather.Given as goal

abbrev pub invariant-loop-fault : goal.invariant-loop-fault
invariant-loop-fault g l = record {
  lacks : IsWithout l.mark l.bytes.items;
  heard : Consumes (left_of g.S.Source.left l.initial.self) (left_of g.S.Source.left l.self) l.bytes.items;
  faults : g.S.Source.faults l.self.source ≡ g.S.Source.faults l.initial.self.source;
}

abbrev pub decreases-loop-fault : goal.decreases-loop-fault
decreases-loop-fault g l = 2 ^ 64 - length l.bytes.items
