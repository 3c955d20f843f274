use Rattle.std.proofs.Common.{◌≡◌}
use Rattle.gdb_packets.specs.BytesHeard.{left_of}
use Rattle.gdb_packets.proofs.Hearings.{ArePassed}
use Rattle.gdb_packets.proofs.listener.Listener.pass_over.Given as goal

abbrev pub invariant-loop : goal.invariant-loop
invariant-loop g l = record {
  passed : ArePassed l.mark (left_of g.S.Source.left l.initial.self) (left_of g.S.Source.left l.self);
  faults : g.S.Source.faults l.self.source ≡ g.S.Source.faults l.initial.self.source;
}
