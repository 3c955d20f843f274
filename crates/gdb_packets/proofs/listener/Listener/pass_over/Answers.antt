use Rattle.std.proofs.Common.{ne_eqb, ◌∙◌}
use Rattle.gdb_packets.specs.BytesHeard.{left_of}
use Rattle.gdb_packets.proofs.Hearings.{more_passed}
use Rattle.gdb_packets.proofs.listener.Listener.pass_over.Goals as goal

pub loop-preserved : goal.loop-preserved
loop-preserved g c = record {
  passed =
      more_passed c.args.mark c.in-Ok-Some.byte (left_of g.S.Source.left c.args.self.now) (left_of g.S.Source.left c.loop.self)
      (left_of g.S.Source.left c.next_byte.new.self) c.loop.invariant.passed
      (rw c.in-Ok-Some.field-0-is at c.in-Ok-Some.ensures.byte) (ne_eqb _ _ c.if-byte-mark.false);
  faults = c.in-Ok-Some.ensures.kept ∙ c.loop.invariant.faults;
}
