use Rattle.std.proofs.Common.{ℕ, ◌≤◌, List, [], ◌∷◌, IfSome}
use Rattle.hex.specs.Hex.{encode_lower}
use Rattle.phys_mem.specs.Memory.{byte_at}
use Rattle.region_book.specs.RegionBytes.{book_in}
use Rattle.region_book.specs.RegionRecords.{RegionRecord, byte_place, region_of}
use Rattle.report_text.specs.ClosingSection.{lines_of}
use Rattle.report_text.proofs.TakenUp.{AreTaken}
use Rattle.report_text.proofs.ledger_lines.take_region.Given as goal

abbrev pub invariant-loop-offset : goal.invariant-loop-offset
invariant-loop-offset g l =
    let text : RegionRecord → ℕ → List ℕ = λ r o. encode_lower (byte_at l.mem (byte_place r o) ∷ []) in
    record {
      taken : IfSome (region_of (book_in l.regions l.mem) l.region.id) (λ r. AreTaken g.O.Sink.taken g.O.Sink.faults l.initial.sink
          l.sink
          l.initial.pieces l.pieces (lines_of (text r) l.region.size 0) (text r) l.region.size l.offset);
      counted : g.O.Sink.faults l.initial.sink ≤ g.O.Sink.faults l.sink;
    }
