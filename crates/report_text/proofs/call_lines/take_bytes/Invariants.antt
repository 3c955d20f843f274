use Rattle.std.proofs.Common.{ℕ, List, [], ◌∷◌, length}
use Rattle.std.specs.Prelude.{slice_index}
use Rattle.hex.specs.Hex.{encode_lower}
use Rattle.report_text.specs.ClosingSection.{lines_of}
use Rattle.report_text.proofs.TakenUp.{AreTaken}
use Rattle.report_text.proofs.call_lines.take_bytes.Given as goal

abbrev pub invariant-loop-at : goal.invariant-loop-at
invariant-loop-at g l =
    let text : ℕ → List ℕ = λ i. encode_lower (slice_index l.bytes i ∷ []) in
    AreTaken g.O.Sink.taken g.O.Sink.faults l.initial.sink l.sink l.initial.pieces l.pieces
    (lines_of text (length l.bytes) 0) text
    (length l.bytes) l.at
