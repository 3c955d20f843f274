use Rattle.std.proofs.Common.{ℕ, List}
use Rattle.nk_bits.specs.Kinds.{kind_of}
use Rattle.boot_map.specs.OpeningKinds.{kind_at}
use Rattle.page_desc.specs.DescriptorBytes.{kinds_in}
use Rattle.report_text.specs.ClosingSection.{line_of_kind, lines_of}
use Rattle.report_text.proofs.ListedLines.{AreGoing}
use Rattle.report_text.proofs.closing.put_kinds.Given as goal

abbrev pub invariant-loop-frame : goal.invariant-loop-frame
invariant-loop-frame g l =
    let text : ℕ → List ℕ = λ f. line_of_kind (kind_at l.image l.layout.frames f) (kind_of (kinds_in l.mem) f) f in
    AreGoing g.O.Sink.taken g.O.Sink.faults l.initial.sink l.sink (lines_of text l.layout.frames 0) text
    l.layout.frames l.frame
