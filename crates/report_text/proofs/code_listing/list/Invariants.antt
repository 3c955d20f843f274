use Rattle.std.proofs.Common.{◌≤◌}
use Rattle.elf_image.specs.Home.{home_end}
use Rattle.report_text.proofs.ListedCode.{AreListed}
use Rattle.report_text.proofs.code_listing.list.Given as goal

abbrev pub invariant-loop-i : goal.invariant-loop-i
invariant-loop-i g l = record {
  going : AreListed g.O.Sink.taken g.O.Sink.faults l.initial.sink l.sink l.image l.address l.count l.i l.at;
  inside : l.at ≤ home_end;
}
