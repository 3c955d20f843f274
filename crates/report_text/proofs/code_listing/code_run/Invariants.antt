use Rattle.std.proofs.Common.{◌+◌, ◌-◌, ◌≤◌, length}
use Rattle.elf_image.specs.Home.{home_end}
use Rattle.report_text.proofs.CodeRuns.{GoesOn}
use Rattle.report_text.proofs.code_listing.code_run.Given as goal

abbrev pub invariant-loop-run : goal.invariant-loop-run
invariant-loop-run l = record {
  so_far : GoesOn l.image l.address l.run.items;
  few : length l.run.items ≤ 15;
  inside : l.address + length l.run.items ≤ home_end;
}

abbrev pub decreases-loop-run : goal.decreases-loop-run
decreases-loop-run l = 15 - length l.run.items
