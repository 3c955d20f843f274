use Rattle.std.proofs.Common.{◌≡◌, ◌*◌, ◌^◌, ◌≤◌, take}
use Rattle.std.specs.List.{sum_by}
use Rattle.code_modules.specs.JoinAnswers.{part_pages}
use Rattle.code_modules.specs.PartWords.{as_part}
use Rattle.code_modules.proofs.layout.total_pages.Given as goal

abbrev pub invariant-loop-placed : goal.invariant-loop-placed
invariant-loop-placed l = record {
  sum : l.total ≡ sum_by (λ p. part_pages (as_part p.part)) (take l.placed-index l.parts);
  small : l.total ≤ 2 ^ 53 * l.placed-index;
}
