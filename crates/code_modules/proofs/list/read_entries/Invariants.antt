use Rattle.std.proofs.Common.{◌≡◌, ◌+◌, ◌<◌, ◌≤◌, length, map}
use Rattle.code_modules.specs.ListReading.{after_listed, as_entry}
use Rattle.code_modules.specs.ModuleList.{list_from, list_of}
use Rattle.text_lines.specs.TextLines.{lines}
use Rattle.code_modules.proofs.list.read_entries.Given as goal

abbrev pub invariant-loop-rest : goal.invariant-loop-rest
invariant-loop-rest l = record {
  so_far : list_of l.bytes ≡ after_listed (map as_entry l.entries.items) (list_from l.number (lines l.rest));
  count : l.number ≡ 1 + length l.entries.items;
  few : length l.entries.items ≤ 32;
  some : 0 < length l.entries.items + length l.rest;
}

abbrev pub decreases-loop-rest : goal.decreases-loop-rest
decreases-loop-rest l = length l.rest
