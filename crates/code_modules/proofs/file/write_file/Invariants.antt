use Rattle.std.proofs.Common.{◌≡◌, ◌+◌, ◌*◌, length, map, take}
use Rattle.std.specs.List.{range_with_len}
use Rattle.code_modules.specs.JoinedFile.{joined_byte, parts_end}
use Rattle.code_modules.specs.PartWords.{as_file_part}
use Rattle.code_modules.proofs.file.write_file.Given as goal

abbrev pub invariant-loop-at : goal.invariant-loop-at
invariant-loop-at l = l.file.items ≡ map (joined_byte l.entry (map as_file_part l.parts)) (range_with_len 0 l.at)

abbrev pub invariant-loop-placed : goal.invariant-loop-placed
invariant-loop-placed l = record {
  made : l.file.items ≡ map (joined_byte l.entry (map as_file_part l.parts)) (range_with_len 0 (length l.file.items));
  ends : length l.file.items ≡ parts_end (64 + 56 * length (map as_file_part l.parts)) (take l.placed-index (map as_file_part l.parts));
}
