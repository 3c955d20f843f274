use Rattle.std.proofs.Common.{◌≡◌, ℕ, ◌*◌, ◌<◌, get_or}
use Rattle.boot_map.specs.OpeningEntries.{entry_of_part}
use Rattle.boot_map.specs.Opening.{entry_byte}
use Rattle.boot_map.proofs.opening.fill_table.Given as goal

abbrev pub invariant-loop-index : goal.invariant-loop-index
invariant-loop-index l =
    (o : ℕ) → o < 8 * l.index → get_or l.bytes o 0 ≡ entry_byte (entry_of_part l.image l.layout l.part) o
