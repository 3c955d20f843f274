-- No bit of the bytes so far is set.
use Rattle.std.proofs.Common.{◌≡◌, ◌<◌, ◌≤◌, ℕ, ◌*◌, false}
use Rattle.region_book.specs.RegionBytes.{bits_in}
use Rattle.region_book.specs.RegionRows.{bit_in}
use Rattle.region_book.proofs.bits.any_set.Given as goal

abbrev pub invariant-loop-byte : goal.invariant-loop-byte
invariant-loop-byte l = (k : ℕ) → l.fn.first ≤ k → k < l.end → k < 8 * l.byte → bit_in (bits_in l.mem) k ≡ false
