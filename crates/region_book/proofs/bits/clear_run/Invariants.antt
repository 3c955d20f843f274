-- The bits of the bytes so far are cleared, and all others are as they were.
use Rattle.std.proofs.Common.{◌≡◌, ℕ, ◌*◌, ◌&&◌, not, nat_le, nat_lt}
use Rattle.region_book.specs.BitChanges.{DiffersInBits}
use Rattle.region_book.specs.RegionBytes.{bits_in}
use Rattle.region_book.specs.RegionRows.{bit_in}
use Rattle.region_book.proofs.bits.clear_run.Given as goal

abbrev pub invariant-loop-byte : goal.invariant-loop-byte
invariant-loop-byte l = record {
  each : (k : ℕ) → bit_in (bits_in l.mem) k ≡
      (bit_in (bits_in l.fn.mem) k && not (nat_le l.fn.first k && nat_lt k l.end && nat_lt k (8 * l.byte)));
  elsewhere : DiffersInBits l.fn.mem l.mem;
}
