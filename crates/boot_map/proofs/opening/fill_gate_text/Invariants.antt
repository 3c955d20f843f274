use Rattle.std.proofs.Common.{◌≡◌, ℕ, ◌<◌, get_or}
use Rattle.gate_text.specs.Listing.{gate_byte}
use Rattle.boot_map.proofs.opening.fill_gate_text.Given as goal

abbrev pub invariant-loop-offset : goal.invariant-loop-offset
invariant-loop-offset l = (o : ℕ) → o < l.offset → get_or l.bytes o 0 ≡ gate_byte o
