use Rattle.std.proofs.Common.{◌≡◌, ◌-◌, ◌^◌, ◌*◌, ◌<◌, drop}
use Rattle.decode_fields.specs.Immediates.{number_of}
use Rattle.decode_fields.proofs.number.number.Given as goal

-- the bytes from i on are read
abbrev pub invariant-loop-i : goal.invariant-loop-i
invariant-loop-i l = (l.number ≡ number_of (l.size - l.i) (drop l.i l.bytes)) × (l.number < 2 ^ (8 * (l.size - l.i)))
