use Rattle.std.proofs.Common.{◌≡◌, ◌++◌, drop}
use Rattle.hex.specs.Hex.{encode_lower}
use Rattle.step_trace.proofs.words.put_bytes.Given as goal

abbrev pub invariant-loop-i : goal.invariant-loop-i
invariant-loop-i l = l.line.items ++ encode_lower (drop l.i l.bytes) ≡ l.initial.line.items ++ encode_lower l.bytes
