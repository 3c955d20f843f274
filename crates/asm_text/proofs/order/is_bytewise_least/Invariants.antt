use Rattle.std.proofs.Common.{◌≡◌, drop}
use Rattle.asm_text.specs.LeastSpelling.{is_bytewise_least}
use Rattle.asm_text.proofs.order.is_bytewise_least.Given as goal

-- what is left of the two gives what the whole gives
abbrev pub invariant-loop-i : goal.invariant-loop-i
invariant-loop-i l = is_bytewise_least l.bytes l.other ≡ is_bytewise_least (drop l.i l.bytes) (drop l.i l.other)
