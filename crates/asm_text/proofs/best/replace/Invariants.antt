use Rattle.std.proofs.Common.{◌≡◌, take}
use Rattle.asm_text.proofs.best.replace.Given as goal

-- the first bytes so far
abbrev pub invariant-loop-byte : goal.invariant-loop-byte
invariant-loop-byte l = l.best.items ≡ take l.byte-index l.bytes
