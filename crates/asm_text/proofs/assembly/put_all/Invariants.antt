use Rattle.std.proofs.Common.{◌≡◌, ◌++◌, take}
use Rattle.asm_text.proofs.assembly.put_all.Given as goal

-- the first bytes so far, behind those that stood there
abbrev pub invariant-loop-byte : goal.invariant-loop-byte
invariant-loop-byte l = l.bytes.items ≡ l.initial.bytes.items ++ take l.byte-index l.others
