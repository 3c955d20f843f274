use Rattle.std.proofs.Common.{◌≡◌, ◌+◌, ◌-◌, ◌++◌, length}
use Rattle.asm_text.specs.Assembly.{number_bytes_of}
use Rattle.asm_text.proofs.assembly.put_number.Given as goal

-- with the bytes of what is left of the number, all of its bytes stand there
abbrev pub invariant-loop-i : goal.invariant-loop-i
invariant-loop-i l = record {
  counted : length l.bytes.items ≡ length l.initial.bytes.items + l.i;
  whole : l.bytes.items ++ number_bytes_of (l.size - l.i) l.rest ≡ l.initial.bytes.items ++ number_bytes_of l.size l.number;
}
