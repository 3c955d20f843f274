use Rattle.std.proofs.Common.{◌≡◌, ℕ, ◌<◌, get_or}
use Rattle.boot_map.specs.Opening.{idt_and_tss_byte}
use Rattle.boot_map.proofs.opening.fill_idt_and_tss.Given as goal

abbrev pub invariant-loop-offset : goal.invariant-loop-offset
invariant-loop-offset l = (o : ℕ) → o < l.offset → get_or l.bytes o 0 ≡ idt_and_tss_byte o
