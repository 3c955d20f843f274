use Rattle.std.proofs.Common.{length}
use Rattle.nk_bits.specs.Translations.{NamesFramesIn}
use Rattle.nk_body_tests.proofs.tests.bytes_at.Given as goal

abbrev pub invariant-loop-offset : goal.invariant-loop-offset
invariant-loop-offset l = NamesFramesIn (length l.mem) l.tlb
