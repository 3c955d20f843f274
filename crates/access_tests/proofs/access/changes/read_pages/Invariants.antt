use Rattle.std.proofs.Common.{length}
use Rattle.nk_bits.specs.Translations.{NamesFramesIn}
use Rattle.access_tests.proofs.access.changes.read_pages.Given as goal

abbrev pub invariant-loop-page : goal.invariant-loop-page
invariant-loop-page l = NamesFramesIn (length l.mem) l.tlb
