use Rattle.std.proofs.Common.{◌≡◌, ◌≤◌, length}
use Rattle.nk_bits.specs.Translations.{NamesFramesIn}
use Rattle.access_tests.proofs.access.steps.refusals.Given as goal

abbrev pub invariant-loop-part : goal.invariant-loop-part
invariant-loop-part l = record {
  same_length : length l.mem ≡ 65536;
  frames : NamesFramesIn (length l.mem) l.tlb;
  counted : l.count ≤ l.part;
}
