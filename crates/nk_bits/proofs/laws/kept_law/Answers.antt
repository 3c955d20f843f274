use Rattle.std.proofs.Common.{◌≡◌, true}
use Rattle.nk_bits.proofs.KeptLaws.{flushed_passes, faulted_passes, invalidated_passes, forgotten_passes, entry_forgotten_passes, entry_kept_passes, with_leaf_passes, walked_passes, translation_passes, after_passes, kept_for_has, walk_by_same, lies, named, lies_walked}
use Rattle.nk_bits.proofs.laws.kept_law.Goals as goal

pub returns : goal.returns
returns c = record {
  flushed = flushed_passes;
  faulted = faulted_passes;
  invalidated = invalidated_passes;
  forgotten = forgotten_passes;
  entry_forgotten = entry_forgotten_passes;
  entry_kept = entry_kept_passes;
  filled = with_leaf_passes;
  found = λ view test tlb va walked all canonical. walked_passes view test tlb.upper va walked all.upper canonical;
  translated = translation_passes;
  after = after_passes;
  kept_passes = λ test tlb level page all. kept_for_has (λ entry. test.upper entry ≡ true) tlb.upper level page all.upper;
  walk_by_same = λ t u frames root other page test tlb all below begins. walk_by_same (λ entry. test.upper entry ≡ true) t u frames root other page tlb.upper all.upper below begins;
  lies = lies;
  named = named;
  lies_walked = lies_walked;
}
