use Rattle.nk_bits.proofs.KeptLaws.{flushed_within, faulted_within, invalidated_within, forgotten_within, entry_forgotten_within, entry_kept_within, with_leaf_within, walk_by_in_memory, after_within}
use Rattle.nk_bits.proofs.laws.named_law.Goals as goal

pub returns : goal.returns
returns c = record {
  flushed = flushed_within;
  faulted = faulted_within;
  invalidated = invalidated_within;
  forgotten = forgotten_within;
  entry_forgotten = entry_forgotten_within;
  entry_kept = entry_kept_within;
  filled = with_leaf_within;
  found = λ t frames root page tlb. walk_by_in_memory t frames root page tlb.upper;
  after = after_within;
}
