use Rattle.nk_bits.proofs.AccessLaws.{accessed_passes, accessed_serves, reached_passes, reached_serves, page_held, reached_kept, reached_within}
use Rattle.nk_bits.proofs.FaultBounds.{accessed_small}
use Rattle.nk_bits.proofs.laws.access_law.Goals as goal

pub returns : goal.returns
returns c = record {
  kept = λ view access test tlb va width walked fits some all. accessed_passes test view access walked tlb va width fits some all;
  served = λ view access test tlb va width walked fits some all. accessed_serves test view access walked tlb va width fits some all;
  reached_kept = λ view access test tlb va walked canonical all. reached_passes test view access walked tlb va canonical all;
  reached_served = λ view access test tlb va walked canonical all. reached_serves test view access walked tlb va canonical all;
  held = page_held;
  found_again = reached_kept;
  within = λ view access size tlb va whole canonical names. reached_within view access size whole tlb va canonical names;
  fault = accessed_small;
}
