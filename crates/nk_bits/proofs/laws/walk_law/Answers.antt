use Rattle.nk_bits.proofs.WalkLaws.{walk_by_level, walk_past, walk_missing, walk_end, leaf_in_memory}
use Rattle.nk_bits.proofs.laws.walk_law.Goals as goal

pub returns : goal.returns
returns c = record {
  by_level = walk_by_level;
  past = walk_past;
  missing = walk_missing;
  end = walk_end;
  in_memory = leaf_in_memory;
}
