use Rattle.boot_map.proofs.EntryLaws.{entry_stands}
use Rattle.boot_map.proofs.WalkLaws.{same_walk}
use Rattle.boot_map.proofs.laws.tables_law.Goals as goal

pub returns : goal.returns
returns c = record {
  entries = entry_stands;
  walk = same_walk;
}
