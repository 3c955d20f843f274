use Rattle.std.proofs.Common.{◌∙◌}
use Rattle.boot_map.proofs.SlotLaws.{root_entry_511}
use Rattle.boot_map.proofs.SlotTables.{slot_link}
use Rattle.boot_map.proofs.WalkLaws.{held_root, held_slot, held_walk, opening_tables, table_kept}
use Rattle.boot_map.proofs.laws.held_law.Goals as goal

pub returns : goal.returns
returns c = record {
  opening = opening_tables;
  slot = held_slot;
  root = λ b frames t layout holds. held_root b frames t layout holds ∙ root_entry_511 b frames ∙ slot_link;
  walk = held_walk;
  kept = table_kept;
}
