use Rattle.boot_map.proofs.SlotLaws.{slot_walk}
use Rattle.boot_map.proofs.SlotTables.{opening_holds, slot_link, slot_walk_any}
use Rattle.boot_map.proofs.laws.slot_law.Goals as goal

pub returns : goal.returns
returns c = record {
  opening = slot_walk;
  any = slot_walk_any;
  held = opening_holds;
  link = slot_link;
}
