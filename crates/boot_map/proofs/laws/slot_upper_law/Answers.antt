use Rattle.boot_map.proofs.SlotUppers.{slot_upper_any, slot_upper_below, slot_upper_in_memory}
use Rattle.boot_map.proofs.laws.slot_upper_law.Goals as goal

pub returns : goal.returns
returns c = record {
  any = slot_upper_any;
  in_memory = slot_upper_in_memory;
  below = slot_upper_below c.upper_law.ensures;
}
