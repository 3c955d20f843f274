use Rattle.boot_map.proofs.EntryFormLaws.{slot_leaf_form, slot_link_form, table_form}
use Rattle.boot_map.proofs.EntryKinds.{leaf_allowed, level_most, link_named, slot_entry_kept}
use Rattle.boot_map.proofs.SlotEntries.{image_names, slot_written}
use Rattle.boot_map.proofs.SlotNames.{area_names, slot_names}
use Rattle.boot_map.proofs.laws.opening_entries_law.Goals as goal

pub returns : goal.returns
returns c = record {
  levels = level_most;
  leaf = leaf_allowed;
  link = link_named;
  slot = slot_entry_kept;
  named = image_names;
  slot_names = slot_names;
  area_names = area_names;
  written = slot_written;
  form = table_form;
  slot_links = λ b frames f i t layout holds small table present. slot_link_form b frames f i t layout holds small table present;
  slot_leaves = λ b frames f i t layout holds small table present. slot_leaf_form b frames f i t layout holds small table present;
}
