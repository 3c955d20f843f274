use Rattle.boot_map.proofs.SlotLeaves.{code_kind, slot_executable, slot_in_memory, slot_supervisor, slot_writable}
use Rattle.boot_map.proofs.laws.slot_leaf_law.Goals as goal

pub returns : goal.returns
returns c = record {
  supervisor = slot_supervisor;
  in_memory = slot_in_memory;
  executable = slot_executable;
  code = code_kind;
  writable = slot_writable;
}
