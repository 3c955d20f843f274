use Rattle.phys_mem.specs.Memory.{entry_in}
use Rattle.gate_state.proofs.laws.entry_forms_law.Goals as goal

pub returns : goal.returns
returns c = record {
  tables = λ o s f i admitted guarded inside table present. (
    guarded.tables.levels f,
    c.sound_law.ensures.form s.kinds (entry_in s.memory) f i guarded.tables.tables inside table (guarded.tables.levels f) present,
  );
  slot_links = λ o s f i admitted guarded inside table present.
      c.opening_entries_law.ensures.slot_links o.image o.frames f i (entry_in s.memory) admitted.layout
      guarded.memory.slot inside table present;
  slot_leaves = λ o s f i admitted guarded inside table present.
      c.opening_entries_law.ensures.slot_leaves o.image o.frames f i (entry_in s.memory) admitted.layout
      guarded.memory.slot inside table present;
}
