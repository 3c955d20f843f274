use Rattle.phys_mem.specs.Memory.{entry_in}
use Rattle.boot_map.specs.KernelSlot.{HoldsSlot, HoldsOpeningTables}
use Rattle.nk_body.proofs.OpeningSound.{OpeningLaws, opening_kept, opening_sound}
use Rattle.nk_body.proofs.laws.opening_sound_law.Goals as goal

pub returns : goal.returns
returns c = record {
  sound = λ b m frames layout pages opening.
      let tables : HoldsOpeningTables b frames (entry_in m) = c.held_law.ensures.opening b m frames opening layout in
      let slot : HoldsSlot b frames (entry_in m) = c.held_law.ensures.slot b frames (entry_in m) tables in
      let fixed = c.opening_kinds_law.ensures.fixed b frames in
      let laws : OpeningLaws b m frames = record {
        count = c.opening_kinds_law.ensures.count b frames;
        each = c.opening_kinds_law.ensures.each b frames;
        handler = fixed.2;
        root = c.opening_kinds_law.ensures.root b frames;
        area = fixed.6;
        directory = fixed.7;
        slot_root = fixed.4;
        area_root = fixed.5;
        levels = c.opening_entries_law.ensures.levels b frames;
        leaf = λ f i. c.opening_entries_law.ensures.leaf b frames f i (entry_in m) layout pages tables;
        link = λ f i. c.opening_entries_law.ensures.link b frames f i (entry_in m) layout tables;
        form = λ f i. c.opening_entries_law.ensures.form b frames f i (entry_in m) layout tables;
        slot = λ f. c.opening_entries_law.ensures.slot b frames f (entry_in m) layout tables;
        named = λ i. c.opening_entries_law.ensures.named b frames i (entry_in m) layout slot;
        slot_names = λ i. c.opening_entries_law.ensures.slot_names b frames i (entry_in m) layout slot;
        area_names = λ i. c.opening_entries_law.ensures.area_names b frames i (entry_in m) layout slot;
        lawful_leaf = c.sound_law.ensures.lawful_leaf;
        lawful_link = c.sound_law.ensures.lawful_link;
      } in
      opening_sound b m frames laws layout.least opening;
  kept = λ b frames layout. opening_kept b frames layout.least (c.opening_kinds_law.ensures.each b frames);
}
