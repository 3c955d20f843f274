use Rattle.page_desc.proofs.PageTableStores.{StoreLaws, described_stays, sound_stays, tables_stay}
use Rattle.page_desc.proofs.PageTableValues.{links_are, loose_is, value_of_fixed, value_of_table}
use Rattle.page_desc.proofs.laws.page_tables_law.Goals as goal

pub returns : goal.returns
returns c =
    let laws : StoreLaws = record { memory = c.memory_law.ensures; frame = c.frame_law.ensures } in
    record {
      loose = λ kinds root m frame sound. loose_is kinds root m sound frame;
      links = λ kinds root m frame sound. links_are kinds root m sound frame;
      of_table = value_of_table;
      of_fixed = value_of_fixed;
      stays = λ kinds root m ws free. tables_stay laws kinds m ws free root;
      sound = λ kinds root m ws sound free. sound_stays laws kinds m ws free root sound;
      described = described_stays laws;
    }
