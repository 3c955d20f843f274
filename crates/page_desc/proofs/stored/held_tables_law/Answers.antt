use Rattle.page_desc.proofs.PageTableStores.{StoreLaws}
use Rattle.page_desc.proofs.SeenTables.{descriptors_stay, entries_seen, stores_seen, tables_held_after, unhidden, walks_seen}
use Rattle.page_desc.proofs.stored.held_tables_law.Goals as goal

pub returns : goal.returns
returns c =
    let laws : StoreLaws = record { memory = c.memory_law.ensures; frame = c.frame_law.ensures } in
    record {
      stores = λ frames root m ws held free shown. (
        stores_seen c.mask_law.ensures frames root m held laws ws free shown,
        descriptors_stay c.mask_law.ensures frames root m held laws ws free shown,
        tables_held_after c.mask_law.ensures frames root m held laws ws free shown,
      );
      unhidden = λ frames root f m held shown. unhidden c.mask_law.ensures frames root m held f shown;
      entries = λ frames root f i m held small shown. entries_seen c.mask_law.ensures frames root m held f i small shown;
      walks = λ frames root page m held. walks_seen c.mask_law.ensures frames root m held page;
    }
