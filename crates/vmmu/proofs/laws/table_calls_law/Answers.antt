use Rattle.std.proofs.Common.{refl}
use Rattle.vmmu.proofs.CallFacts.{declarable, loadable, removable, writable}
use Rattle.vmmu.proofs.DeclaredTables.{declared_holds, declared_stands}
use Rattle.vmmu.proofs.LowerLaws.{LowerLaws}
use Rattle.vmmu.proofs.RemovedTables.{removed_holds, removed_stands}
use Rattle.vmmu.proofs.WrittenEntries.{written_holds, written_stands}
use Rattle.vmmu.proofs.laws.table_calls_law.Goals as goal

pub returns : goal.returns
returns c =
    let laws : LowerLaws = record {
      memory = c.memory_law.ensures;
      frame = c.frame_law.ensures;
      entries = c.memory_tables_law.ensures;
      sound = c.sound_law.ensures;
      value = c.value_law.ensures;
      counts = c.page_tables_law.ensures;
    } in
    record {
      declared = λ kinds root level frame m holds none.
          let call = declarable _ level frame none in
          (declared_stands laws kinds root level frame m holds call, declared_holds laws kinds root level frame m holds call);
      written = λ kinds root frame index value m holds fits none.
          let call = writable _ frame index value none in
          (written_stands laws kinds root frame index value m holds call fits, written_holds laws kinds root frame index value m holds call fits);
      removed = λ kinds root frame m holds none.
          let call = removable _ frame none in
          (removed_stands laws kinds root frame m holds call, removed_holds laws kinds root frame m holds call);
      loaded = λ kinds root frame m holds none. (
        refl,
        record {
          size = holds.size;
          levels = holds.levels;
          tables = holds.tables;
          root_level = (loadable _ frame none).level;
          slot = holds.slot;
          handler = holds.handler;
          apart = holds.apart;
          slot_root = holds.slot_root;
          area_root = holds.area_root;
          slot_names = holds.slot_names;
          area_names = holds.area_names;
        },
      );
    }
