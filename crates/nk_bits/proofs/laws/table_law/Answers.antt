use Rattle.nk_bits.proofs.TableFunctions.{replaced_here, replaced_elsewhere, zeroed_here, zeroed_elsewhere, emptied_slot, emptied_here, emptied_elsewhere}
use Rattle.nk_bits.proofs.laws.table_law.Goals as goal

pub returns : goal.returns
returns c = record {
  replaced = replaced_here;
  replaced_elsewhere = replaced_elsewhere;
  zeroed = zeroed_here;
  zeroed_elsewhere = zeroed_elsewhere;
  emptied_slot = emptied_slot;
  emptied = emptied_here;
  emptied_elsewhere = emptied_elsewhere;
}
