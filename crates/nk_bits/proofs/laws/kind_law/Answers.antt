use Rattle.nk_bits.proofs.KindLaws.{written_is_storable, allowed_not_fetched, allowed_in_memory, data_in_memory, storable_in_memory, guarded_in_memory, table_in_memory}
use Rattle.nk_bits.proofs.laws.kind_law.Goals as goal

pub returns : goal.returns
returns c = record {
  storable = written_is_storable;
  not_fetched = allowed_not_fetched;
  allowed_in_memory = allowed_in_memory;
  data_in_memory = data_in_memory;
  storable_in_memory = storable_in_memory;
  guarded_in_memory = guarded_in_memory;
  table_in_memory = table_in_memory;
}
