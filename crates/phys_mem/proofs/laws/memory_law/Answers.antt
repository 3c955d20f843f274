use Rattle.phys_mem.proofs.MemoryLaws.{length-stored, stored-append, byte_elsewhere, number_elsewhere, number_stored, number_bound, stored_bytes, stores_within, stores_bytes}
use Rattle.phys_mem.proofs.laws.memory_law.Goals as goal

pub returns : goal.returns
returns c = record {
  length = length-stored;
  append = stored-append;
  byte_elsewhere = byte_elsewhere;
  number_elsewhere = number_elsewhere;
  number_stored = number_stored;
  number_bound = number_bound;
  bytes = stored_bytes;
  places = stores_within;
  values = stores_bytes;
}
