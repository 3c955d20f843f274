-- Counts that no log has.
use Rattle.std.proofs.Common.{ℕ, List, arith}
use Rattle.write_log.specs.LogBytes.{HoldsLog}

-- one byte more than the log's frames have, whatever the records are
overfull : (m : List ℕ) (records : ℕ) → HoldsLog (record { records = records; used = 65537 }) m → ⊥
overfull m records held = let most = held.used in omega (arith, most)
