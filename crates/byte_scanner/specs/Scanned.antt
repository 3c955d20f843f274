-- What a scanner knows of its run.
use Rattle.std.specs.Prelude.{ℕ, List}

-- the run's last bytes, and the address past its last byte
pub record Scanned : Type 0 where
  pub kept : List ℕ
  pub end : ℕ
