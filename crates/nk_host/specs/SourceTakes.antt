-- What a take from a source leaves of it, whatever the source tells.
use Rattle.std.specs.Prelude.{◌≡◌, ℕ, ◌≤◌, List, length, Option, Result, IfOk, OnErr, OnOk}
use Rattle.std.specs.Io.KnownBytes.{ReadConsumes}
use Rattle.nk_host.specs.FaultCounts.{RoseTo}

-- bytes were taken into a block, which keeps its length: by what the source's type tells of a value, the bytes that are left
-- and the count of faults, from the old value to the new one
pub record IsSourceTaken {I E : Type 0} (left : I → Option (List ℕ)) (faults : I → ℕ) (old new : I) (before block : List ℕ)
    (taken : Result ℕ E) : Type 0 where
  pub never_falls : faults old ≤ faults new
  pub failed : OnErr taken (RoseTo (faults old) (faults new))
  pub kept : OnOk taken (faults new ≡ faults old)
  pub size : length block ≡ length before
  pub bound : IfOk taken (λ n. n ≤ length block)
  pub bytes : ReadConsumes (left old) (left new) taken block
