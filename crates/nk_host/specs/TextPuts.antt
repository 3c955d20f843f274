-- What a put of a text leaves of a sink, whatever the sink tells.
use Rattle.std.specs.Prelude.{ℕ, ◌≤◌, List, Option, Result, OnErr, OnOk}
use Rattle.std.specs.Io.KnownBytes.{Appends}
use Rattle.nk_host.specs.FaultCounts.{RoseTo}
use Rattle.nk_host.specs.Taken.{AppendsPrefix}

-- a text was put, or a fault cut it: by what the sink's type tells of a value, the bytes taken and the count of faults,
-- from the old value to the new one
pub record IsTextPut {O A E : Type 0} (taken : O → Option (List ℕ)) (faults : O → ℕ) (old new : O) (text : List ℕ)
    (put : Result A E) : Type 0 where
  pub never_falls : faults old ≤ faults new
  pub failed : OnErr put (RoseTo (faults old) (faults new))
  pub all : OnOk put (Appends (taken old) (taken new) text)
  pub some : OnErr put (AppendsPrefix (taken old) (taken new) text)
