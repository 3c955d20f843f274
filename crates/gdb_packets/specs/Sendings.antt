-- What is left of a sink where a packet's bytes are taken up in pieces.
use Rattle.std.specs.Prelude.{ℕ, ◌+◌, ◌%◌, ◌≤◌, List, ◌++◌, fold, Option, Result, OnErr, OnOk}
use Rattle.nk_host.specs.FaultCounts.{RoseTo}
use Rattle.nk_host.specs.PiecesOut.{MovedOn}
use Rattle.nk_host.specs.Taken.{AppendsPrefix}

-- bytes were taken up behind those that waited, or a fault cut them
pub record IsTakenUp {O A E : Type 0} (taken : O → Option (List ℕ)) (faults : O → ℕ) (old new : O)
    (held later bytes : List ℕ) (result : Result A E) : Type 0 where
  pub never_falls : faults old ≤ faults new
  pub failed : OnErr result (RoseTo (faults old) (faults new))
  pub moved : OnOk result (MovedOn (taken old) (taken new) held later bytes)
  pub cut : OnErr result (AppendsPrefix (taken old) (taken new) (held ++ bytes))

-- a sum with that of further bytes
abbrev pub sum_behind : ℕ → List ℕ → ℕ
sum_behind sum bytes = fold (λ total byte. (total + byte) % 256) sum bytes
