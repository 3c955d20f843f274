-- Why a trace isn't whole.
use Rattle.std.specs.Prelude.{ℕ, ⊤, Result, Ok, Err}
use Rattle.nk_host.specs.FaultCounts.{RoseTo}
use Rattle.step_trace.specs.declared.ends.TraceFault.{TraceFault}
use Rattle.step_trace.specs.declared.ends.TraceFault.TheVariants as fault

-- where the sink cut it, the count of the sink's faults rose
abbrev pub FailsBy : {A : Type 0} → ℕ → ℕ → Result A TraceFault → Type 0
FailsBy before after (Ok done) = ⊤
FailsBy before after (Err (fault.Cut it)) = RoseTo before after
FailsBy before after (Err fault.NoMemory) = ⊤
