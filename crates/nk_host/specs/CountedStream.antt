-- A reader or a writer with the count of its faults, as contracts see it.
use Rattle.std.specs.Prelude.{ℕ}
use Rattle.nk_host.specs.declared.counted.Counted.{Counted}

-- the reader or the writer
abbrev pub stream_of : {T : Type 0} → Counted T → T
stream_of counted = counted.inner

-- the count of its faults
abbrev pub faults_of : {T : Type 0} → Counted T → ℕ
faults_of counted = counted.faults
