-- A plan read in part.
use Rattle.std.specs.Prelude.{List, ◌++◌, ℕ, Result, Ok, Err}
use Rattle.irq_plan.specs.declared.event.Event.{Event}

-- events that were read, before what the rest of the file gives
abbrev pub behind : List Event → Result (List Event) ℕ → Result (List Event) ℕ
behind done (Ok later) = Ok (done ++ later)
behind done (Err line) = Err line
