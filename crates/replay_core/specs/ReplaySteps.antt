-- What a line leaves to be done, and what is noted of a call once its source is taken.
use Rattle.std.specs.Prelude.{ℕ}
use Rattle.nk_body.specs.CallRules.{Sourced}
use Rattle.replay_core.specs.declared.heard.ReadCall.{ReadCall}
use Rattle.replay_core.specs.declared.calls.Step.{Step}
use Rattle.replay_core.specs.declared.calls.Step.TheVariants.{Goes, Ends, Stops}
use Rattle.replay_core.specs.JournalLines.{Noted}
use Rattle.replay_core.specs.ReplayedCalls.{WholeReplay, Replayed, stops_at, stops_well}

-- what is noted, with the source that was taken
abbrev pub noted_in : ReadCall → Sourced → Noted
noted_in it source = record { call = it.call; source = source; value = it.value; place = it.place }

-- the replay of a line of this number and of those behind it
abbrev pub after_step : Step → ℕ → Replayed → (Replayed → WholeReplay) → WholeReplay
after_step Goes number s later = later s
after_step Ends number s later = stops_well s
after_step Stops number s later = stops_at number s
