-- A sink in memory, as contracts see it.
use Rattle.std.specs.Prelude.{ℕ, ◌-◌, min, Bool, ◌||◌, nat_lt, List, ◌++◌, length, take, if◌then◌else◌}
use Rattle.nk_host.specs.Attempts.{is_due}
use Rattle.nk_host.specs.FaultCounts.{raised}

-- the bytes taken, how many there is room for in all, which puts fail after how many bytes, the puts so far, and the
-- faults
pub record Tray : Type 0 where
  pub taken : List ℕ
  pub room : ℕ
  pub failing : List ℕ
  pub cut : ℕ
  pub puts : ℕ
  pub faults : ℕ

-- how many more bytes fit
abbrev pub room_left : Tray → ℕ
room_left t = t.room - length t.taken

-- the put of some bytes fails: its number is among the failing ones, or the bytes don't fit
abbrev pub put_fails : Tray → List ℕ → Bool
put_fails t bytes = is_due t.failing (raised t.puts) || nat_lt (room_left t) (length bytes)

-- how many of the bytes the put takes: at most those that fit, and at most `cut` where its number is among the failing
-- ones
abbrev pub count_taken : Tray → List ℕ → ℕ
count_taken t bytes =
    let fitting = min (length bytes) (room_left t) in
    if is_due t.failing (raised t.puts) then min fitting t.cut else fitting

-- the sink after the put of at least one byte
abbrev pub after_put : Tray → List ℕ → Tray
after_put t bytes = record t {
  taken = t.taken ++ take (count_taken t bytes) bytes;
  puts = raised t.puts;
  faults = if put_fails t bytes then raised t.faults else t.faults;
}
