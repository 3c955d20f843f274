-- A source in memory, as contracts see it.
use Rattle.std.specs.Prelude.{ℕ, min, max, Bool, List, length, drop, if◌then◌else◌}
use Rattle.nk_host.specs.Attempts.{is_due}
use Rattle.nk_host.specs.FaultCounts.{raised}

-- the bytes that are left, the most that a take gives, which takes fail, the takes so far, and the faults
pub record Well : Type 0 where
  pub left : List ℕ
  pub most : ℕ
  pub failing : List ℕ
  pub takes : ℕ
  pub faults : ℕ

-- the take of bytes for a block with room fails: its number is among the failing ones
abbrev pub take_fails : Well → Bool
take_fails w = is_due w.failing (raised w.takes)

-- how many bytes a take gives to a block of so many: at least one where there is one
abbrev pub count_given : Well → ℕ → ℕ
count_given w room = min (length w.left) (min room (max w.most 1))

-- the source after the take for a block of so many bytes
abbrev pub after_take : Well → ℕ → Well
after_take w room = record w {
  left = if take_fails w then w.left else drop (count_given w room) w.left;
  takes = raised w.takes;
  faults = if take_fails w then raised w.faults else w.faults;
}
