-- Bytes that come in pieces. Pieces that follow each other without a gap are one run.
use Rattle.std.specs.Prelude.{◌≡◌, ℕ, ◌+◌, ◌-◌, ◌==◌, if◌then◌else◌, List, [], ◌++◌, length, drop, slice_get, Option, MatchOption}
use Rattle.byte_scanner.specs.declared.encoding.Found.{Found}
use Rattle.byte_scanner.specs.FirstFound.{found_with}
use Rattle.byte_scanner.specs.LeastPlace.{IsNowhere, IsLeastPlace}
use Rattle.byte_scanner.specs.Scanned.{Scanned}

-- the last two bytes, or all where there are fewer
abbrev pub last_two : List ℕ → List ℕ
last_two bytes = drop (length bytes - 2) bytes

-- the scanner stands behind this run, which begins at this address and holds no protected encoding
pub record IsBehind (s : Scanned) (start : ℕ) (run : List ℕ) : Type 0 where
  pub ends : s.end ≡ start + length run
  pub keeps : s.kept ≡ last_two run
  pub clean : IsNowhere (slice_get run)

-- the run that ended at `end`, where a piece at this address goes on with it; behind a gap there is none
abbrev pub run_before : ℕ → ℕ → List ℕ → List ℕ
run_before end at run = if end == at then run else []

-- the first address of the run that a piece at this address goes on with, or begins
abbrev pub start_before : ℕ → ℕ → ℕ → ℕ
start_before end at start = if end == at then start else at

-- the protected encoding at the least place of a run that begins at this address
pub record IsFirstIn (start : ℕ) (run : List ℕ) (found : Found) : Type 0 where
  pub place : ℕ
  pub least : IsLeastPlace (slice_get run) place
  pub is : found ≡ found_with (slice_get run) place (start + place)

-- what a piece at this address gives a scanner: it stands behind the run with the piece, or has its first encoding
abbrev pub Feeds : Scanned → Scanned → ℕ → List ℕ → Option Found → Type 0
Feeds before after at piece found = (start : ℕ) (run : List ℕ) → IsBehind before start run →
    let first = start_before before.end at start in
    let whole = run_before before.end at run ++ piece in
    MatchOption found (IsBehind after first whole) (IsFirstIn first whole)
