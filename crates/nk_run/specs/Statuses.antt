-- The exit statuses.
use Rattle.std.specs.Prelude.{ℕ}
use Rattle.nk_run.specs.declared.status.Status.{Status}
use Rattle.nk_run.specs.declared.status.Status.TheVariants.{Done, Refused, Usage, Unread, Cut, NoMemory, WrongLine, TooLong, Unfit, NoRegion, NoAddress}

abbrev pub status_number : Status → ℕ
status_number Done = 0
status_number Refused = 1
status_number Usage = 2
status_number Unread = 3
status_number Cut = 4
status_number NoMemory = 5
status_number WrongLine = 6
status_number TooLong = 7
status_number Unfit = 8
status_number NoRegion = 9
status_number NoAddress = 10
