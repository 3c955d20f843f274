-- The log of writes: records in the order in which they came, and the bytes that they take of the log's 65,536.
use Rattle.std.specs.Prelude.{ℕ, ◌+◌, ◌-◌, List, [], ◌∷◌, ◌++◌, length}
use Rattle.write_log.specs.declared.log.Noted.{Noted}

-- an accepted write: the region's identifier, the first byte's offset in it, and the bytes
pub record LogRecord : Type 0 where
  pub region : ℕ
  pub offset : ℕ
  pub bytes : List ℕ

-- a record takes 24 bytes beside its own
abbrev pub record_size : LogRecord → ℕ
record_size it = 24 + length it.bytes

unfoldable pub log_size : List LogRecord → ℕ
log_size [] = 0
log_size (it ∷ later) = record_size it + log_size later

-- how many bytes are left
abbrev pub room_of : List LogRecord → ℕ
room_of log = 65536 - log_size log

-- the log with a record more
abbrev pub logged : List LogRecord → ℕ → ℕ → List ℕ → List LogRecord
logged log region offset bytes = log ++ record { region = region; offset = offset; bytes = bytes } ∷ []

-- what is told of a record beside its bytes
abbrev pub noted : LogRecord → Noted
noted it = record { region = it.region; offset = it.offset; length = length it.bytes }
