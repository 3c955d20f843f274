-- The log at worked values.
use Rattle.std.proofs.Common.{◌≡◌, ℕ, List, [], ◌∷◌, replicate, refl}
use Rattle.write_log.specs.LogRecords.{LogRecord, log_size, logged, noted, room_of}

-- a write in region 256, from offset 3 on
abbrev put : List ℕ → LogRecord
put bytes = record { region = 256; offset = 3; bytes = bytes }

-- a record takes 24 bytes beside its own, and 65,536 are there in all
sizes :
    (log_size [] ≡ 0) ×
    (log_size (put [] ∷ []) ≡ 24) ×
    (log_size (put (1 ∷ 2 ∷ 3 ∷ 4 ∷ 5 ∷ []) ∷ []) ≡ 29) ×
    (log_size (put (replicate 32743 0) ∷ []) ≡ 32767) ×
    (log_size (put [] ∷ put (1 ∷ 2 ∷ 3 ∷ 4 ∷ 5 ∷ []) ∷ put (replicate 32743 0) ∷ []) ≡ 32820)
unfolding log_size
sizes = (refl, refl, refl, refl, refl)

rooms :
    (room_of [] ≡ 65536) ×
    (room_of (put [] ∷ []) ≡ 65512) ×
    (room_of (put (1 ∷ 2 ∷ 3 ∷ 4 ∷ 5 ∷ []) ∷ []) ≡ 65507) ×
    (room_of (put (replicate 32743 0) ∷ []) ≡ 32769) ×
    (room_of (put (replicate 32743 0) ∷ put (replicate 32743 0) ∷ []) ≡ 2) ×
    (room_of (put (replicate 32744 0) ∷ put (replicate 32744 0) ∷ []) ≡ 0)
unfolding log_size
rooms = (refl, refl, refl, refl, refl, refl)

-- a new record stands behind the older ones, as it was written
records :
    (logged [] 256 3 (7 ∷ 8 ∷ []) ≡ record { region = 256; offset = 3; bytes = 7 ∷ 8 ∷ [] } ∷ []) ×
    (logged (put (1 ∷ []) ∷ put (2 ∷ 3 ∷ []) ∷ []) 4096 0 (7 ∷ 8 ∷ [])
    ≡ put (1 ∷ []) ∷ put (2 ∷ 3 ∷ []) ∷ record { region = 4096; offset = 0; bytes = 7 ∷ 8 ∷ [] } ∷ [])
records = (refl, refl)

-- what is told of a record
notes :
    (noted (put []) ≡ record { region = 256; offset = 3; length = 0 }) ×
    (noted (put (7 ∷ 8 ∷ 9 ∷ [])) ≡ record { region = 256; offset = 3; length = 3 })
notes = (refl, refl)
