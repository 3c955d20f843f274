-- Memory with some frames hidden: what is read of it by those who may not know what stands there. The nested kernel's
-- books are hidden so: frames 26 to 63, and behind them the frames of descriptors, which have 16 bytes for each frame.
use Rattle.std.specs.Prelude.{ℕ, ◌+◌, ◌/◌, Bool, ◌&&◌, nat_le, nat_lt, if◌then◌else◌, List, length, map}
use Rattle.std.specs.List.{range_with_len}
use Rattle.phys_mem.specs.Memory.{byte_at}

-- the memory in which each byte of a hidden frame reads as 0
unfoldable pub masked : (ℕ → Bool) → List ℕ → List ℕ
masked hidden m = map (λ p. if hidden (p / 4096) then 0 else byte_at m p) (range_with_len 0 (length m))

-- the frame is one of the books', in a memory of so many frames
unfoldable pub is_book_frame : ℕ → ℕ → Bool
is_book_frame frames f = nat_le 26 f && nat_lt f (64 + (frames + 255) / 256)

-- the memory as the machine and its tables see it
abbrev pub seen : List ℕ → List ℕ
seen m = masked (is_book_frame (length m / 4096)) m
