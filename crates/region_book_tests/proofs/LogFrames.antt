-- The frames of the log are the books'.
use Rattle.std.proofs.Common.{◌≡◌, ℕ, ◌+◌, ◌/◌, ◌<◌, ◌≤◌, ◌&&◌, true, arith}
use Rattle.std.proofs.lemmas.Bool.{le-leb, lt-ltb}
use Rattle.phys_mem.specs.MaskedMemory.{is_book_frame}

pub log_place : (frames p : ℕ) → 0x1A000 ≤ p → p < 0x2A000 → is_book_frame frames (p / 4096) ≡ true
unfolding is_book_frame
log_place frames p low high =
    let least : 26 ≤ p / 4096 = omega (arith, low) in
    let most : p / 4096 < 64 + (frames + 255) / 256 = omega (arith, high) in
    λ i. le-leb 26 (p / 4096) least i && lt-ltb (p / 4096) (64 + (frames + 255) / 256) most i
