-- Memory with frames hidden at worked values: which frames are the books', and that what stands in them isn't seen.
use Rattle.std.proofs.Common.{◌≡◌, ◌≢◌, ℕ, ◌*◌, ◌/◌, true, false, List, [], ◌∷◌, length, arith, refl, ap, ◌∙◌}
use Rattle.phys_mem.specs.Memory.{byte_at}
use Rattle.phys_mem.specs.MaskedMemory.{is_book_frame, masked, seen}
use Rattle.phys_mem.proofs.MaskedBytes.{hidden_lost}

-- 512 frames have 2 frames of descriptors: the books' are 26 to 65
least_below : is_book_frame 512 25 ≡ false
unfolding is_book_frame
least_below = refl

least_first : is_book_frame 512 26 ≡ true
unfolding is_book_frame
least_first = refl

least_last : is_book_frame 512 65 ≡ true
unfolding is_book_frame
least_last = refl

least_past : is_book_frame 512 66 ≡ false
unfolding is_book_frame
least_past = refl

-- one frame more has a third
odd_last : is_book_frame 513 66 ≡ true
unfolding is_book_frame
odd_last = refl

odd_past : is_book_frame 513 67 ≡ false
unfolding is_book_frame
odd_past = refl

-- 16,384 frames have 64 of them: the books' are 26 to 127
many_last : is_book_frame 16384 127 ≡ true
unfolding is_book_frame
many_last = refl

many_past : is_book_frame 16384 128 ≡ false
unfolding is_book_frame
many_past = refl

-- 65,536 frames, the most that a memory has, have 256 of them: the books' are 26 to 319
most_below : is_book_frame 65536 25 ≡ false
unfolding is_book_frame
most_below = refl

most_first : is_book_frame 65536 26 ≡ true
unfolding is_book_frame
most_first = refl

most_last : is_book_frame 65536 319 ≡ true
unfolding is_book_frame
most_last = refl

most_past : is_book_frame 65536 320 ≡ false
unfolding is_book_frame
most_past = refl

-- bytes of frame 0, which no book has, and the same where every frame is hidden
bytes_seen : masked (is_book_frame 512) (7 ∷ 8 ∷ []) ≡ 7 ∷ 8 ∷ []
unfolding masked is_book_frame
bytes_seen = refl

bytes_hidden : masked (λ f. true) (7 ∷ 8 ∷ []) ≡ 0 ∷ 0 ∷ []
unfolding masked
bytes_hidden = refl

-- a memory of 512 frames with a byte in frame 26 that isn't 0 is not as it is seen
book_is_lost : (m : List ℕ) → length m ≡ 4096 * 512 → byte_at m (4096 * 26) ≢ 0 → seen m ≢ m
book_is_lost m size stands =
    let frames : length m / 4096 ≡ 512 = omega (arith, size) in
    hidden_lost (is_book_frame (length m / 4096)) m (4096 * 26) (ap (λ n. is_book_frame n (4096 * 26 / 4096)) frames ∙ least_first) stands
