-- The bytes of a made image by their places.
use Rattle.std.proofs.Common.{◌≡◌, ℕ, ◌<◌, List, length, arith}
use Rattle.std.specs.Prelude.{slice_index}
use Rattle.std.proofs.lemmas.List.FromFn.{get_or-map-range_with_len, length-map-range_with_len}
use Rattle.image_maker.specs.MadeImage.{image_byte, image_len, image_of_number}

-- how many bytes there are, and each of them
pub made_length : (n : ℕ) → length (image_of_number n) ≡ image_len n
unfolding image_of_number
made_length n = length-map-range_with_len (image_byte n) 0 (image_len n)

pub made_byte : (n at : ℕ) → at < image_len n → slice_index (image_of_number n) at ≡ image_byte n at
unfolding image_of_number
made_byte n at within = get_or-map-range_with_len (image_byte n) 0 (image_len n) at at 0 within (omega arith)

-- a file as long as the image of a number that begins with its headers
pub record HasHeaders (n : ℕ) (b : List ℕ) : Type 0 where
  pub long : length b ≡ image_len n
  pub bytes : (at : ℕ) → at < 176 → slice_index b at ≡ image_byte n at

pub made_headers : (n : ℕ) → HasHeaders n (image_of_number n)
made_headers n = record { long = made_length n; bytes = λ at below. made_byte n at (omega arith) }
