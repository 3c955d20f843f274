-- The bytes of the file behind its headers, and its bytes one after another.
use Rattle.std.proofs.Common.{◌≡◌, ℕ, ◌+◌, ◌-◌, ◌*◌, ◌<◌, ◌≤◌, ◌∷◌, ◌++◌, List, [], map, length, sym, ap, ◌∙◌, arith}
use Rattle.std.specs.Prelude.{if◌then◌else◌, nat_lt, slice_index}
use Rattle.std.specs.List.{range_with_len}
use Rattle.std.proofs.lemmas.Bool.{lt-ltb, le-ltb}
use Rattle.std.proofs.lemmas.List.FromFn.{length-map-range_with_len, map-range_with_len_more}
use Rattle.image_maker.specs.MadeImage.{image_byte, image_len, image_of_number, script_byte, script_pages, user_code}

-- behind the text come zeros, the script and the user's code
behind_text : (n at : ℕ) → 4165 ≤ at → image_byte n at ≡ (
    if nat_lt at 8192 then 0
    else if nat_lt at (8192 + 4096 * script_pages n) then script_byte n (at - 8192)
    else slice_index user_code (at - (8192 + 4096 * script_pages n)))
unfolding image_byte
behind_text n at past =
    simp (
      le-ltb at 64 (omega arith),
      le-ltb at 120 (omega arith),
      le-ltb at 176 (omega arith),
      le-ltb at 4096 (omega arith),
      le-ltb at 4165 past,
    )

pub gap_byte : (n at : ℕ) → 4165 ≤ at → at < 8192 → 0 ≡ image_byte n at
gap_byte n at past below = sym (behind_text n at past ∙ simp (lt-ltb at 8192 below))

pub script_place : (n at : ℕ) → 8192 ≤ at → at < 8192 + 4096 * script_pages n →
    script_byte n (at - 8192) ≡ image_byte n at
script_place n at past below =
    sym (behind_text n at (omega arith)
    ∙ simp (le-ltb at 8192 past, lt-ltb at (8192 + 4096 * script_pages n) below))

pub user_place : (n at : ℕ) → 8192 + 4096 * script_pages n ≤ at →
    slice_index user_code (at - (8192 + 4096 * script_pages n)) ≡ image_byte n at
user_place n at past =
    sym (behind_text n at (omega arith)
    ∙ simp (le-ltb at 8192 (omega arith), le-ltb at (8192 + 4096 * script_pages n) past))

-- the bytes below a place, and the one at it, are the bytes below the next place
pub made_more : (n at : ℕ) (file : List ℕ) → file ≡ map (image_byte n) (range_with_len 0 at) →
    file ++ image_byte n at ∷ [] ≡ map (image_byte n) (range_with_len 0 (at + 1))
made_more n at file made =
    ap (λ xs. xs ++ image_byte n at ∷ []) made ∙ sym (map-range_with_len_more (image_byte n) 0 at at (omega arith))

pub made_len : (n at : ℕ) (file : List ℕ) → file ≡ map (image_byte n) (range_with_len 0 at) → length file ≡ at
made_len n at file made = ap length made ∙ length-map-range_with_len (image_byte n) 0 at

pub made_all : (n at : ℕ) (file : List ℕ) → file ≡ map (image_byte n) (range_with_len 0 at) → at ≡ image_len n →
    file ≡ image_of_number n
unfolding image_of_number
made_all n at file made end = made ∙ ap (λ count. map (image_byte n) (range_with_len 0 count)) end
