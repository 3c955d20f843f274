-- The encoding at an address, and the first one of an image.
use Rattle.std.specs.Prelude.{ℕ, ◌+◌, ◌-◌, ◌==◌, List, [], ◌∷◌, if◌then◌else◌, Option, option_map, unwrap_or, find}
use Rattle.std.specs.List.{range_with_len}
use Rattle.elf_image.specs.Home.{home_end, home_start}
use Rattle.byte_scanner.specs.declared.encoding.Found.{Found}
use Rattle.decode_fields.specs.Protected.{length_at, is_protected_at}
use Rattle.byte_scanner.specs.ImageCode.{code_at}

-- the bytes of the encoding at a place, 0 past its length
abbrev pub encoding_from : (ℕ → Option ℕ) → ℕ → List ℕ
encoding_from byte_at place =
    unwrap_or (byte_at place) 0
    ∷ unwrap_or (byte_at (place + 1)) 0
    ∷ (if length_at byte_at place == 3 then unwrap_or (byte_at (place + 2)) 0 else 0)
    ∷ []

-- the encoding at a place, as one that stands at an address
abbrev pub found_with : (ℕ → Option ℕ) → ℕ → ℕ → Found
found_with byte_at place at = record {
  at = at;
  bytes = encoding_from byte_at place;
  count = length_at byte_at place;
}

-- the least of n places from `from` on at which a protected encoding stands
abbrev pub least_from : (ℕ → Option ℕ) → ℕ → ℕ → Option ℕ
least_from byte_at from n = find (is_protected_at byte_at) (range_with_len from n)

-- the protected encoding at the least address of the image's home
unfoldable pub first_found : List ℕ → Option Found
first_found b =
    option_map (λ at. found_with (code_at b) at at) (least_from (code_at b) home_start (home_end - home_start))
