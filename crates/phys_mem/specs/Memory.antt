-- Memory as one list of bytes (SDM volume 1, 1.3.1): what a read finds, what a store leaves, and the page tables in it.
use Rattle.std.specs.Prelude.{ℕ, zero, suc, ◌+◌, ◌*◌, ◌/◌, ◌%◌, ◌<◌, List, [], ◌∷◌, ◌++◌, length, take, drop, set, replicate, slice_index}

-- the byte at place p; 0 past the end
abbrev pub byte_at : List ℕ → ℕ → ℕ
byte_at m p = slice_index m p

-- each byte is below 256
abbrev pub IsBytes : List ℕ → Type 0
IsBytes m = (p : ℕ) → byte_at m p < 256

-- the number that the n bytes from place p on spell, least significant first
unfoldable pub number_at : List ℕ → ℕ → ℕ → ℕ
number_at m zero p = 0
number_at m (suc n) p = byte_at m p + 256 * number_at m n (p + 1)

-- entry i of the table in frame f: eight bytes
unfoldable pub entry_in : List ℕ → ℕ → ℕ → ℕ
entry_in m f i = number_at m 8 (4096 * f + 8 * i)

-- the stores that put the n low bytes of the number v at place p, least significant first: (place, byte)
unfoldable pub stores : ℕ → ℕ → ℕ → List (ℕ × ℕ)
stores zero p v = []
stores (suc n) p v = (p, v % 256) ∷ stores n (p + 1) (v / 256)

-- the memory after these stores, made in turn
unfoldable pub stored : List ℕ → List (ℕ × ℕ) → List ℕ
stored m [] = m
stored m (w ∷ ws) = stored (set m w.0 w.1) ws

-- the bytes of frame f
unfoldable pub frame_bytes : List ℕ → ℕ → List ℕ
frame_bytes m f = take 4096 (drop (4096 * f) m)

-- the memory with the bytes bs put at place p on
unfoldable pub patched : List ℕ → ℕ → List ℕ → List ℕ
patched m p bs = take p m ++ bs ++ drop (p + length bs) m

-- the memory with every byte of frame f 0
unfoldable pub frame_zeroed : List ℕ → ℕ → List ℕ
frame_zeroed m f = patched m (4096 * f) (replicate 4096 0)
