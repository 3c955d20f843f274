-- The bytes of an access over a page's end, at worked values.
use Rattle.std.proofs.Common.{◌≡◌, ◌+◌, ◌*◌, ◌^◌, [], ◌∷◌, refl}
use Rattle.nk_bits.specs.Accesses.{first_part}
use Rattle.phys_mem.specs.Memory.{number_at, stores}
use Rattle.page_walk.specs.MemoryAccess.{value_at, stores_at, bytes_left}

-- what is stored at these places, and read there: the low part first
crossing_bytes : (stores_at 8190 4 (record { first = 32766; second = 36864 }) 67305985 ≡ (32766, 1) ∷ (32767, 2) ∷ (36864, 3) ∷ (36865, 4) ∷ []) ×
    (value_at (5 ∷ 6 ∷ 7 ∷ 8 ∷ []) 8190 4 (record { first = 2; second = 0 }) ≡ 7 + 256 * 8 + 256 ^ 2 * 5 + 256 ^ 3 * 6)
unfolding first_part stores number_at
crossing_bytes = (refl, refl)

-- a fetch of one page: fifteen bytes, or fewer at its end
bytes_to_the_end : (bytes_left 8192 ≡ 15) × (bytes_left 12273 ≡ 15) × (bytes_left 12274 ≡ 14) × (bytes_left 12287 ≡ 1)
unfolding bytes_left
bytes_to_the_end = (refl, refl, refl, refl)
