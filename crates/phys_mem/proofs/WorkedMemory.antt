-- The definitions of memory at worked values.
use Rattle.std.proofs.Common.{◌≡◌, ◌+◌, ◌*◌, ◌^◌, [], ◌∷◌, refl}
use Rattle.phys_mem.specs.Memory.{number_at, stores, stored}

-- eight bytes in memory, and a number stored and read back
bytes_in_order : number_at (1 ∷ 2 ∷ 0 ∷ 0 ∷ 0 ∷ 0 ∷ 0 ∷ 128 ∷ 255 ∷ []) 8 0 ≡ 513 + 128 * 2 ^ 56
unfolding number_at
bytes_in_order = refl

stored_bytes : stored (9 ∷ 9 ∷ 9 ∷ 9 ∷ []) (stores 2 1 513) ≡ 9 ∷ 1 ∷ 2 ∷ 9 ∷ []
unfolding stored stores
stored_bytes = refl
