-- Parts, offsets and the directory at worked values.
use Rattle.std.proofs.Common.{◌≡◌, ℕ, [], ◌∷◌, true, false, List, map, refl}
use Rattle.code_modules.specs.JoinedFile.{data_start, offset_from}
use Rattle.code_modules.specs.JoinedParts.{CodeModule, JoinedPart, directory_of, module_part, module_parts, whole_pages}

-- the pages that hold so many bytes
pages :
    (whole_pages 0 ≡ 0) ×
    (whole_pages 1 ≡ 4096) ×
    (whole_pages 4096 ≡ 4096) ×
    (whole_pages 4097 ≡ 8192)
pages = (refl, refl, refl, refl)

-- 3,648 bytes of headers are the most
starts : (data_start 3 ≡ 4096) × (data_start 64 ≡ 4096)
starts = (refl, refl)

abbrev part_at : ℕ → List ℕ → JoinedPart
part_at address bytes = record { flags = 4; address = address; memory_size = 5; bytes = bytes }

-- an offset equals the address within a page, and comes no sooner than the last part ends
offsets :
    (offset_from 4096 (part_at 0xFFFFFFFF80000000 (1 ∷ [])) ≡ 4096) ×
    (offset_from 4097 (part_at 0xFFFFFFFF80000000 (1 ∷ [])) ≡ 8192) ×
    (offset_from 4096 (part_at 0xFFFFFFFF80000001 (1 ∷ [])) ≡ 4097) ×
    (offset_from 4097 (part_at 0xFFFFFFFF80000001 (1 ∷ [])) ≡ 4097) ×
    (offset_from 4098 (part_at 0xFFFFFFFF80000001 (1 ∷ [])) ≡ 8193) ×
    (offset_from 4098 (part_at 0xFFFFFFFF80000001 []) ≡ 4098)
offsets = (refl, refl, refl, refl, refl, refl)

abbrev pack : List ℕ → CodeModule
pack bytes = record { guard = false; bytes = bytes }

abbrev guard : List ℕ → CodeModule
guard bytes = record { guard = true; bytes = bytes }

-- modules stand on whole pages, one behind the other
places : map (λ p. p.address) (module_parts 0xFFFFFFFF80001000 (pack (1 ∷ []) ∷ guard (1 ∷ 2 ∷ []) ∷ pack (3 ∷ []) ∷ []))
    ≡ 0xFFFFFFFF80001000 ∷ 0xFFFFFFFF80003000 ∷ 0xFFFFFFFF80004000 ∷ []
places = refl

-- how many they are; then address and length of each
listed : directory_of (module_part 0xFFFFFFFF80002000 (1 ∷ 2 ∷ 3 ∷ []) ∷ [])
    ≡ 1 ∷ 0 ∷ 0 ∷ 0 ∷ 0 ∷ 0 ∷ 0 ∷ 0
    ∷ 0 ∷ 0x20 ∷ 0 ∷ 0x80 ∷ 0xFF ∷ 0xFF ∷ 0xFF ∷ 0xFF
    ∷ 3 ∷ 0 ∷ 0 ∷ 0 ∷ 0 ∷ 0 ∷ 0 ∷ 0 ∷ []
unfolding directory_of
listed = refl
