-- What no take from a source leaves, at concrete values.
use Rattle.std.proofs.Common.{◌≡◌, ℕ, ◌<◌, ◌≤◌, List, [], ◌∷◌, length, slice_index, None, Result, Ok, ap, refl, arith}
use Rattle.nk_host.specs.SourceTakes.{IsSourceTaken}
use Rattle.nk_host.proofs.RefutedPuts.{counted, told, took, went_wrong}

-- a source's value here is that of a sink: the bytes that are left, where it tells them, and its count of faults
abbrev pub gave : ℕ → Result ℕ ℕ
gave n = Ok n

-- a block of two bytes, before a take
abbrev pub block : List ℕ
block = 0 ∷ 0 ∷ []

-- a count that fell
fell : IsSourceTaken took counted (told (7 ∷ 8 ∷ []) 5) (told (8 ∷ []) 4) block (7 ∷ 0 ∷ []) (gave 1) → ⊥
fell it = let stands : 5 ≤ 4 = it.never_falls in omega (arith, stands)

-- a fault that isn't counted, and one that is where there was none
uncounted : IsSourceTaken took counted (told (7 ∷ []) 5) (told (7 ∷ []) 5) block block went_wrong → ⊥
uncounted it = let rose : 6 ≤ 5 = it.failed in omega (arith, rose)

counted_for_nothing : IsSourceTaken took counted (told (7 ∷ []) 5) (told [] 6) block (7 ∷ 0 ∷ []) (gave 1) → ⊥
counted_for_nothing it = let same : 6 ≡ 5 = it.kept in omega (arith, same)

-- a block that is longer afterwards, and more bytes than it has
grown : IsSourceTaken took counted (told (7 ∷ []) 5) (told [] 5) block (7 ∷ 0 ∷ 0 ∷ []) (gave 1) → ⊥
grown it = let same : 3 ≡ 2 = it.size in omega (arith, same)

beyond : IsSourceTaken took counted (told (7 ∷ 8 ∷ []) 5) (told [] 5) block (7 ∷ 8 ∷ []) (gave 3) → ⊥
beyond it = let few : 3 ≤ 2 = it.bound in omega (arith, few)

-- another byte, and one that is given and still left
another_byte : IsSourceTaken took counted (told (7 ∷ 8 ∷ []) 5) (told (8 ∷ []) 5) block (9 ∷ 0 ∷ []) (gave 1) → ⊥
another_byte it =
    let whole : 7 ∷ 8 ∷ [] ≡ 9 ∷ 8 ∷ [] = it.bytes.0 in
    let first : 7 ≡ 9 = ap (λ (l : List ℕ). slice_index l 0) whole in omega (arith, first)

given_again : IsSourceTaken took counted (told (7 ∷ 8 ∷ []) 5) (told (7 ∷ 8 ∷ []) 5) block (7 ∷ 0 ∷ []) (gave 1) → ⊥
given_again it =
    let whole : 7 ∷ 8 ∷ [] ≡ 7 ∷ 7 ∷ 8 ∷ [] = it.bytes.0 in
    let count : 2 ≡ 3 = ap length whole in omega (arith, count)

-- a byte that is lost beside the one that is given, and one that is lost at a fault
lost : IsSourceTaken took counted (told (7 ∷ 8 ∷ []) 5) (told [] 5) block (7 ∷ 0 ∷ []) (gave 1) → ⊥
lost it =
    let whole : 7 ∷ 8 ∷ [] ≡ 7 ∷ [] = it.bytes.0 in
    let count : 2 ≡ 1 = ap length whole in omega (arith, count)

lost_at_a_fault : IsSourceTaken took counted (told (7 ∷ 8 ∷ []) 5) (told (8 ∷ []) 6) block block went_wrong → ⊥
lost_at_a_fault it =
    let kept : 8 ∷ [] ≡ 7 ∷ 8 ∷ [] = it.bytes in
    let count : 1 ≡ 2 = ap length kept in omega (arith, count)

-- none is given though some are left, and what was told is told no more
none_given : IsSourceTaken took counted (told (7 ∷ []) 5) (told (7 ∷ []) 5) block block (gave 0) → ⊥
none_given it =
    let room : 0 < 2 = omega arith in
    let ended : 7 ∷ [] ≡ [] = it.bytes.1 refl room in
    let count : 1 ≡ 0 = ap length ended in omega (arith, count)

no_more_told : IsSourceTaken took counted (told (7 ∷ []) 5) (record { taken = None; faults = 5 }) block (7 ∷ 0 ∷ []) (gave 1) → ⊥
no_more_told it = it.bytes.0
