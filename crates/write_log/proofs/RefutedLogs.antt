-- Bytes that are no log: whatever memory they stand in, it doesn't hold one.
use Rattle.std.proofs.Common.{◌≡◌, ℕ, ◌+◌, List, [], ◌∷◌, arith, refl, sym, ap, ◌∙◌}
use Rattle.phys_mem.specs.Memory.{number_at}
use Rattle.write_log.specs.LogBytes.{HoldsLog, end_from, record_place}
use Rattle.write_log.proofs.StandingBytes.{StandIn, end_here, number_here}
use Rattle.write_log.proofs.WorkedLogBytes.{first_bytes, second_bytes, two, two_counts}

-- what memory reads as the second record's number, where the first record has five bytes
first_end : (later : List ℕ) → end_from (first_bytes later) 0 1 ≡ 29
unfolding end_from number_at
first_end later = refl

second_number : (later m : List ℕ) (used : ℕ) → StandIn (first_bytes later) m → HoldsLog (record { records = 2; used = used }) m
    → number_at (first_bytes later) 8 29 ≡ 1
second_number later m used stand held =
    let place : end_from (first_bytes later) 0 1 ≡ 29 = first_end later in
    let there : record_place m 1 ≡ 0x1A000 + 29 =
    end_here (first_bytes later) m held.size stand 0 1 (omega (arith, place)) ∙ ap (λ p. 0x1A000 + p) place in
    sym (number_here (first_bytes later) m held.size stand 8 29 (omega arith)) ∙ ap (number_at m 8) (sym there) ∙ held.numbers 1 (omega arith)

-- eight bytes between two records, whether they are counted or not
abbrev padded_bytes : List ℕ
padded_bytes = 0 ∷ 0 ∷ 0 ∷ 0 ∷ 0 ∷ 0 ∷ 0 ∷ 0 ∷ second_bytes 1 []

padded_number : number_at (first_bytes padded_bytes) 8 29 ≡ 0
unfolding number_at
padded_number = refl

padded : (m : List ℕ) (used : ℕ) → StandIn (first_bytes padded_bytes) m → HoldsLog (record { records = 2; used = used }) m → ⊥
padded m used stand held = omega (arith, padded_number, second_number padded_bytes m used stand held)

-- a second record whose number is 2
number_2 : number_at (first_bytes (second_bytes 2 [])) 8 29 ≡ 2
unfolding number_at
number_2 = refl

misnumbered : (m : List ℕ) (used : ℕ) → StandIn (first_bytes (second_bytes 2 [])) m → HoldsLog (record { records = 2; used = used }) m → ⊥
misnumbered m used stand held = omega (arith, number_2, second_number (second_bytes 2 []) m used stand held)

-- a first record whose number is 1
number_1 : number_at (second_bytes 1 []) 8 0 ≡ 1
unfolding number_at
number_1 = refl

first_number : (m : List ℕ) (used : ℕ) → HoldsLog (record { records = 1; used = used }) m → number_at m 8 0x1A000 ≡ 0
unfolding end_from
first_number m used held = held.numbers 0 (omega arith)

from_one : (m : List ℕ) (used : ℕ) → StandIn (second_bytes 1 []) m → HoldsLog (record { records = 1; used = used }) m → ⊥
from_one m used stand held =
    omega (arith, number_here (second_bytes 1 []) m held.size stand 8 0 (omega arith), number_1, first_number m used held)

-- a byte behind the last record
trailed : (m : List ℕ) → StandIn (first_bytes (second_bytes 1 (9 ∷ []))) m → HoldsLog two_counts m → ⊥
trailed m stand held = omega (arith, held.behind (0x1A000 + 55) (omega arith) (omega arith), stand 55 (omega arith))

-- a count of bytes that isn't where the last record ends
two_end : end_from two 0 2 ≡ 55
unfolding end_from number_at
two_end = refl

miscounted : (m : List ℕ) (used : ℕ) → StandIn two m → HoldsLog (record { records = 2; used = used }) m → used ≡ 55
miscounted m used stand held =
    omega (arith, end_here two m held.size stand 0 2 (omega (arith, two_end)), two_end, held.end)
