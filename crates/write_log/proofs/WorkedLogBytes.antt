-- The bytes of two records, read by the definition.
use Rattle.std.proofs.Common.{◌≡◌, ℕ, zero, suc, ◌+◌, ◌-◌, ◌<◌, ◌≤◌, List, [], ◌∷◌, length, arith, refl, ap, ◌∙◌}
use Rattle.std.proofs.lemmas.List.{get_or_past}
use Rattle.phys_mem.specs.Memory.{byte_at, number_at}
use Rattle.write_log.specs.LogBytes.{HoldsLog, LogCounts, end_from, log_in, record_at, record_place, records_from}
use Rattle.write_log.proofs.StandingBytes.{StandIn, end_here, number_here, records_here}

-- record 0: five bytes, at offset 3 of region 258
abbrev pub first_bytes : List ℕ → List ℕ
first_bytes later =
    0 ∷ 0 ∷ 0 ∷ 0 ∷ 0 ∷ 0 ∷ 0 ∷ 0
    ∷ 2 ∷ 1 ∷ 0 ∷ 0 ∷ 0 ∷ 0 ∷ 0 ∷ 0
    ∷ 3 ∷ 0 ∷ 0 ∷ 0
    ∷ 5 ∷ 0 ∷ 0 ∷ 0
    ∷ 10 ∷ 20 ∷ 30 ∷ 40 ∷ 255
    ∷ later

-- a record of this number: two bytes, at offset 4,095 of region 2 ^ 63 + 52
abbrev pub second_bytes : ℕ → List ℕ → List ℕ
second_bytes i later =
    i ∷ 0 ∷ 0 ∷ 0 ∷ 0 ∷ 0 ∷ 0 ∷ 0
    ∷ 52 ∷ 0 ∷ 0 ∷ 0 ∷ 0 ∷ 0 ∷ 0 ∷ 128
    ∷ 255 ∷ 15 ∷ 0 ∷ 0
    ∷ 2 ∷ 0 ∷ 0 ∷ 0
    ∷ 7 ∷ 8
    ∷ later

abbrev pub two : List ℕ
two = first_bytes (second_bytes 1 [])

abbrev pub two_counts : LogCounts
two_counts = record { records = 2; used = 55 }

two_ends : (end_from two 0 1 ≡ 29) × (end_from two 0 2 ≡ 55)
unfolding end_from number_at
two_ends = (refl, refl)

two_numbers : (number_at two 8 0 ≡ 0) × (number_at two 8 29 ≡ 1)
unfolding number_at
two_numbers = (refl, refl)

two_records : records_from two 0 2
    ≡ record { region = 258; offset = 3; bytes = 10 ∷ 20 ∷ 30 ∷ 40 ∷ 255 ∷ [] }
    ∷ record { region = 0x8000000000000034; offset = 4095; bytes = 7 ∷ 8 ∷ [] } ∷ []
unfolding records_from record_at number_at
two_records = refl

-- where they stand, memory holds a log of two
module _ (m : List ℕ) (size : 0x2A000 ≤ length m) (stand : StandIn two m) where
  read : log_in two_counts m
      ≡ record { region = 258; offset = 3; bytes = 10 ∷ 20 ∷ 30 ∷ 40 ∷ 255 ∷ [] }
      ∷ record { region = 0x8000000000000034; offset = 4095; bytes = 7 ∷ 8 ∷ [] } ∷ []
  read = records_here two m size stand 0 2 (omega (arith, two_ends.1)) (omega (arith, two_ends.1)) ∙ two_records

  place_0 : record_place m 0 ≡ 0x1A000
  unfolding end_from
  place_0 = refl

  place_1 : record_place m 1 ≡ 0x1A000 + 29
  place_1 = end_here two m size stand 0 1 (omega (arith, two_ends.0)) ∙ ap (λ p. 0x1A000 + p) two_ends.0

  numbers : (i : ℕ) → i < 2 → number_at m 8 (record_place m i) ≡ i
  numbers zero small = ap (number_at m 8) place_0 ∙ number_here two m size stand 8 0 (omega arith) ∙ two_numbers.0
  numbers (suc zero) small = ap (number_at m 8) place_1 ∙ number_here two m size stand 8 29 (omega arith) ∙ two_numbers.1
  numbers (suc (suc i)) small = absurd (omega (arith, small))

  behind : (p : ℕ) → 0x1A000 + 55 ≤ p → p < 0x2A000 → byte_at m p ≡ 0
  behind p low high =
      let place : p ≡ 0x1A000 + (p - 0x1A000) = omega (arith, low) in
      ap (byte_at m) place ∙ stand (p - 0x1A000) (omega (arith, high)) ∙ get_or_past two (p - 0x1A000) 0 (omega (arith, low))

  held : HoldsLog two_counts m
  held = record {
    size = size;
    used = omega arith;
    end = end_here two m size stand 0 2 (omega (arith, two_ends.1)) ∙ ap (λ p. 0x1A000 + p) two_ends.1;
    numbers = numbers;
    behind = behind;
  }
