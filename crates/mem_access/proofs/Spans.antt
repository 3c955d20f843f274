-- How the bytes of an access lie on its pages, and that the places found are those of a target.
use Rattle.std.proofs.Common.{◌≡◌, ℕ, ◌+◌, ◌-◌, ◌%◌, ◌<◌, ◌≤◌, ◌⊎◌, inl, inr, true, false, arith, refl}
use Rattle.std.specs.Prelude.{◌≢◌}
use Rattle.std.proofs.Math.Nat.{min-le_right, min-eq_left}
use borrow.Author.Tests.{ltb-true, ltb-false}
use Rattle.std.proofs.lemmas.Bool.{cases_lt, le-ltb}
use Rattle.std.proofs.lemmas.Bool.Decides.{nat_tests}
use Rattle.nk_bits.specs.Accesses.{IsTarget, first_part, crosses}

-- the first page has room for its part
pub part_room : (va width : ℕ) → first_part va width ≤ 4096 - va % 4096
unfolding first_part
part_room va width = min-le_right width (4096 - va % 4096)

-- on one page lie all bytes
pub part_whole : (va width : ℕ) → crosses va width ≡ false → first_part va width ≡ width
unfolding first_part crosses
part_whole va width one = let within : va % 4096 + width ≤ 4096 = ltb-false 4096 (va % 4096 + width) one in min-eq_left (omega (arith, within))

pub target_of_one : (size va width first : ℕ) → first % 4096 ≡ va % 4096 → first + (4096 - va % 4096) ≤ size → crosses va width ≡ false →
    IsTarget size va width (record { first = first; second = 0 })
target_of_one size va width first agrees inside one = record {
  first_agrees = agrees;
  second_agrees = refl;
  first_fits = omega (arith, part_room va width, inside);
  second_fits = λ less. absurd (omega (arith, part_whole va width one, less));
}

pub bytes_fit : (size va width first : ℕ) → first + (4096 - va % 4096) ≤ size → crosses va width ≡ false → first + width ≤ size
unfolding crosses
bytes_fit size va width first inside one = let within : va % 4096 + width ≤ 4096 = ltb-false 4096 (va % 4096 + width) one in omega (arith, within, inside)

-- two numbers apart
one_way : (a b : ℕ) → a ≢ b → (a < b) ⊎ (b < a)
one_way a b apart = elim (cases_lt a b) [
  | inl less ↦ inl less
  | inr not_less ↦ inr (omega (arith, not_less, apart))
]

-- an access on one page touches no other
pub apart_from : (base off va width : ℕ) → base % 4096 ≡ 0 → off % 4096 ≡ 0 → base ≢ off → crosses va width ≡ false →
    (base + va % 4096 + width ≤ off) ⊎ (off + 4096 ≤ base + va % 4096)
unfolding crosses
apart_from base off va width page other apart one =
    let within : va % 4096 + width ≤ 4096 = ltb-false 4096 (va % 4096 + width) one in
    elim (one_way base off apart) [
      | inl below ↦ inl (omega (arith, below, page, other, within))
      | inr above ↦ inr (omega (arith, above, page, other))
    ]

-- a second page begins at a multiple of 4,096
pub target_of_two : (size va width first second next : ℕ) → first % 4096 ≡ va % 4096 → first + (4096 - va % 4096) ≤ size →
    next % 4096 ≡ 0 → second % 4096 ≡ next % 4096 → second + (4096 - next % 4096) ≤ size → width ≤ 8 →
    IsTarget size va width (record { first = first; second = second })
target_of_two size va width first second next agrees inside start second_agrees second_inside few = record {
  first_agrees = agrees;
  second_agrees = omega (arith, start, second_agrees);
  first_fits = omega (arith, part_room va width, inside);
  second_fits = λ less. omega (arith, start, second_inside, few);
}

pub part_less : (va width : ℕ) → crosses va width ≡ true → first_part va width < width
unfolding first_part crosses
part_less va width two =
    let over : 4096 < va % 4096 + width = ltb-true 4096 (va % 4096 + width) two in omega (arith, over, min-le_right width (4096 - va % 4096))

-- at most eight bytes lie on the first page where eight do
pub few_bytes : (va width : ℕ) → va % 4096 ≤ 4088 → width ≤ 8 → crosses va width ≡ false
unfolding crosses
few_bytes va width inside few = le-ltb 4096 (va % 4096 + width) (omega (arith, inside, few))

-- one byte lies on the first page
pub one_byte : (va : ℕ) → crosses va 1 ≡ false
unfolding crosses
one_byte va = grind (arith, nat_tests)

pub part_of_one : (va : ℕ) → first_part va 1 ≡ 1
unfolding first_part
part_of_one va = min-eq_left (omega arith)
