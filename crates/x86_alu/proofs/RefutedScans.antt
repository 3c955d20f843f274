-- What is no first set bit, whatever the number. Each lemma is named by what it refuses.
use Rattle.std.proofs.Common.{◌≡◌, ◌==◌, ℕ, ◌<◌, Bool, true, false, arith, ap, sym, ◌∙◌}
use Rattle.std.proofs.lemmas.Bool.{false≢true}
use Rattle.std.proofs.lemmas.Nat.Bits.{bit_at-zero}
use Rattle.x86_alu.specs.Scans.{IsFirstSet}
use Rattle.x86_alu.specs.SignedNumbers.{bit}

module _ (a k j : ℕ) where
  a_clear_bit_is_not_the_least : bit a k ≡ false → IsFirstSet true a k → ⊥
  a_clear_bit_is_not_the_least clear is = false≢true (sym clear ∙ is.set)

  a_clear_bit_is_not_the_greatest : bit a k ≡ false → IsFirstSet false a k → ⊥
  a_clear_bit_is_not_the_greatest clear is = false≢true (sym clear ∙ is.set)

  a_bit_above_a_set_one_is_not_the_least : j < k → bit a j ≡ true → IsFirstSet true a k → ⊥
  a_bit_above_a_set_one_is_not_the_least below set is = false≢true (sym (is.passed j below) ∙ set)

  a_bit_below_a_set_one_is_not_the_greatest : k < j → bit a j ≡ true → IsFirstSet false a k → ⊥
  a_bit_below_a_set_one_is_not_the_greatest above set is = false≢true (sym (is.passed j above) ∙ set)

zero_has_no_first_bit : (up : Bool) (k : ℕ) → IsFirstSet up 0 k → ⊥
zero_has_no_first_bit up k is = false≢true (sym (ap (λ n. n == 1) (bit_at-zero k)) ∙ is.set)

-- of 3 bit 1 is not the least and bit 0 not the greatest, and 2 has no bit 0
bit_1_of_3_is_not_the_least : IsFirstSet true 3 1 → ⊥
bit_1_of_3_is_not_the_least is = let passed : true ≡ false = is.passed 0 (omega arith) in cc

bit_0_of_3_is_not_the_greatest : IsFirstSet false 3 0 → ⊥
bit_0_of_3_is_not_the_greatest is = let passed : true ≡ false = is.passed 1 (omega arith) in cc

bit_0_of_2_is_not_the_least : IsFirstSet true 2 0 → ⊥
bit_0_of_2_is_not_the_least is = let set : false ≡ true = is.set in cc
