-- What a test of a byte by its mask says of the bits of a run.
use Rattle.std.proofs.Common.{◌≡◌, ◌≢◌, ℕ, zero, suc, ◌+◌, ◌*◌, ◌/◌, ◌%◌, ◌<◌, ◌≤◌, Bool, true, false, ◌&&◌, ◌||◌, ◌==◌, nat_le, nat_lt, List, slice_index, arith, refl, sym, ap, ◌∙◌, inl, inr, bit_and}
use Rattle.std.specs.List.{list_any, range_with_len}
use Rattle.std.specs.Int.{bit_at}
use Rattle.std.proofs.lemmas.Bool.{cases_eq, cases_Bool, or_from, or_parts, eqb-false}
use Rattle.std.proofs.lemmas.Bool.Decides.{nat_tests}
use Rattle.std.proofs.lemmas.Nat.Bits.{bit_at-lt, bit_at-zero, same_from_bits_below}
use Rattle.std.specs.Int.Bits.{and_lt}
use Rattle.region_book.specs.RegionRows.{bit_in, bit_of}
use Rattle.region_book.proofs.ByteBits.{IsMask, and_bits, bit_here, mask_here}

-- no number of a run passes a test
pub none_in_run : (f : ℕ → Bool) (first count : ℕ) → ((k : ℕ) → first ≤ k → k < first + count → f k ≡ false) →
    list_any f (range_with_len first count) ≡ false
none_in_run f first zero none = refl
none_in_run f first (suc n) none =
    or_from (f first) (list_any f (range_with_len (first + 1) n)) (none first (omega arith) (omega arith))
    (none_in_run f (first + 1) n (λ k low high. none k (omega arith) (omega arith)))

pub each_in_run : (f : ℕ → Bool) (first count k : ℕ) → list_any f (range_with_len first count) ≡ false → first ≤ k →
    k < first + count → f k ≡ false
each_in_run f first zero k none low high = absurd (omega arith)
each_in_run f first (suc n) k none low high =
    let parts = or_parts (f first) (list_any f (range_with_len (first + 1) n)) none in
    elim (cases_eq k first) [
      | inl is ↦ ap f is ∙ parts.0
      | inr apart ↦ each_in_run f (first + 1) n k parts.1 (omega (arith, apart)) (omega arith)
    ]

-- two tests that agree along two runs
pub same_in_runs : (f g : ℕ → Bool) (a b count : ℕ) → ((i : ℕ) → i < count → f (a + i) ≡ g (b + i)) →
    list_any f (range_with_len a count) ≡ list_any g (range_with_len b count)
same_in_runs f g a b zero same = refl
same_in_runs f g a b (suc n) same = both ∙ ap (λ t. g b || t) (same_in_runs f g (a + 1) (b + 1) n later)
  where
    here : f a ≡ g b
    here =
        let left : a ≡ a + 0 = omega arith in
        let right : b + 0 ≡ b = omega arith in
        ap f left ∙ same 0 (omega arith) ∙ ap g right

    both : (f a || list_any f (range_with_len (a + 1) n)) ≡ (g b || list_any f (range_with_len (a + 1) n))
    both = ap (λ t. t || list_any f (range_with_len (a + 1) n)) here

    later : (i : ℕ) → i < n → f (a + 1 + i) ≡ g (b + 1 + i)
    later i below =
        let left : a + 1 + i ≡ a + (i + 1) = omega arith in
        let right : b + (i + 1) ≡ b + 1 + i = omega arith in
        ap f left ∙ same (i + 1) (omega arith) ∙ ap g right

zero_bit : (i : ℕ) → bit_of 0 i ≡ false
zero_bit i = ap (λ n. n == 1) (bit_at-zero i)

module _ (bits : List ℕ) (byte mask first end : ℕ) (is : IsMask mask byte first end) where
  -- none of the byte's bits in the run is set
  pub none_more : bit_and (slice_index bits byte) mask ≡ 0 →
      ((k : ℕ) → first ≤ k → k < end → k < 8 * byte → bit_in bits k ≡ false) →
      (k : ℕ) → first ≤ k → k < end → k < 8 * (byte + 1) → bit_in bits k ≡ false
  none_more none before k low high below =
      elim (cases_eq (k / 8) byte) [
        | inl here ↦
            go (bit_in bits k)
            (ap (λ b. b && (nat_le first k && nat_lt k end)) (sym (bit_here bits byte k here))
            ∙ ap (λ b. bit_of (slice_index bits byte) (k % 8) && b) (sym (mask_here mask byte first end k is here))
            ∙ sym (and_bits (slice_index bits byte) mask (k % 8)) ∙ ap (λ n. bit_of n (k % 8)) none ∙ zero_bit (k % 8))
        | inr apart ↦ before k low high (omega (arith, apart))
      ]
    where
      go : (b : Bool) → (b && (nat_le first k && nat_lt k end)) ≡ false → b ≡ false
      go b both = grind (arith, nat_tests)

  -- one of them is
  pub some_here : (count : ℕ) → first + count ≡ end → slice_index bits byte < 256 → mask < 256 →
      bit_and (slice_index bits byte) mask ≢ 0 →
      true ≡ list_any (bit_in bits) (range_with_len first count)
  some_here count end_is small small_mask some =
      elim (cases_Bool (list_any (bit_in bits) (range_with_len first count))) [
        | inl found ↦ sym found
        | inr none ↦
            absurd (some (same_from_bits_below 8 (bit_and (slice_index bits byte) mask) 0
            (and_lt 8 (slice_index bits byte) mask small small_mask) (omega arith)
            (λ i inside. zero_from (bit_and (slice_index bits byte) mask) i (masked none i inside)
            ∙ sym (bit_at-zero i))))
      ]
    where
      zero_from : (n i : ℕ) → bit_of n i ≡ false → bit_at n i ≡ 0
      zero_from n i clear = omega (arith, eqb-false (bit_at n i) 1 clear, bit_at-lt n i)

      in_both : (b low high : Bool) → (low ≡ true → high ≡ true → b ≡ false) → (b && (low && high)) ≡ false
      in_both b low high none = grind (arith, nat_tests)

      masked : list_any (bit_in bits) (range_with_len first count) ≡ false → (i : ℕ) → i < 8 →
          bit_of (bit_and (slice_index bits byte) mask) i ≡ false
      masked none i inside =
          let k : ℕ = 8 * byte + i in
          let here : k / 8 ≡ byte = omega arith in
          let place : i ≡ k % 8 = omega arith in
          ap (λ j. bit_of (bit_and (slice_index bits byte) mask) j) place
          ∙ and_bits (slice_index bits byte) mask (k % 8)
          ∙ ap (λ b. b && bit_of mask (k % 8)) (bit_here bits byte k here)
          ∙ ap (λ b. bit_in bits k && b) (mask_here mask byte first end k is here)
          ∙ in_both (bit_in bits k) (nat_le first k) (nat_lt k end)
          (λ low high. each_in_run (bit_in bits) first count k none (grind (arith, nat_tests))
          (grind (arith, nat_tests)))
