-- Runs of bits: the mask of a byte, and what setting, clearing and testing a byte by its mask leaves and finds.
use Rattle.std.proofs.Common.{◌≡◌, ◌≢◌, ℕ, ◌+◌, ◌-◌, ◌*◌, ◌/◌, ◌%◌, ◌^◌, ◌<◌, ◌≤◌, Bool, true, not, ◌&&◌, ◌||◌, ◌==◌, nat_le, nat_lt, min, max, List, length, set, slice_index, arith, sym, ap, ◌∙◌, inl, inr, bit_and, bit_or, get_or-set_same, get_or-set_other}
use Rattle.std.specs.Int.{bit_at, w8}
use Rattle.std.proofs.lemmas.Bool.{cases_eq, cases_lt}
use Rattle.std.proofs.lemmas.Bool.Decides.{nat_tests}
use Rattle.std.proofs.lemmas.Nat.Bits.{bit_at_or, bit_at_and, bit_at_not, bit_at-lt, bit_at_mask_inside, bit_at_mask_below, bit_at_mask_above}
use Rattle.std.proofs.Math.Nat.{pow-le-pow_right}
use Rattle.region_book.specs.RegionRows.{bit_in, bit_of}

-- a power of 2 that a byte's edge makes
small_power : (k : ℕ) → k ≤ 8 → 1 * 2 ^ k % 65536 ≡ 2 ^ k
small_power k small =
    let most : 2 ^ k ≤ 2 ^ 8 = pow-le-pow_right {n = 2} (omega arith) small in
    omega (arith, most)

pub mask_order : (lo hi : ℕ) → lo ≤ hi → hi ≤ 8 → 1 * 2 ^ lo % 65536 ≤ 1 * 2 ^ hi % 65536
mask_order lo hi order small =
    let least : 2 ^ lo ≤ 2 ^ hi = pow-le-pow_right {n = 2} (omega arith) order in
    omega (arith, least, small_power lo (omega arith), small_power hi small)

-- the mask has the ones from the first edge on and before the second
pub mask_bits : (byte first end lo hi i : ℕ) → lo ≡ min (first - 8 * byte) 8 → hi ≡ min (end - 8 * byte) 8 →
    first ≤ end → i < 8 →
    bit_of (1 * 2 ^ hi % 65536 - 1 * 2 ^ lo % 65536) i ≡ (nat_le first (8 * byte + i) && nat_lt (8 * byte + i) end)
mask_bits byte first end lo hi i lo_is hi_is order inside =
    ap (λ n. bit_of n i) plain ∙ bits
  where
    plain : 1 * 2 ^ hi % 65536 - 1 * 2 ^ lo % 65536 ≡ 2 ^ hi - 2 ^ lo
    plain = omega (arith, small_power lo (omega arith), small_power hi (omega arith))

    bits : bit_of (2 ^ hi - 2 ^ lo) i ≡ (nat_le first (8 * byte + i) && nat_lt (8 * byte + i) end)
    bits =
        elim (cases_lt i lo) [
          | inl below ↦ ap (λ b. b == 1) (bit_at_mask_below lo hi i below) ∙ grind (arith, nat_tests)
          | inr from ↦ elim (cases_lt i hi) [
            | inl before ↦ ap (λ b. b == 1) (bit_at_mask_inside lo hi i from before) ∙ grind (arith, nat_tests)
            | inr behind ↦ ap (λ b. b == 1) (bit_at_mask_above lo hi i behind) ∙ grind (arith, nat_tests)
          ]
        ]

-- bits of two numbers joined
or_bits : (a b i : ℕ) → bit_of (bit_or a b) i ≡ (bit_of a i || bit_of b i)
or_bits a b i = ap (λ n. n == 1) (bit_at_or a b i) ∙ go (bit_at a i) (bit_at b i) (bit_at-lt a i) (bit_at-lt b i)
  where
    go : (x y : ℕ) → x < 2 → y < 2 → (max x y == 1) ≡ (x == 1 || y == 1)
    go x y xs ys = grind (arith, nat_tests)

pub and_bits : (a b i : ℕ) → bit_of (bit_and a b) i ≡ (bit_of a i && bit_of b i)
and_bits a b i = ap (λ n. n == 1) (bit_at_and a b i) ∙ go (bit_at a i) (bit_at b i) (bit_at-lt a i) (bit_at-lt b i)
  where
    go : (x y : ℕ) → x < 2 → y < 2 → (min x y == 1) ≡ (x == 1 && y == 1)
    go x y xs ys = grind (arith, nat_tests)

not_bits : (b i : ℕ) → b < 256 → i < 8 → bit_of (255 - b) i ≡ not (bit_of b i)
not_bits b i small inside = ap (λ n. n == 1) (bit_at_not w8 b i small inside) ∙ go (bit_at b i) (bit_at-lt b i)
  where
    go : (x : ℕ) → x < 2 → (1 - x == 1) ≡ not (x == 1)
    go x xs = grind (arith, nat_tests)

-- the bits of a list in which one byte was written
module _ (bits : List ℕ) (byte value k : ℕ) (within : byte < length bits) where
  written_here : k / 8 ≡ byte → bit_in (set bits byte value) k ≡ bit_of value (k % 8)
  unfolding bit_in
  written_here here = ap (λ b. bit_of b (k % 8))
      (ap (λ at. slice_index (set bits byte value) at) here ∙ get_or-set_same bits byte value 0 within)

  written_there : k / 8 ≢ byte → bit_in (set bits byte value) k ≡ bit_in bits k
  unfolding bit_in
  written_there apart = ap (λ b. bit_of b (k % 8)) (get_or-set_other bits byte (k / 8) value 0 apart)

-- a run whose bits of one byte are those of a mask
abbrev pub IsMask : ℕ → ℕ → ℕ → ℕ → Type 0
IsMask mask byte first end = (i : ℕ) → i < 8 →
    bit_of mask i ≡ (nat_le first (8 * byte + i) && nat_lt (8 * byte + i) end)

pub bit_here : (bits : List ℕ) (byte k : ℕ) → k / 8 ≡ byte → bit_of (slice_index bits byte) (k % 8) ≡ bit_in bits k
unfolding bit_in
bit_here bits byte k here = ap (λ at. bit_of (slice_index bits at) (k % 8)) (sym here)

pub mask_here : (mask byte first end k : ℕ) → IsMask mask byte first end → k / 8 ≡ byte →
    bit_of mask (k % 8) ≡ (nat_le first k && nat_lt k end)
mask_here mask byte first end k is here =
    let place : 8 * byte + k % 8 ≡ k = omega (arith, here) in
    is (k % 8) (omega arith) ∙ ap (λ p. nat_le first p && nat_lt p end) place

-- bits up to a byte were set, or cleared, and now those of the byte are
module _ (was bits : List ℕ) (byte mask first end : ℕ) (within : byte < length bits)
    (is : IsMask mask byte first end) where
  pub set_more : (value : ℕ) → value ≡ bit_or (slice_index bits byte) mask →
      ((k : ℕ) → bit_in bits k ≡ (bit_in was k || (nat_le first k && nat_lt k end && nat_lt k (8 * byte)))) →
      (k : ℕ) → bit_in (set bits byte value) k ≡
      (bit_in was k || (nat_le first k && nat_lt k end && nat_lt k (8 * (byte + 1))))
  set_more value value_is before k =
      elim (cases_eq (k / 8) byte) [
        | inl here ↦
            written_here bits byte value k within here ∙ ap (λ v. bit_of v (k % 8)) value_is
            ∙ or_bits (slice_index bits byte) mask (k % 8)
            ∙ ap (λ b. b || bit_of mask (k % 8)) (bit_here bits byte k here ∙ before k)
            ∙ ap (λ b. (bit_in was k || (nat_le first k && nat_lt k end && nat_lt k (8 * byte))) || b)
            (mask_here mask byte first end k is here)
            ∙ go (bit_in was k) (nat_le first k && nat_lt k end) (nat_lt k (8 * byte)) (nat_lt k (8 * (byte + 1)))
            (grind (arith, nat_tests))
        | inr apart ↦
            let same : nat_lt k (8 * byte) ≡ nat_lt k (8 * (byte + 1)) = grind (arith, nat_tests) in
            written_there bits byte value k within apart ∙ before k
            ∙ ap (λ b. bit_in was k || (nat_le first k && nat_lt k end && b)) same
      ]
    where
      go : (old run low more : Bool) → more ≡ true → ((old || (run && low)) || run) ≡ (old || (run && more))
      go old run low more is = grind (arith, nat_tests)

  pub clear_more : (value : ℕ) → value ≡ bit_and (slice_index bits byte) (255 - mask) → mask < 256 →
      ((k : ℕ) → bit_in bits k ≡ (bit_in was k && not (nat_le first k && nat_lt k end && nat_lt k (8 * byte)))) →
      (k : ℕ) → bit_in (set bits byte value) k ≡
      (bit_in was k && not (nat_le first k && nat_lt k end && nat_lt k (8 * (byte + 1))))
  clear_more value value_is small before k =
      elim (cases_eq (k / 8) byte) [
        | inl here ↦
            written_here bits byte value k within here ∙ ap (λ v. bit_of v (k % 8)) value_is
            ∙ and_bits (slice_index bits byte) (255 - mask) (k % 8)
            ∙ ap (λ b. b && bit_of (255 - mask) (k % 8)) (bit_here bits byte k here ∙ before k)
            ∙ ap (λ b. (bit_in was k && not (nat_le first k && nat_lt k end && nat_lt k (8 * byte))) && b)
            (not_bits mask (k % 8) small (omega arith) ∙ ap not (mask_here mask byte first end k is here))
            ∙ go (bit_in was k) (nat_le first k && nat_lt k end) (nat_lt k (8 * byte)) (nat_lt k (8 * (byte + 1)))
            (grind (arith, nat_tests))
        | inr apart ↦
            let same : nat_lt k (8 * byte) ≡ nat_lt k (8 * (byte + 1)) = grind (arith, nat_tests) in
            written_there bits byte value k within apart ∙ before k
            ∙ ap (λ b. bit_in was k && not (nat_le first k && nat_lt k end && b)) same
      ]
    where
      go : (old run low more : Bool) → more ≡ true → ((old && not (run && low)) && not run) ≡ (old && not (run && more))
      go old run low more is = grind (arith, nat_tests)
