-- A flag that is written into a packed word replaces the one that it was packed with, and each reads as it was packed.
use Rattle.std.proofs.Common.{◌≡◌, ◌≢◌, ◌==◌, ◌<◌, ℕ, ◌+◌, ◌-◌, ◌*◌, ◌/◌, ◌%◌, ◌^◌, Bool, true, false, not, arith, ap, sym, ◌∙◌, refl, inl, inr, if◌then◌else◌}
use Rattle.std.proofs.lemmas.Bool.{cases_eq}
use Rattle.std.proofs.lemmas.Nat.{pow_pos, shr_split}
use Rattle.std.proofs.lemmas.Nat.Bits.{bit_at-lt, bit_at_cat_high, bit_at_cat_low, same_from_bits}
use Rattle.std.specs.Int.{bit_at}
use Rattle.x86_alu.specs.SignedNumbers.{bit, one_if, sign}
use Rattle.x86_alu.specs.Flags.{auxiliary_carry_flag, carry_flag, even_parity, overflow_flag, parity_flag, result_flags, sign_flag, with_flag, zero_flag}
use Rattle.x86_alu.specs.declared.choices.Shift.{Shift}
use Rattle.x86_alu.specs.Shifts.{rotate_carry, rotate_flags, rotate_overflow, shift_carry, shift_flags, shift_overflow, shifted}
use Rattle.x86_alu.specs.FlagLaws.{FlagLaws}
use Rattle.x86_regs.specs.Combinations.{direction_flag}
use Rattle.exec_quick.specs.StatusFlags.{packed}

-- numbers with the same bits are one
same_digit : (m n : ℕ) → m < 2 → n < 2 → (m == 1) ≡ (n == 1) → m ≡ n
same_digit m n = grind arith

by_bits : (m n : ℕ) → ((k : ℕ) → bit m k ≡ bit n k) → m ≡ n
by_bits m n same = same_from_bits m n (λ k. same_digit (bit_at m k) (bit_at n k) (bit_at-lt m k) (bit_at-lt n k) (same k))

module _ (law : FlagLaws) where
  -- written twice is written once
  twice : (k n : ℕ) (a b : Bool) → with_flag k a (with_flag k b n) ≡ with_flag k a n
  twice k n a b = by_bits (with_flag k a (with_flag k b n)) (with_flag k a n) (λ i. elim (cases_eq i k) [
    | inl here ↦ ap (bit (with_flag k a (with_flag k b n))) here ∙ law.same k (with_flag k b n) a
        ∙ sym (ap (bit (with_flag k a n)) here ∙ law.same k n a)
    | inr other ↦ law.others i k (with_flag k b n) a other ∙ law.others i k n b other ∙ sym (law.others i k n a other)
  ])

  -- a flag that is written as it is changes nothing
  kept : (k n : ℕ) → with_flag k (bit n k) n ≡ n
  kept k n = by_bits (with_flag k (bit n k) n) n (λ i. elim (cases_eq i k) [
    | inl here ↦ ap (bit (with_flag k (bit n k) n)) here ∙ law.same k n (bit n k) ∙ sym (ap (bit n) here)
    | inr other ↦ law.others i k n (bit n k) other
  ])

  -- two flags can be written in either order
  swapped : (j k n : ℕ) (a b : Bool) → j ≢ k → with_flag j a (with_flag k b n) ≡ with_flag k b (with_flag j a n)
  swapped j k n a b apart = by_bits (with_flag j a (with_flag k b n)) (with_flag k b (with_flag j a n)) (λ i. elim (cases_eq i j) [
    | inl at_j ↦ ap (bit (with_flag j a (with_flag k b n))) at_j ∙ law.same j (with_flag k b n) a
        ∙ sym (ap (bit (with_flag k b (with_flag j a n))) at_j ∙ law.others j k (with_flag j a n) b apart ∙ law.same j n a)
    | inr off_j ↦ law.others i j (with_flag k b n) a off_j ∙ elim (cases_eq i k) [
      | inl at_k ↦ ap (bit (with_flag k b n)) at_k ∙ law.same k n b
          ∙ sym (ap (bit (with_flag k b (with_flag j a n))) at_k ∙ law.same k (with_flag j a n) b)
      | inr off_k ↦ law.others i k n b off_k ∙ sym (law.others i k (with_flag j a n) b off_k ∙ law.others i j n a off_j)
    ]
  ])

  module _ (w : ℕ) (c a o z s p : Bool) where
    pub carry_put : (x : Bool) → with_flag carry_flag x (packed w c a o z s p) ≡ packed w x a o z s p
    unfolding packed
    carry_put x =
        twice 0 (with_flag 4 a (with_flag 11 o (with_flag 6 z (with_flag 7 s (with_flag 2 p w))))) x c

    pub auxiliary_put : (x : Bool) → with_flag auxiliary_carry_flag x (packed w c a o z s p) ≡ packed w c x o z s p
    unfolding packed
    auxiliary_put x =
        swapped 4 0 (with_flag 4 a (with_flag 11 o (with_flag 6 z (with_flag 7 s (with_flag 2 p w))))) x c (omega arith)
        ∙ ap (with_flag 0 c) (twice 4 (with_flag 11 o (with_flag 6 z (with_flag 7 s (with_flag 2 p w)))) x a)

    pub overflow_put : (x : Bool) → with_flag overflow_flag x (packed w c a o z s p) ≡ packed w c a x z s p
    unfolding packed
    overflow_put x =
        swapped 11 0 (with_flag 4 a (with_flag 11 o (with_flag 6 z (with_flag 7 s (with_flag 2 p w))))) x c (omega arith)
        ∙ ap (with_flag 0 c) (swapped 11 4 (with_flag 11 o (with_flag 6 z (with_flag 7 s (with_flag 2 p w)))) x a (omega arith)
        ∙ ap (with_flag 4 a) (twice 11 (with_flag 6 z (with_flag 7 s (with_flag 2 p w))) x o))

    pub zero_put : (x : Bool) → with_flag zero_flag x (packed w c a o z s p) ≡ packed w c a o x s p
    unfolding packed
    zero_put x =
        swapped 6 0 (with_flag 4 a (with_flag 11 o (with_flag 6 z (with_flag 7 s (with_flag 2 p w))))) x c (omega arith)
        ∙ ap (with_flag 0 c) (swapped 6 4 (with_flag 11 o (with_flag 6 z (with_flag 7 s (with_flag 2 p w)))) x a (omega arith)
        ∙ ap (with_flag 4 a) (swapped 6 11 (with_flag 6 z (with_flag 7 s (with_flag 2 p w))) x o (omega arith)
        ∙ ap (with_flag 11 o) (twice 6 (with_flag 7 s (with_flag 2 p w)) x z)))

    pub sign_put : (x : Bool) → with_flag sign_flag x (packed w c a o z s p) ≡ packed w c a o z x p
    unfolding packed
    sign_put x =
        swapped 7 0 (with_flag 4 a (with_flag 11 o (with_flag 6 z (with_flag 7 s (with_flag 2 p w))))) x c (omega arith)
        ∙ ap (with_flag 0 c) (swapped 7 4 (with_flag 11 o (with_flag 6 z (with_flag 7 s (with_flag 2 p w)))) x a (omega arith)
        ∙ ap (with_flag 4 a) (swapped 7 11 (with_flag 6 z (with_flag 7 s (with_flag 2 p w))) x o (omega arith)
        ∙ ap (with_flag 11 o) (swapped 7 6 (with_flag 7 s (with_flag 2 p w)) x z (omega arith)
        ∙ ap (with_flag 6 z) (twice 7 (with_flag 2 p w) x s))))

    pub parity_put : (x : Bool) → with_flag parity_flag x (packed w c a o z s p) ≡ packed w c a o z s x
    unfolding packed
    parity_put x =
        swapped 2 0 (with_flag 4 a (with_flag 11 o (with_flag 6 z (with_flag 7 s (with_flag 2 p w))))) x c (omega arith)
        ∙ ap (with_flag 0 c) (swapped 2 4 (with_flag 11 o (with_flag 6 z (with_flag 7 s (with_flag 2 p w)))) x a (omega arith)
        ∙ ap (with_flag 4 a) (swapped 2 11 (with_flag 6 z (with_flag 7 s (with_flag 2 p w))) x o (omega arith)
        ∙ ap (with_flag 11 o) (swapped 2 6 (with_flag 7 s (with_flag 2 p w)) x z (omega arith)
        ∙ ap (with_flag 6 z) (swapped 2 7 (with_flag 2 p w) x s (omega arith)
        ∙ ap (with_flag 7 s) (twice 2 w x p)))))

    pub carry_read : bit (packed w c a o z s p) carry_flag ≡ c
    unfolding packed
    carry_read =
        law.same 0 (with_flag 4 a (with_flag 11 o (with_flag 6 z (with_flag 7 s (with_flag 2 p w))))) c

    pub auxiliary_read : bit (packed w c a o z s p) auxiliary_carry_flag ≡ a
    unfolding packed
    auxiliary_read =
        law.others 4 0 (with_flag 4 a (with_flag 11 o (with_flag 6 z (with_flag 7 s (with_flag 2 p w))))) c (omega arith)
        ∙ law.same 4 (with_flag 11 o (with_flag 6 z (with_flag 7 s (with_flag 2 p w)))) a

    pub overflow_read : bit (packed w c a o z s p) overflow_flag ≡ o
    unfolding packed
    overflow_read =
        law.others 11 0 (with_flag 4 a (with_flag 11 o (with_flag 6 z (with_flag 7 s (with_flag 2 p w))))) c (omega arith)
        ∙ law.others 11 4 (with_flag 11 o (with_flag 6 z (with_flag 7 s (with_flag 2 p w)))) a (omega arith)
        ∙ law.same 11 (with_flag 6 z (with_flag 7 s (with_flag 2 p w))) o

    pub zero_read : bit (packed w c a o z s p) zero_flag ≡ z
    unfolding packed
    zero_read =
        law.others 6 0 (with_flag 4 a (with_flag 11 o (with_flag 6 z (with_flag 7 s (with_flag 2 p w))))) c (omega arith)
        ∙ law.others 6 4 (with_flag 11 o (with_flag 6 z (with_flag 7 s (with_flag 2 p w)))) a (omega arith)
        ∙ law.others 6 11 (with_flag 6 z (with_flag 7 s (with_flag 2 p w))) o (omega arith)
        ∙ law.same 6 (with_flag 7 s (with_flag 2 p w)) z

    pub sign_read : bit (packed w c a o z s p) sign_flag ≡ s
    unfolding packed
    sign_read =
        law.others 7 0 (with_flag 4 a (with_flag 11 o (with_flag 6 z (with_flag 7 s (with_flag 2 p w))))) c (omega arith)
        ∙ law.others 7 4 (with_flag 11 o (with_flag 6 z (with_flag 7 s (with_flag 2 p w)))) a (omega arith)
        ∙ law.others 7 11 (with_flag 6 z (with_flag 7 s (with_flag 2 p w))) o (omega arith)
        ∙ law.others 7 6 (with_flag 7 s (with_flag 2 p w)) z (omega arith)
        ∙ law.same 7 (with_flag 2 p w) s

    pub parity_read : bit (packed w c a o z s p) parity_flag ≡ p
    unfolding packed
    parity_read =
        law.others 2 0 (with_flag 4 a (with_flag 11 o (with_flag 6 z (with_flag 7 s (with_flag 2 p w))))) c (omega arith)
        ∙ law.others 2 4 (with_flag 11 o (with_flag 6 z (with_flag 7 s (with_flag 2 p w)))) a (omega arith)
        ∙ law.others 2 11 (with_flag 6 z (with_flag 7 s (with_flag 2 p w))) o (omega arith)
        ∙ law.others 2 6 (with_flag 7 s (with_flag 2 p w)) z (omega arith)
        ∙ law.others 2 7 (with_flag 2 p w) s (omega arith)
        ∙ law.same 2 w p

    pub direction_read : bit (packed w c a o z s p) direction_flag ≡ bit w direction_flag
    unfolding packed
    direction_read =
        law.others 10 0 (with_flag 4 a (with_flag 11 o (with_flag 6 z (with_flag 7 s (with_flag 2 p w))))) c (omega arith)
        ∙ law.others 10 4 (with_flag 11 o (with_flag 6 z (with_flag 7 s (with_flag 2 p w)))) a (omega arith)
        ∙ law.others 10 11 (with_flag 6 z (with_flag 7 s (with_flag 2 p w))) o (omega arith)
        ∙ law.others 10 6 (with_flag 7 s (with_flag 2 p w)) z (omega arith)
        ∙ law.others 10 7 (with_flag 2 p w) s (omega arith)
        ∙ law.others 10 2 w p (omega arith)

  -- a result puts three of them
  pub result_put : (w : ℕ) (c a o z s p : Bool) (width value : ℕ) → result_flags width value (packed w c a o z s p)
      ≡ packed w c a o (value == 0) (sign width value) (even_parity value)
  result_put w c a o z s p width value =
      ap (λ n. with_flag zero_flag (value == 0) (with_flag sign_flag (sign width value) n)) (parity_put w c a o z s p (even_parity value))
      ∙ ap (with_flag zero_flag (value == 0)) (sign_put w c a o z s (even_parity value) (sign width value))
      ∙ zero_put w c a o z (sign width value) (even_parity value) (value == 0)

  -- a word with its own flags is itself
  pub itself : (n : ℕ) → packed n (bit n carry_flag) (bit n auxiliary_carry_flag) (bit n overflow_flag) (bit n zero_flag)
      (bit n sign_flag) (bit n parity_flag) ≡ n
  unfolding packed
  itself n =
      ap (λ m. with_flag 0 (bit n 0) (with_flag 4 (bit n 4) (with_flag 11 (bit n 11) (with_flag 6 (bit n 6) (with_flag 7 (bit n 7) m))))) (kept 2 n)
      ∙ ap (λ m. with_flag 0 (bit n 0) (with_flag 4 (bit n 4) (with_flag 11 (bit n 11) (with_flag 6 (bit n 6) m)))) (kept 7 n)
      ∙ ap (λ m. with_flag 0 (bit n 0) (with_flag 4 (bit n 4) (with_flag 11 (bit n 11) m))) (kept 6 n)
      ∙ ap (λ m. with_flag 0 (bit n 0) (with_flag 4 (bit n 4) m)) (kept 11 n)
      ∙ ap (with_flag 0 (bit n 0)) (kept 4 n)
      ∙ kept 0 n

  -- what a sum or a difference leaves, put part by part, CF from the flags that it leaves of no word
  pub carries_put : (w v n found : ℕ) (c a o : Bool) (results overflowed halved carried : ℕ)
      → found ≡ with_flag 0 c (with_flag 4 a (with_flag 11 o (result_flags w v 0))) → results ≡ result_flags w v n
      → overflowed ≡ with_flag 11 o results → halved ≡ with_flag 4 a overflowed → carried ≡ with_flag 0 (bit found 0) halved
      → carried ≡ with_flag 0 c (with_flag 4 a (with_flag 11 o (result_flags w v n)))
  carries_put w v n found c a o results overflowed halved carried is r1 r2 r3 r4 =
      r4 ∙ ap (λ set. with_flag 0 set halved)
      (ap (λ it. bit it 0) is ∙ law.same 0 (with_flag 4 a (with_flag 11 o (result_flags w v 0))) c)
      ∙ ap (with_flag 0 c) (r3 ∙ ap (with_flag 4 a) (r2 ∙ ap (with_flag 11 o) r1))

  -- what a shift by 1 or more leaves, put part by part from the flags that it leaves of a word with the same CF and OF
  pub shift_put : (op : Shift) (w a count n small : ℕ) → (count == 0) ≡ false → bit small 0 ≡ bit n 0 → bit small 11 ≡ bit n 11
      → (found results overflowed carried : ℕ) → found ≡ shift_flags op w a count small
      → results ≡ result_flags w (shifted op w a count) n → overflowed ≡ with_flag 11 (bit found 11) results
      → carried ≡ with_flag 0 (bit found 0) overflowed → carried ≡ shift_flags op w a count n
  shift_put op w a count n small some same_carry same_overflow found results overflowed carried is r1 r2 r3 =
      let value : ℕ = shifted op w a count in
      let c : Bool = shift_carry op w a count (bit n 0) in
      let o : Bool = (if count == 1 then shift_overflow op w a value c else bit n 11) in
      let of_small : found ≡ with_flag 0 c (with_flag 11 o (result_flags w value small)) =
      is ∙ rw some (rw same_carry (rw same_overflow refl)) in
      let of_all : shift_flags op w a count n ≡ with_flag 0 c (with_flag 11 o (result_flags w value n)) = rw some refl in
      let carry : bit found 0 ≡ c = ap (λ it. bit it 0) of_small ∙ law.same 0 (with_flag 11 o (result_flags w value small)) c in
      let overflow : bit found 11 ≡ o = ap (λ it. bit it 11) of_small
      ∙ law.others 11 0 (with_flag 11 o (result_flags w value small)) c (omega arith) ∙ law.same 11 (result_flags w value small) o in
      r3 ∙ ap (λ set. with_flag 0 set overflowed) carry
      ∙ ap (with_flag 0 c) (r2 ∙ ap (λ set. with_flag 11 set results) overflow ∙ ap (with_flag 11 o) r1) ∙ sym of_all

  -- and what a rotation leaves
  pub rotation_put : (left : Bool) (w value count n small : ℕ) → (count == 0) ≡ false → bit small 0 ≡ bit n 0 → bit small 11 ≡ bit n 11
      → (found overflowed carried : ℕ) → found ≡ rotate_flags left w value count small
      → overflowed ≡ with_flag 11 (bit found 11) n → carried ≡ with_flag 0 (bit found 0) overflowed
      → carried ≡ rotate_flags left w value count n
  rotation_put left w value count n small some same_carry same_overflow found overflowed carried is r2 r3 =
      let c : Bool = rotate_carry left w value in
      let o : Bool = (if count == 1 then rotate_overflow left w value else bit n 11) in
      let of_small : found ≡ with_flag 0 c (with_flag 11 o small) = is ∙ rw some (rw same_overflow refl) in
      let of_all : rotate_flags left w value count n ≡ with_flag 0 c (with_flag 11 o n) = rw some refl in
      let carry : bit found 0 ≡ c = ap (λ it. bit it 0) of_small ∙ law.same 0 (with_flag 11 o small) c in
      let overflow : bit found 11 ≡ o = ap (λ it. bit it 11) of_small
      ∙ law.others 11 0 (with_flag 11 o small) c (omega arith) ∙ law.same 11 small o in
      r3 ∙ ap (λ set. with_flag 0 set overflowed) carry
      ∙ ap (with_flag 0 c) (r2 ∙ ap (λ set. with_flag 11 set n) overflow) ∙ sym of_all

-- the highest of 64 bits of a word that is shifted until the one at a place is there
pub raised_bit : (n place : ℕ) → place < 64 → bit (n * 2 ^ (63 - place) % 2 ^ 64) 63 ≡ bit n place
raised_bit n place small =
    let whole : ℕ = n * 2 ^ (63 - place) in
    let parts = shr_split whole 64 in
    let low : bit_at whole 63 ≡ bit_at (whole % 2 ^ 64) 63 =
    ap (λ m. bit_at m 63) (sym parts) ∙ bit_at_cat_low (whole / 2 ^ 64) 64 (whole % 2 ^ 64) 63 (omega arith) in
    let none : whole ≡ n * 2 ^ (63 - place) + 0 = omega arith in
    let high : bit_at whole 63 ≡ bit_at n (63 - (63 - place)) =
    ap (λ m. bit_at m 63) none ∙ bit_at_cat_high n (63 - place) 0 63 (pow_pos (63 - place)) (omega arith) in
    let back : 63 - (63 - place) ≡ place = omega arith in
    ap (λ m. m == 1) (sym low ∙ high ∙ ap (bit_at n) back)

-- a byte of 0 has an even number of ones, and one of 1 hasn't
pub parity_of : (set : Bool) → even_parity (one_if (not set)) ≡ set
unfolding lib.Count.ones
parity_of true = refl
parity_of false = refl
