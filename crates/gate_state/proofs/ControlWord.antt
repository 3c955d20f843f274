-- CR0 as a number: what a load keeps of a value, where WP is clear, and what the gates' own arithmetic makes of it.
use Rattle.std.proofs.Common.{◌≡◌, ◌≢◌, ◌⊎◌, ℕ, ◌+◌, ◌*◌, ◌/◌, ◌%◌, ◌^◌, ◌<◌, true, false, refl, inl, inr, sym, ap, ◌∙◌, subst, arith}
use Rattle.std.specs.Prelude.{not, ◌&&◌, ◌||◌, ◌==◌, nat_lt, bit_and, bit_or}
use Rattle.std.proofs.lemmas.Bool.{and_parts, false≢true, or_cases, eqb-true, cases_eq, eqb-false, ltb-true, not-true}
use Rattle.std.proofs.lemmas.Nat.{and_block, and_mask}
use Rattle.std.proofs.lemmas.Nat.Bits.{and_pow}
use Rattle.nk_bits.specs.Accesses.{wp_of}
use Rattle.x86_alu.specs.Flags.{with_flag}
use Rattle.x86_alu.specs.SignedNumbers.{bit, cut}
use Rattle.x86_regs.specs.OperandOutcomes.{is_cr0}
use Rattle.cpu_step.specs.Turns.{kept_in_cr0}
use Rattle.gate_state.specs.GuardedStates.{IsCr0}

-- the bits that are kept: 29 and above, which three bits make up where the value has 32, then 16, and 0
kept_parts : (q t u : ℕ) → t < 8192 → u < 65536
    → kept_in_cr0 ((q * 8192 + t) * 65536 + u) ≡ (q % 8 * 8192 + t % 2) * 65536 + u % 2
kept_parts q t u middle low =
    and_block 16 (q * 8192 + t) 57345 u 1 low (omega arith)
    ∙ ap (λ high. high * 65536 + bit_and u 1) (and_block 13 q 7 t 1 middle (omega arith))
    ∙ ap (λ most. (most * 8192 + bit_and t 1) * 65536 + bit_and u 1) (and_mask q 3)
    ∙ ap (λ one. (q % 8 * 8192 + one) * 65536 + bit_and u 1) (and_mask t 1)
    ∙ ap (λ one. (q % 8 * 8192 + t % 2) * 65536 + one) (and_mask u 1)

-- the same, by the value's quotients
kept_is : (value : ℕ) → kept_in_cr0 value ≡ value / 536870912 % 8 * 536870912 + value / 65536 % 2 * 65536 + value % 2
kept_is value =
    let whole : value ≡ (value / 536870912 * 8192 + value / 65536 % 8192) * 65536 + value % 65536 = omega arith in
    let parts = kept_parts (value / 536870912) (value / 65536 % 8192) (value % 65536) (omega arith) (omega arith) in
    ap kept_in_cr0 whole ∙ parts ∙ omega arith

-- one of six
six : (kept q t : ℕ) → kept ≡ q * 536870912 + t * 65536 + 1 → (q ≡ 4) ⊎ ((q ≡ 6) ⊎ (q ≡ 7))
    → (t ≡ 0) ⊎ (t ≡ 1) → IsCr0 kept
six kept q t e (inl four) (inl clear) = inl (omega arith)
six kept q t e (inl four) (inr set) = inr (inl (omega arith))
six kept q t e (inr (inl both)) (inl clear) = inr (inr (inl (omega arith)))
six kept q t e (inr (inl both)) (inr set) = inr (inr (inr (inl (omega arith))))
six kept q t e (inr (inr all)) (inl clear) = inr (inr (inr (inr (inl (omega arith)))))
six kept q t e (inr (inr all)) (inr set) = inr (inr (inr (inr (inr (omega arith)))))

-- three bits of which the highest is set, and the lowest only with the one between
three_bits : (q : ℕ) → q < 8 → q / 4 % 2 ≡ 1 → (q % 2 ≢ 1) ⊎ (q / 2 % 2 ≡ 1) → (q ≡ 4) ⊎ ((q ≡ 6) ⊎ (q ≡ 7))
three_bits q few top rest = elim (cases_eq q 4) [
  | inl four ↦ inl four
  | inr not_four ↦ elim (cases_eq q 6) [
    | inl six ↦ inr (inl six)
    | inr not_six ↦ inr (inr (elim rest [ inl clear ↦ omega arith | inr set ↦ omega arith ]))
  ]
]

upper : (value : ℕ) → value < 4294967296 → value / 2147483648 % 2 ≡ 1
    → (value / 536870912 % 2 ≢ 1) ⊎ (value / 1073741824 % 2 ≡ 1)
    → (value / 536870912 % 8 ≡ 4) ⊎ ((value / 536870912 % 8 ≡ 6) ⊎ (value / 536870912 % 8 ≡ 7))
upper value fits top rest =
    three_bits (value / 536870912 % 8) (omega arith) (omega arith)
    (elim rest [ inl clear ↦ inl (λ e. clear (omega arith)) | inr set ↦ inr (omega arith) ])

digit : (n : ℕ) → (n % 2 ≡ 0) ⊎ (n % 2 ≡ 1)
digit n = elim (cases_eq (n % 2) 0) [ inl none ↦ inl none | inr some ↦ inr (omega arith) ]

-- bit 29 is clear, or bit 30 set
only_with : (a b : ℕ) → (not (a == 1) || (b == 1)) ≡ true → (a ≢ 1) ⊎ (b ≡ 1)
only_with a b is = elim (or_cases (not (a == 1)) (b == 1) is) [
  | inl clear ↦ inl (eqb-false a 1 (not-true (a == 1) clear))
  | inr set ↦ inr (eqb-true b 1 set)
]

pub cr0_kept : (value : ℕ) → is_cr0 value ≡ true → IsCr0 (kept_in_cr0 value)
cr0_kept value is =
    let fields = and_parts (nat_lt value 4294967296 && bit value 0 && bit value 31) _ is in
    let whole = and_parts (nat_lt value 4294967296 && bit value 0) (bit value 31) fields.0 in
    let low = and_parts (nat_lt value 4294967296) (bit value 0) whole.0 in
    let one : value % 2 ≡ 1 = omega (arith, eqb-true _ _ low.1) in
    six (kept_in_cr0 value) (value / 536870912 % 8) (value / 65536 % 2) (omega (arith, kept_is value))
    (upper value (ltb-true _ _ low.0) (eqb-true _ _ whole.1) (only_with _ _ fields.1)) (digit (value / 65536))

pub wp_kept : (value : ℕ) → wp_of (kept_in_cr0 value) ≡ bit value 16
unfolding wp_of
wp_kept value = ap (λ n. n == 1) (omega (arith, kept_is value))

-- CR0 with WP clear: it is one of three values
abbrev pub IsOpenCr0 : ℕ → Type 0
IsOpenCr0 cr0 = (cr0 ≡ 0x80000001) ⊎ (cr0 ≡ 0xC0000001) ⊎ (cr0 ≡ 0xE0000001)

-- a number whose WP is known isn't one whose WP is otherwise
other : (c d : ℕ) → c ≡ d → wp_of c ≡ false → wp_of d ≡ true → ⊥
other c d same clear set = false≢true (sym clear ∙ ap wp_of same ∙ set)

pub open_cr0 : (c : ℕ) → IsCr0 c → wp_of c ≡ false → IsOpenCr0 c
unfolding wp_of
open_cr0 c (inl one) clear = inl one
open_cr0 c (inr (inl two)) clear = absurd (other c _ two clear refl)
open_cr0 c (inr (inr (inl three))) clear = inr (inl three)
open_cr0 c (inr (inr (inr (inl four)))) clear = absurd (other c _ four clear refl)
open_cr0 c (inr (inr (inr (inr (inl five))))) clear = inr (inr five)
open_cr0 c (inr (inr (inr (inr (inr six))))) clear = absurd (other c _ six clear refl)

-- what the gates make of CR0: RAX holds it whole, the OR of EAX sets WP in it and changes nothing else, RAX holds that
-- whole too, and its load is admitted and sets WP
pub record IsRaised (c : ℕ) : Type 0 where
  pub whole : c % 2 ^ 64 ≡ c
  pub raised : bit_or (cut 32 (c % 2 ^ 32)) 0x10000 % 2 ^ 32 ≡ with_flag 16 true c
  pub raised_whole : cut 64 (with_flag 16 true c % 2 ^ 64) ≡ with_flag 16 true c
  pub admitted : is_cr0 (with_flag 16 true c) ≡ true
  pub set : wp_of (kept_in_cr0 (with_flag 16 true c)) ≡ true

-- what holds of six numbers holds of CR0
of_six : (P : ℕ → Type 0) → P 0x80000001 → P 0x80010001 → P 0xC0000001 → P 0xC0010001 → P 0xE0000001 → P 0xE0010001
    → (c : ℕ) → IsCr0 c → P c
of_six P first second third fourth fifth sixth c (inl one) = subst P (sym one) first
of_six P first second third fourth fifth sixth c (inr (inl two)) = subst P (sym two) second
of_six P first second third fourth fifth sixth c (inr (inr (inl three))) = subst P (sym three) third
of_six P first second third fourth fifth sixth c (inr (inr (inr (inl four)))) = subst P (sym four) fourth
of_six P first second third fourth fifth sixth c (inr (inr (inr (inr (inl five))))) = subst P (sym five) fifth
of_six P first second third fourth fifth sixth c (inr (inr (inr (inr (inr six))))) = subst P (sym six) sixth

pub raised_cr0 : (c : ℕ) → IsCr0 c → IsRaised c
unfolding wp_of with_flag
raised_cr0 c is =
    of_six IsRaised
    (record { whole = refl; raised = refl; raised_whole = refl; admitted = refl; set = refl })
    (record { whole = refl; raised = refl; raised_whole = refl; admitted = refl; set = refl })
    (record { whole = refl; raised = refl; raised_whole = refl; admitted = refl; set = refl })
    (record { whole = refl; raised = refl; raised_whole = refl; admitted = refl; set = refl })
    (record { whole = refl; raised = refl; raised_whole = refl; admitted = refl; set = refl })
    (record { whole = refl; raised = refl; raised_whole = refl; admitted = refl; set = refl })
    c is

-- TEST of EAX with WP alone finds nothing where WP is clear in RAX
pub tested_clear : (a : ℕ) → bit a 16 ≡ false → bit_and (cut 32 (a % 2 ^ 32)) 0x10000 ≡ 0
tested_clear a clear =
    let none : a / 65536 % 2 ≡ 1 → ⊥ = eqb-false _ _ clear in
    let digit_clear : cut 32 (a % 4294967296) / 65536 % 2 ≡ 0 = omega arith in
    and_pow (cut 32 (a % 2 ^ 32)) 16 ∙ ap (λ n. n * 65536) digit_clear
