-- CR0 with WP cleared, the test of WP where it is set, and what a logic operation leaves of two flags.
use Rattle.std.proofs.Common.{◌≡◌, ◌≢◌, ℕ, ◌%◌, ◌^◌, true, false, List, refl, inl, inr, sym, ◌∙◌, subst, arith, get_or-set_other}
use Rattle.std.specs.Prelude.{◌==◌, bit_and, slice_index}
use Rattle.decode_fields.specs.declared.place.Place.TheVariants.{Reg}
use Rattle.nk_bits.specs.Accesses.{wp_of}
use Rattle.x86_alu.specs.Bitwise.{logic_flags}
use Rattle.x86_alu.specs.Flags.{even_parity, with_flag, zero_flag}
use Rattle.x86_alu.specs.SignedNumbers.{bit, cut, sign}
use Rattle.x86_regs.specs.Combinations.{interrupt_flag}
use Rattle.x86_regs.specs.OperandOutcomes.{is_cr0}
use Rattle.x86_regs.specs.Operands.{with_register}
use Rattle.x86_regs.specs.Registers.{written}
use Rattle.cpu_step.specs.Turns.{kept_in_cr0}
use Rattle.gate_state.specs.GuardedStates.{IsCr0}
use Rattle.gate_state.proofs.LowerLaws.{LowerLaws}

-- EAX tested for WP
abbrev pub wp_tested : ℕ → ℕ
wp_tested a = bit_and (cut 32 (a % 2 ^ 32)) 0x10000

-- what the gates make of CR0: the AND of EAX clears WP in it and changes nothing else, RAX holds that whole, and its
-- load is admitted and clears WP; and where WP was set in it, the test finds it
pub record IsLowered (c : ℕ) : Type 0 where
  pub lowered : bit_and (cut 32 (c % 2 ^ 32)) 0xFFFEFFFF % 2 ^ 32 ≡ with_flag 16 false c
  pub lowered_whole : cut 64 (with_flag 16 false c % 2 ^ 64) ≡ with_flag 16 false c
  pub admitted : is_cr0 (with_flag 16 false c) ≡ true
  pub clear : wp_of (kept_in_cr0 (with_flag 16 false c)) ≡ false
  pub found : (wp_tested (with_flag 16 true c) == 0) ≡ false

pub lowered_cr0 : (c : ℕ) → IsCr0 c → IsLowered c
unfolding wp_of with_flag
lowered_cr0 c (inl is) =
    subst IsLowered (sym is)
    (record { lowered = refl; lowered_whole = refl; admitted = refl; clear = refl; found = refl })
lowered_cr0 c (inr (inl is)) =
    subst IsLowered (sym is)
    (record { lowered = refl; lowered_whole = refl; admitted = refl; clear = refl; found = refl })
lowered_cr0 c (inr (inr (inl is))) =
    subst IsLowered (sym is)
    (record { lowered = refl; lowered_whole = refl; admitted = refl; clear = refl; found = refl })
lowered_cr0 c (inr (inr (inr (inl is)))) =
    subst IsLowered (sym is)
    (record { lowered = refl; lowered_whole = refl; admitted = refl; clear = refl; found = refl })
lowered_cr0 c (inr (inr (inr (inr (inl is))))) =
    subst IsLowered (sym is)
    (record { lowered = refl; lowered_whole = refl; admitted = refl; clear = refl; found = refl })
lowered_cr0 c (inr (inr (inr (inr (inr is))))) =
    subst IsLowered (sym is)
    (record { lowered = refl; lowered_whole = refl; admitted = refl; clear = refl; found = refl })

-- ZF says whether a result is zero
pub zero_is : LowerLaws → (w value flags : ℕ) → bit (logic_flags w value flags) zero_flag ≡ (value == 0)
zero_is lower w value flags =
    lower.flag.others 6 0 _ false (λ e. absurd (omega arith))
    ∙ lower.flag.others 6 11 _ false (λ e. absurd (omega arith))
    ∙ lower.flag.same 6 _ (value == 0)

-- IF stays
pub interrupt_stays : LowerLaws → (w value flags : ℕ)
    → bit (logic_flags w value flags) interrupt_flag ≡ bit flags interrupt_flag
interrupt_stays lower w value flags =
    lower.flag.others 9 0 _ false (λ e. absurd (omega arith))
    ∙ lower.flag.others 9 11 _ false (λ e. absurd (omega arith))
    ∙ lower.flag.others 9 6 _ (value == 0) (λ e. absurd (omega arith))
    ∙ lower.flag.others 9 7 _ (sign w value) (λ e. absurd (omega arith))
    ∙ lower.flag.others 9 2 _ (even_parity value) (λ e. absurd (omega arith))

-- other registers than the one that is written
pub register_other : (general : List ℕ) (n value k : ℕ) → k ≢ n
    → slice_index (with_register general n value) k ≡ slice_index general k
register_other general n value k other = get_or-set_other general n k (value % 2 ^ 64) 0 other

pub low_other : (general : List ℕ) (value k : ℕ) → k ≢ 0
    → slice_index (written general (Reg 0) 32 value) k ≡ slice_index general k
low_other general value k other = get_or-set_other general 0 k (value % 2 ^ 32) 0 other
