-- The table of the conditions, two by two: each odd one is the even one below, negated.
use Rattle.std.proofs.Common.{◌≡◌, ℕ, ◌*◌, ◌/◌, ◌%◌, ◌<◌, ◌==◌, Bool, true, false, not, ◌&&◌, ◌||◌, refl, ap, ◌∙◌, below_more, below_none}
use Rattle.std.specs.Bool.{beq}
use Rattle.std.specs.Prelude.{slice_index_or}
use Rattle.x86_alu.specs.SignedNumbers.{bit, differ}
use Rattle.x86_alu.specs.Flags.{carry_flag, overflow_flag, sign_flag, zero_flag}
use Rattle.x86_regs.specs.Combinations.{conditions}

neither : (a b : Bool) → not (a || b) ≡ not a && not b
neither true b = refl
neither false b = refl

-- the condition of this number by the even one that it is paired with
abbrev IsPaired : ℕ → ℕ → Type 0
IsPaired flags k = differ (k % 2 == 1) (slice_index_or (conditions flags) (2 * (k / 2)) false) ≡ slice_index_or (conditions flags) k false

paired : (flags k : ℕ) → k < 16 → IsPaired flags k
paired flags k few =
    let P : ℕ → Type 0 = IsPaired flags in
    let c : Bool = bit flags carry_flag in
    let z : Bool = bit flags zero_flag in
    let apart : Bool = differ (bit flags sign_flag) (bit flags overflow_flag) in
    below_more P 15 (below_more P 14 (below_more P 13 (below_more P 12 (below_more P 11 (below_more P 10 (below_more P 9 (below_more P 8
    (below_more P 7 (below_more P 6 (below_more P 5 (below_more P 4 (below_more P 3 (below_more P 2 (below_more P 1 (below_more P 0
    (below_none P) refl) refl) refl) refl) refl) refl) refl) (neither c z)) refl) refl) refl) refl) refl) refl) refl)
    (neither z apart) k few

-- what the code makes of the even condition
differs : (odd even : Bool) → not (beq odd even) ≡ differ odd even
differs true true = refl
differs true false = refl
differs false true = refl
differs false false = refl

pub made_of_even : (flags k : ℕ) (even : Bool) → k < 16 → even ≡ slice_index_or (conditions flags) (2 * (k / 2)) false
    → not (beq (k % 2 == 1) even) ≡ slice_index_or (conditions flags) k false
made_of_even flags k even few is = differs (k % 2 == 1) even ∙ ap (differ (k % 2 == 1)) is ∙ paired flags k few
