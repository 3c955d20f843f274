-- The steps of counting all tables anew: a row that is counted and one that isn't, and the marks of the kernel slot's
-- tables.
use Rattle.std.proofs.Common.{◌≡◌, ℕ, zero, suc, ◌+◌, ◌*◌, ◌<◌, ◌≤◌, Bool, true, false, ◌&&◌, ◌||◌, ◌==◌, List, length, slice_index, arith, refl, sym, ap, subst, ◌∙◌, inl, inr, zero-add}
use Rattle.std.specs.Prelude.{nat_lt}
use Rattle.std.specs.List.{list_any, range_with_len}
use Rattle.std.proofs.lemmas.List.{get_or_past}
use Rattle.std.proofs.lemmas.List.Folds.{list_any_at}
use Rattle.std.proofs.lemmas.List.FromFn.{get_or-range_with_len, length-range_with_len}
use Rattle.std.proofs.lemmas.Bool.{and_left, both_ways, cases_lt, false_from_ne_true, le-ltb, lt-ltb, true_from_ne_false}
use Rattle.nk_bits.specs.declared.kind.Kind.{Kind}
use Rattle.nk_bits.specs.Kinds.{kind_of, level_of}
use Rattle.nk_bits.specs.Paging.{is_present}
use Rattle.phys_mem.specs.Memory.{entry_in, number_at}
use Rattle.page_desc.specs.FrameCounts.{holds_leaves, is_link_to, is_slot_leaf_table, count_if, sum_below}
use Rattle.page_desc.proofs.Sums.{sum_least, sum_more, sum_zero}
use Rattle.page_desc.proofs.SlotLeafTables.{any_witness}

-- a row that is counted, and one that isn't
pub row_counted : (n : ℕ) (b : Bool) (test : ℕ → Bool) → b ≡ true
    → sum_below n (λ i. count_if (test i)) ≡ sum_below n (λ i. count_if (b && test i))
row_counted n b test is = ap (λ c. sum_below n (λ i. count_if (c && test i))) (sym is)

pub row_passed : (n : ℕ) (b : Bool) (test : ℕ → Bool) → b ≡ false → sum_below n (λ i. count_if (b && test i)) ≡ 0
row_passed n b test is = sum_zero n (λ i. count_if (b && test i)) (λ i small. ap count_if (and_left b (test i) is))

-- an entry that counts in a row, and what the row then has
pub row_step : (start now next one : ℕ) (n : ℕ) (g : ℕ → ℕ) → now ≡ start + sum_below n g → next ≡ now + one → one ≡ g n
    → next ≡ start + sum_below (n + 1) g
row_step start now next one n g before after is = omega (arith, before, after, is, sum_more n g)

-- some number below n passes where their count is above 0
any_by_sum : (n : ℕ) (test : ℕ → Bool)
    → list_any test (range_with_len 0 n) ≡ nat_lt 0 (sum_below n (λ i. count_if (test i)))
any_by_sum n test =
    elim (cases_lt 0 (sum_below n (λ i. count_if (test i)))) [
      | inl some ↦ true_from_ne_false _ (λ none. absurd (omega (arith, some, nothing none))) ∙ sym (lt-ltb _ _ some)
      | inr none ↦ false_from_ne_true _ (λ some. let found = any_witness n 0 test some in absurd (omega (arith, none, least found.0 (omega (arith, found.1)) found.2))) ∙ sym (le-ltb _ _ none)
    ]
  where
    found : (i : ℕ) → i < n → test i ≡ true → list_any test (range_with_len 0 n) ≡ true
    found i small passes =
        list_any_at test (range_with_len 0 n) i 0 (subst (λ k. i < k) (sym (length-range_with_len 0 n)) small)
        (ap test (get_or-range_with_len 0 n i 0 small ∙ zero-add i) ∙ passes)

    nothing : list_any test (range_with_len 0 n) ≡ false → sum_below n (λ i. count_if (test i)) ≡ 0
    nothing none =
        sum_zero n _ (λ i small. ap count_if (false_from_ne_true (test i) (λ passes. both_ways _ none (found i small passes))))

    least : (i : ℕ) → i < n → test i ≡ true → 1 ≤ sum_below n (λ k. count_if (test k))
    least i small passes =
        let part = sum_least n i (λ k. count_if (test k)) small in
        let one : count_if (test i) ≡ 1 = ap count_if passes in
        omega (arith, part, one)

-- so the frames that hold leaves are known by the count of the entries of frame 9 that name each
pub leaves_by_mark : (kinds : List Kind) (t : ℕ → ℕ → ℕ) (frame mark : ℕ)
    → mark ≡ sum_below 512 (λ i. count_if (is_link_to frame (t 9 i)))
    → (level_of (kind_of kinds frame) == 1 || (frame == 8 || nat_lt 0 mark)) ≡ holds_leaves kinds t frame
unfolding holds_leaves is_slot_leaf_table
leaves_by_mark kinds t frame mark is =
    ap (λ b. level_of (kind_of kinds frame) == 1 || (frame == 8 || b)) (ap (nat_lt 0) is ∙ sym (any_by_sum 512 (λ i. is_link_to frame (t 9 i))))

-- past the end of memory no entry is present
number_past : (m : List ℕ) (n p : ℕ) → length m ≤ p → number_at m n p ≡ 0
unfolding number_at
number_past m zero p past = refl
number_past m (suc n) p past =
    let first : slice_index m p ≡ 0 = get_or_past m p 0 past in
    let rest : number_at m n (p + 1) ≡ 0 = number_past m n (p + 1) (omega (arith, past)) in
    omega (arith, first, rest)

pub none_past : (m : List ℕ) (frame other : ℕ) → length m ≤ 4096 * frame
    → sum_below 512 (λ i. count_if (is_link_to other (entry_in m frame i))) ≡ 0
unfolding entry_in is_present
none_past m frame other past =
    sum_zero 512 _ (λ i small. ap (λ e. count_if (is_link_to other e)) (number_past m 8 (4096 * frame + 8 * i) (omega (arith, past))))
