-- The text of changes, part by part.
use Rattle.std.proofs.Common.{◌≡◌, ℕ, suc, ◌+◌, ◌<◌, ◌≤◌, List, [], ◌∷◌, ◌++◌, drop, length, slice_index, sym, ap, ◌∙◌, refl, append_assoc, arith}
use Rattle.std.specs.Prelude.{◌==◌, not}
use Rattle.std.proofs.lemmas.List.{drop_all, drop_more}
use Rattle.x86_alu.specs.SignedNumbers.{bit, differ}
use Rattle.step_trace.specs.StepChanges.{Change, Flag, General, flag_changes, general_changes, where_so}
use Rattle.step_trace.specs.StepTexts.{change_text, changes_text}

-- changes behind others
pub changes_behind : (before after : List Change)
    → changes_text (before ++ after) ≡ changes_text before ++ changes_text after
changes_behind [] after = refl
changes_behind (change ∷ before) after =
    ap (λ l. change_text change ++ l) (changes_behind before after)
    ∙ sym (append_assoc (change_text change) (changes_text before) (changes_text after))

-- what became of the register of a number, and of a flag
abbrev one_register : List ℕ → List ℕ → ℕ → List Change
one_register before after i =
    where_so (not (slice_index before i == slice_index after i)) (General i (slice_index after i))

abbrev one_flag : List ℕ → ℕ → ℕ → ℕ → List Change
one_flag places before after i =
    where_so (differ (bit before (slice_index places i)) (bit after (slice_index places i)))
    (Flag (slice_index places i) (bit after (slice_index places i)))

-- the general registers from a number on begin with the one of that number
pub register_first : (before after : List ℕ) (i : ℕ) → i < length before → i < length after
    → changes_text (general_changes i (drop i before) (drop i after))
    ≡ changes_text (one_register before after i)
    ++ changes_text (general_changes (i + 1) (drop (i + 1) before) (drop (i + 1) after))
register_first before after i in_before in_after =
    let one_more : suc i ≡ i + 1 = omega arith in
    ap (λ l. changes_text (general_changes i l (drop i after))) (drop_more before i 0 in_before)
    ∙ ap (λ l. changes_text (general_changes i (slice_index before i ∷ drop (i + 1) before) l))
    (drop_more after i 0 in_after)
    ∙ changes_behind (one_register before after i) (general_changes (suc i) (drop (i + 1) before) (drop (i + 1) after))
    ∙ ap (λ m. changes_text (one_register before after i)
    ++ changes_text (general_changes m (drop (i + 1) before) (drop (i + 1) after))) one_more

-- and at the end are none
pub no_register : (before after : List ℕ) (i : ℕ) → length before ≤ i
    → changes_text (general_changes i (drop i before) (drop i after)) ≡ []
no_register before after i past = ap (λ l. changes_text (general_changes i l (drop i after))) (drop_all i before past)

-- the flags from a number on begin with the one of that number
pub flag_first : (places : List ℕ) (before after i : ℕ) → i < length places
    → changes_text (flag_changes (drop i places) before after)
    ≡ changes_text (one_flag places before after i)
    ++ changes_text (flag_changes (drop (i + 1) places) before after)
flag_first places before after i inside =
    ap (λ l. changes_text (flag_changes l before after)) (drop_more places i 0 inside)
    ∙ changes_behind (one_flag places before after i) (flag_changes (drop (i + 1) places) before after)

-- and at the end are none
pub no_flag : (places : List ℕ) (before after i : ℕ) → length places ≤ i
    → changes_text (flag_changes (drop i places) before after) ≡ []
no_flag places before after i past = ap (λ l. changes_text (flag_changes l before after)) (drop_all i places past)

-- texts of changes that are put one behind the other
pub then_changes : (now mid next : List ℕ) (first second : List Change) → mid ≡ now ++ changes_text first
    → next ≡ mid ++ changes_text second → next ≡ now ++ changes_text (first ++ second)
then_changes now mid next first second put more =
    more ∙ ap (λ l. l ++ changes_text second) put ∙ append_assoc now (changes_text first) (changes_text second)
    ∙ ap (λ l. now ++ l) (sym (changes_behind first second))

-- and three of them, of which the second has two parts
pub three_changes : (now one two next : List ℕ) (a b c d : List Change) → one ≡ now ++ changes_text a
    → two ≡ one ++ changes_text (b ++ c) → next ≡ two ++ changes_text d
    → next ≡ now ++ changes_text (a ++ (b ++ (c ++ d)))
three_changes now one two next a b c d first second third =
    then_changes now one next a ((b ++ c) ++ d) first (then_changes one two next (b ++ c) d second third)
    ∙ ap (λ l. now ++ changes_text (a ++ l)) (append_assoc b c d)

-- and four of them, two by two
pub four_changes : (now mid next : List ℕ) (a b c d : List Change) → mid ≡ now ++ changes_text (a ++ b)
    → next ≡ mid ++ changes_text (c ++ d) → next ≡ now ++ changes_text (a ++ (b ++ (c ++ d)))
four_changes now mid next a b c d first second =
    then_changes now mid next (a ++ b) (c ++ d) first second
    ∙ ap (λ l. now ++ changes_text l) (append_assoc a b (c ++ d))
