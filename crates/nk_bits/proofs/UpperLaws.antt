-- The first look-ups of a walk: one at a time, the rest of the walk below them, and pages that share them.
use Rattle.std.proofs.Common.{◌≡◌, ℕ, zero, suc, ◌+◌, ◌-◌, ◌/◌, ◌%◌, ◌^◌, ◌<◌, ◌≤◌, Bool, true, false, ◌==◌, ◌||◌, [], arith, refl, sym, ap, subst, ◌∙◌}
use Rattle.std.specs.Prelude.{Some, None, Err, if◌then◌else◌}
use Rattle.std.proofs.lemmas.Bool.{and_parts, eqb-true, false≢true}
use Rattle.std.proofs.lemmas.Option.{none-some, same_Some}
use Rattle.std.proofs.lemmas.Nat.{pow-add}
use Rattle.std.proofs.Math.Nat.{div-div-eq-div-mul, mul-div_cancel, one-le-pow}
use Rattle.nk_bits.specs.declared.leaf.Rights.{Rights}
use Rattle.nk_bits.specs.declared.leaf.Upper.{Upper}
use Rattle.nk_bits.specs.Paging.{page_index, frame_of, rights_of, common, all_rights, is_missing, is_slot_page, walk, walk_from, upper_from, upper_walk}
use Rattle.nk_bits.specs.UpperEntries.{KeptEntry, span_of, first_of_span, is_for, serves_page, walk_by}
use Rattle.nk_bits.proofs.WalkLaws.{frame_in_memory}

-- one look-up, by the level of its table: past an entry that isn't missing they go on, and at one that is nothing is found
pub upper_past : (t : ℕ → ℕ → ℕ) (frames page left level f : ℕ) (r : Rights) → 1 ≤ left → 1 ≤ level →
    is_missing frames level (t f (page_index page level)) ≡ false →
    upper_from t frames page left level f r ≡ upper_from t frames page (left - 1) (level - 1) (frame_of (t f (page_index page level))) (common r (rights_of (t f (page_index page level))))
unfolding upper_from
upper_past t frames page zero level f r some low there = absurd (omega (arith, some))
upper_past t frames page (suc left) zero f r some low there = absurd (omega (arith, low))
upper_past t frames page (suc left) (suc level) f r some low there =
    let fewer : left ≡ suc left - 1 = omega arith in
    let below : level ≡ suc level - 1 = omega arith in
    let e = t f (page_index page (suc level)) in
    ap (λ b. if b then None else upper_from t frames page left level (frame_of e) (common r (rights_of e))) there
    ∙ ap (λ k. upper_from t frames page k level (frame_of e) (common r (rights_of e))) fewer
    ∙ ap (λ k. upper_from t frames page (suc left - 1) k (frame_of e) (common r (rights_of e))) below

pub upper_missing : (t : ℕ → ℕ → ℕ) (frames page left level f : ℕ) (r : Rights) → 1 ≤ left → 1 ≤ level →
    is_missing frames level (t f (page_index page level)) ≡ true → upper_from t frames page left level f r ≡ None
unfolding upper_from
upper_missing t frames page zero level f r some low missing = absurd (omega (arith, some))
upper_missing t frames page (suc left) zero f r some low missing = absurd (omega (arith, low))
upper_missing t frames page (suc left) (suc level) f r some low missing =
    let e = t f (page_index page (suc level)) in
    ap (λ b. if b then None else upper_from t frames page left level (frame_of e) (common r (rights_of e))) missing

pub upper_end : (t : ℕ → ℕ → ℕ) (frames page level f : ℕ) (r : Rights) → upper_from t frames page 0 level f r ≡ Some (record { frame = f; rights = r })
unfolding upper_from
upper_end t frames page level f r = refl

-- the walk goes on from what its first look-ups found
pub walks_on : (t : ℕ → ℕ → ℕ) (frames page left level f : ℕ) (r : Rights) (it : Upper) → upper_from t frames page left level f r ≡ Some it →
    walk_from t frames page level f r ≡ walk_from t frames page (level - left) it.frame it.rights
unfolding walk_from upper_from
walks_on t frames page zero level f r it found =
    let rest : level ≡ level - 0 = omega arith in
    let begins : Upper = record { frame = f; rights = r } in
    ap (λ (upper : Upper). walk_from t frames page level upper.frame upper.rights) (same_Some begins it found)
    ∙ ap (λ k. walk_from t frames page k it.frame it.rights) rest
walks_on t frames page (suc left) zero f r it found = absurd (none-some it found)
walks_on t frames page (suc left) (suc level) f r it found = go (is_missing frames (suc level) e) (walks_on t frames page left level (frame_of e) (common r (rights_of e)) it) found
  where
    e : ℕ
    e = t f (page_index page (suc level))

    go : (b : Bool) →
        (upper_from t frames page left level (frame_of e) (common r (rights_of e)) ≡ Some it →
        walk_from t frames page level (frame_of e) (common r (rights_of e)) ≡ walk_from t frames page (level - left) it.frame it.rights) →
        (if b then None else upper_from t frames page left level (frame_of e) (common r (rights_of e))) ≡ Some it →
        (if b then Err (suc level) else walk_from t frames page level (frame_of e) (common r (rights_of e))) ≡ walk_from t frames page (suc level - suc left) it.frame it.rights
    go true later found = absurd (none-some it found)
    go false later found =
        let rest : level - left ≡ suc level - suc left = omega arith in
        later found ∙ ap (λ k. walk_from t frames page k it.frame it.rights) rest

-- the frame that they find is in memory, if the one where they begin is, or there is one look-up at least
upper_within : (t : ℕ → ℕ → ℕ) (frames page left level f : ℕ) (r : Rights) (it : Upper) → (left ≡ 0 → f < frames) →
    upper_from t frames page left level f r ≡ Some it → it.frame < frames
unfolding upper_from
upper_within t frames page zero level f r it begins found =
    let at : Upper = record { frame = f; rights = r } in subst (λ (upper : Upper). upper.frame < frames) (same_Some at it found) (begins refl)
upper_within t frames page (suc left) zero f r it begins found = absurd (none-some it found)
upper_within t frames page (suc left) (suc level) f r it begins found =
    go (is_missing frames (suc level) e) refl (upper_within t frames page left level (frame_of e) (common r (rights_of e)) it) found
  where
    e : ℕ
    e = t f (page_index page (suc level))

    go : (b : Bool) → is_missing frames (suc level) e ≡ b →
        ((left ≡ 0 → frame_of e < frames) → upper_from t frames page left level (frame_of e) (common r (rights_of e)) ≡ Some it → it.frame < frames) →
        (if b then None else upper_from t frames page left level (frame_of e) (common r (rights_of e))) ≡ Some it → it.frame < frames
    go true is later found = absurd (none-some it found)
    go false is later found = later (λ _. frame_in_memory frames (suc level) e is) found

pub upper_in_memory : (t : ℕ → ℕ → ℕ) (frames root page level : ℕ) (it : Upper) → level ≤ 4 → upper_walk t frames root page level ≡ Some it → it.frame < frames
upper_in_memory t frames root page level it low found =
    upper_within t frames page (5 - level) 4 root all_rights it (λ none. absurd (omega (arith, low, none))) found

-- pages with the same indices at these levels share the look-ups
upper_alike : (t : ℕ → ℕ → ℕ) (frames page other left level f : ℕ) (r : Rights) →
    ((k : ℕ) → k ≤ level → level < k + left → page_index page k ≡ page_index other k) →
    upper_from t frames page left level f r ≡ upper_from t frames other left level f r
unfolding upper_from
upper_alike t frames page other zero level f r same = refl
upper_alike t frames page other (suc left) zero f r same = refl
upper_alike t frames page other (suc left) (suc level) f r same =
    ap (λ i. let e = t f i in if is_missing frames (suc level) e then None else upper_from t frames page left level (frame_of e) (common r (rights_of e))) (same (suc level) (omega arith) (omega arith))
    ∙ ap (λ rest. if is_missing frames (suc level) e then None else rest)
    (upper_alike t frames page other left level (frame_of e) (common r (rights_of e)) (λ k low high. same k (omega (arith, low)) (omega (arith, high))))
  where
    e : ℕ
    e = t f (page_index other (suc level))

-- the digits of a page number from one place up are those from a lower place up, without the first of them
above : (page level more : ℕ) → page / 512 ^ (level + more) ≡ page / 512 ^ level / 512 ^ more
above page level more = ap (λ x. page / x) (pow-add 512 level more) ∙ sym (div-div-eq-div-mul page (512 ^ level) (512 ^ more))

-- so pages that share their number at a level share it at each level above
same_above : (page other level k : ℕ) → level ≤ k → span_of level page ≡ span_of level other → span_of k page ≡ span_of k other
unfolding span_of
same_above page other level k up same =
    let split : k - 1 ≡ (level - 1) + ((k - 1) - (level - 1)) = omega (arith, up) in
    let more = (k - 1) - (level - 1) in
    ap (λ x. page / 512 ^ x) split ∙ above page (level - 1) more ∙ ap (λ x. x / 512 ^ more) same ∙ sym (above other (level - 1) more) ∙ sym (ap (λ x. other / 512 ^ x) split)

pub upper_same_span : (t : ℕ → ℕ → ℕ) (frames root page other level : ℕ) → 1 ≤ level → level ≤ 4 → span_of level page ≡ span_of level other →
    upper_walk t frames root page level ≡ upper_walk t frames root other level
unfolding span_of page_index
upper_same_span t frames root page other level least most same =
    upper_alike t frames page other (5 - level) 4 root all_rights (λ k low high. ap (λ x. x % 512) (same_above page other level k (omega (arith, high, most)) same))

pub slot_same_span : (page other level : ℕ) → 1 ≤ level → level ≤ 4 → span_of level page ≡ span_of level other → is_slot_page page ≡ is_slot_page other
unfolding span_of
slot_same_span page other level least most same = ap (λ x. x == 2 ^ 25 - 1) (same_above page other level 4 most same)

pub span_of_first_page : (level bits : ℕ) → span_of level (first_of_span level bits) ≡ bits
unfolding span_of first_of_span
span_of_first_page level bits = mul-div_cancel bits (one-le-pow (level - 1) 512 (omega arith))

-- an entry that serves a page is of one of the three levels, and has the page's number there
pub covers_says : (page : ℕ) (entry : KeptEntry) → serves_page page entry ≡ true → (2 ≤ entry.0) × (entry.0 ≤ 4) × (entry.1 ≡ span_of entry.0 page)
covers_says page entry is = go (is_for 2 page entry) (is_for 3 page entry) (is_for 4 page entry) refl refl refl is
  where
    at : (level : ℕ) → 2 ≤ level → level ≤ 4 → is_for level page entry ≡ true → (2 ≤ entry.0) × (entry.0 ≤ 4) × (entry.1 ≡ span_of entry.0 page)
    at level least most is =
        let parts = and_parts (entry.0 == level) (entry.1 == span_of level page) is in
        let level_is = eqb-true entry.0 level parts.0 in
        (omega (arith, level_is, least), omega (arith, level_is, most), eqb-true entry.1 (span_of level page) parts.1 ∙ ap (λ k. span_of k page) (sym level_is))

    go : (two three four : Bool) → is_for 2 page entry ≡ two → is_for 3 page entry ≡ three → is_for 4 page entry ≡ four → (two || three || four) ≡ true →
        (2 ≤ entry.0) × (entry.0 ≤ 4) × (entry.1 ≡ span_of entry.0 page)
    go true three four second third fourth is = at 2 (omega arith) (omega arith) second
    go false true four second third fourth is = at 3 (omega arith) (omega arith) third
    go false false true second third fourth is = at 4 (omega arith) (omega arith) fourth
    go false false false second third fourth is = absurd (false≢true is)

-- where no entry is kept, the walk begins at the root
pub walk_by_none : (t : ℕ → ℕ → ℕ) (frames root page : ℕ) → walk_by t frames root [] page ≡ walk t frames root page
unfolding walk_by
walk_by_none t frames root page = refl
