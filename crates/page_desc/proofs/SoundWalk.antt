-- Over tables whose entries are all lawful the walk of a canonical page outside the kernel slot finds only a leaf that the
-- kind of its frame allows.
use Rattle.std.proofs.Common.{◌≡◌, ◌≢◌, ℕ, zero, suc, ◌+◌, ◌-◌, ◌*◌, ◌/◌, ◌^◌, ◌<◌, ◌≤◌, Bool, true, false, not, ◌&&◌, ◌==◌, List, arith, refl, sym, ap, subst, ◌∙◌, inl, inr}
use Rattle.std.specs.Prelude.{Result, Ok, Err, IfOk, Option, Some, None, IfSome, if◌then◌else◌}
use Rattle.std.proofs.lemmas.Bool.{and_left, and_parts, and_right, both_ways, cases_eq, cond-false, eq-eqb, eqb-true, false≢true, ne_eqb, not-false, or_cases, or_parts}
use Rattle.std.proofs.lemmas.Result.{IfOk-at_ok}
use Rattle.nk_bits.specs.declared.kind.Kind.{Kind}
use Rattle.nk_bits.specs.declared.leaf.Leaf.{Leaf}
use Rattle.nk_bits.specs.declared.leaf.Rights.{Rights}
use Rattle.nk_bits.specs.declared.leaf.Upper.{Upper}
use Rattle.nk_bits.specs.EntryForms.{has_form}
use Rattle.nk_bits.specs.Kinds.{allows, kind_of, level_of}
use Rattle.nk_bits.specs.Paging.{all_rights, common, frame_of, has_all, is_canonical_page, grants_fetches, is_missing, is_present, is_slot_entry, is_slot_page, is_user, grants_writes, page_index, rights_of, slot_value, upper_from, upper_walk, walk, walk_below, walk_from}
use Rattle.page_desc.specs.SoundTables.{AreTables, grants_all, is_lawful, is_lawful_leaf, is_lawful_link}

-- a canonical page outside the kernel slot has another entry than the slot's
pub outside_index : (page : ℕ) → is_canonical_page page ≡ true → is_slot_page page ≡ false → page_index page 4 ≢ 511
unfolding page_index
outside_index page canonical outside is =
    elim (or_cases (4096 * page / 2 ^ 47 == 0) (4096 * page / 2 ^ 47 == 2 ^ 17 - 1) canonical) [
      | inl lower ↦ absurd (omega (arith, is, eqb-true _ _ lower))
      | inr upper ↦
          let slot : page / 2 ^ 27 ≡ 2 ^ 25 - 1 = omega (arith, is, eqb-true _ _ upper) in
          both_ways (is_slot_page page) outside (eq-eqb _ _ slot)
    ]

pub index_small : (page level : ℕ) → page_index page level < 512
unfolding page_index
index_small page level = omega arith

-- a lawful entry that is present, but for the kernel slot's: it has the form of its level, and is a lawful leaf or link
lawful_parts : (kinds : List Kind) (level i e : ℕ) → is_lawful kinds level i e ≡ true
    → is_slot_entry level i ≡ false → is_present e ≡ true
    → (has_form level e ≡ true)
    × ((if level == 1 then is_lawful_leaf kinds e else is_lawful_link kinds level e) ≡ true)
unfolding is_lawful
lawful_parts kinds level i e lawful other present =
    elim (or_cases (not (is_present e)) _ (sym (cond-false (is_slot_entry level i) (e == slot_value) _ other) ∙ lawful)) [
      | inl absent ↦ absurd (false≢true (sym (ap not present) ∙ absent))
      | inr both ↦ and_parts (has_form level e) _ both
    ]

pub lawful_form : (kinds : List Kind) (level i e : ℕ) → is_lawful kinds level i e ≡ true
    → is_slot_entry level i ≡ false → is_present e ≡ true → has_form level e ≡ true
lawful_form kinds level i e lawful other present = (lawful_parts kinds level i e lawful other present).0

pub lawful_present : (kinds : List Kind) (level i e : ℕ) → is_lawful kinds level i e ≡ true
    → is_slot_entry level i ≡ false → is_present e ≡ true
    → (if level == 1 then is_lawful_leaf kinds e else is_lawful_link kinds level e) ≡ true
lawful_present kinds level i e lawful other present = (lawful_parts kinds level i e lawful other present).1

-- the rights that a link leaves
grants_common : (e : ℕ) → grants_all e ≡ true → common all_rights (rights_of e) ≡ all_rights
grants_common e grants =
    let parts = and_parts (grants_writes e && is_user e) (grants_fetches e) grants in
    let first = and_parts (grants_writes e) (is_user e) parts.0 in
    λ j. record { can_write = first.0 j; user = first.1 j; exec = parts.1 j }

pub present_found : (frames level e : ℕ) → is_missing frames level e ≡ false → is_present e ≡ true
unfolding is_missing
present_found frames level e there = not-false (is_present e) (or_parts _ _ (or_parts _ _ there).0).0

-- what holds along a walk from a table of at most this level: a table of the level, with every right so far; at the end a
-- frame whose kind allows the rights
abbrev IsAllowedAt : List Kind → ℕ → ℕ → ℕ → Rights → Type 0
IsAllowedAt kinds most zero f r = allows (kind_of kinds f) r ≡ true
IsAllowedAt kinds most (suc level) f r = (level_of (kind_of kinds f) ≡ suc level) × (r ≡ all_rights) × (suc level ≤ most)

ok_choice : (b : Bool) (level : ℕ) (r : Result Leaf ℕ) (P : Leaf → Type 0) → (b ≡ false → IfOk r P)
    → IfOk (if b then Err level else r) P
ok_choice true level r P rest = tt
ok_choice false level r P rest = rest refl

some_choice : (b : Bool) (o : Option Upper) (P : Upper → Type 0) → (b ≡ false → IfSome o P) → IfSome (if b then None else o) P
some_choice true o P rest = tt
some_choice false o P rest = rest refl

-- no entry that the walk looks up is the kernel slot's
abbrev AvoidsSlot : ℕ → ℕ → Type 0
AvoidsSlot page most = (level : ℕ) → level ≤ most → is_slot_entry level (page_index page level) ≡ false

outside_avoids : (page : ℕ) → is_canonical_page page ≡ true → is_slot_page page ≡ false → AvoidsSlot page 4
outside_avoids page canonical outside level few =
    elim (cases_eq level 4) [
      | inl four ↦ and_right (level == 4) _ (ne_eqb _ 511 (λ is. outside_index page canonical outside (ap (page_index page) (sym four) ∙ is)))
      | inr apart ↦ and_left (level == 4) _ (ne_eqb level 4 apart)
    ]

below_avoids : (page : ℕ) → AvoidsSlot page 3
below_avoids page level few = and_left (level == 4) _ (ne_eqb level 4 (λ is. absurd (omega (arith, is, few))))

module _ (kinds : List Kind) (t : ℕ → ℕ → ℕ) (frames page most : ℕ) (tables : AreTables kinds t) (few : most ≤ 4)
    (avoids : AvoidsSlot page most) where
  entry_form : (level f : ℕ) → level_of (kind_of kinds f) ≡ suc level → suc level ≤ most
      → is_missing frames (suc level) (t f (page_index page (suc level))) ≡ false
      → (if suc level == 1 then is_lawful_leaf kinds (t f (page_index page (suc level))) else is_lawful_link kinds (suc level) (t f (page_index page (suc level)))) ≡ true
  entry_form level f is within there =
      lawful_present kinds (suc level) (page_index page (suc level)) (t f (page_index page (suc level)))
      (ap (λ l. is_lawful kinds l (page_index page (suc level)) (t f (page_index page (suc level)))) (sym is)
      ∙ tables.lawful f (page_index page (suc level)) (index_small page (suc level)) (omega (arith, is)) (omega (arith, is, within)))
      (avoids (suc level) within) (present_found frames (suc level) _ there)

  carries : (level f : ℕ) (r : Rights) → IsAllowedAt kinds most (suc level) f r
      → is_missing frames (suc level) (t f (page_index page (suc level))) ≡ false
      → IsAllowedAt kinds most level (frame_of (t f (page_index page (suc level)))) (common r (rights_of (t f (page_index page (suc level)))))
  carries zero f r holds there =
      ap (λ s. allows (kind_of kinds (frame_of (t f (page_index page 1)))) (common s (rights_of (t f (page_index page 1))))) holds.1 ∙ entry_form 0 f holds.0 holds.2 there
  carries (suc level) f r holds there =
      let e : ℕ = t f (page_index page (suc (suc level))) in
      let upper : (suc (suc level) == 1) ≡ false = ne_eqb (suc (suc level)) 1 (λ is. absurd (omega (arith, is))) in
      let link : is_lawful_link kinds (suc (suc level)) e ≡ true =
      sym (cond-false (suc (suc level) == 1) (is_lawful_leaf kinds e) _ upper)
      ∙ entry_form (suc level) f holds.0 holds.2 there in
      let parts = and_parts (level_of (kind_of kinds (frame_of e)) + 1 == suc (suc level)) (grants_all e) link in
      let below : level_of (kind_of kinds (frame_of e)) + 1 ≡ suc (suc level) = eqb-true _ _ parts.0 in
      (omega (arith, below), ap (λ s. common s (rights_of e)) holds.1 ∙ grants_common e parts.1, omega (arith, holds.2))

  found : (level f : ℕ) (r : Rights) → IsAllowedAt kinds most level f r
      → IfOk (walk_from t frames page level f r) (λ leaf. allows (kind_of kinds leaf.frame) leaf.rights ≡ true)
  unfolding walk_from
  found zero f r holds = holds
  found (suc level) f r holds =
      ok_choice (is_missing frames (suc level) (t f (page_index page (suc level)))) (suc level) _ _ (λ there. found level _ _ (carries level f r holds there))

  -- the first look-ups, where some are left below them
  found_upper : (left rest level f : ℕ) (r : Rights) → level ≡ left + rest → IsAllowedAt kinds most level f r
      → IfSome (upper_from t frames page left level f r) (λ it. IsAllowedAt kinds most rest it.frame it.rights)
  unfolding upper_from
  found_upper zero rest level f r is holds =
      let same : level ≡ rest = omega (arith, is) in subst (λ l. IsAllowedAt kinds most l f r) same holds
  found_upper (suc left) rest zero f r is holds = tt
  found_upper (suc left) rest (suc level) f r is holds =
      some_choice (is_missing frames (suc level) (t f (page_index page (suc level)))) _ (λ it. IsAllowedAt kinds most rest it.frame it.rights)
      (λ there. found_upper left rest level _ _ (omega (arith, is)) (carries level f r holds there))

-- the walk from a table of level 4
pub sound_walk : (kinds : List Kind) (t : ℕ → ℕ → ℕ) (frames root page : ℕ) (leaf : Leaf) → AreTables kinds t
    → level_of (kind_of kinds root) ≡ 4 → is_canonical_page page ≡ true → is_slot_page page ≡ false
    → walk t frames root page ≡ Ok leaf → allows (kind_of kinds leaf.frame) leaf.rights ≡ true
unfolding walk walk_from
sound_walk kinds t frames root page leaf tables is canonical outside walked =
    IfOk-at_ok (λ leaf. allows (kind_of kinds leaf.frame) leaf.rights ≡ true) walked (found kinds t frames page 4 tables (omega arith) (outside_avoids page canonical outside) 4 root all_rights (is, refl, omega arith))

-- rights that grant all are all
granted : (r : Rights) → has_all r ≡ true → r ≡ all_rights
granted r all =
    let parts = and_parts (r.can_write && r.user) r.exec all in
    let first = and_parts r.can_write r.user parts.0 in
    λ j. record { can_write = first.0 j; user = first.1 j; exec = parts.1 j }

-- what is left of a walk from a table one level below an entry
pub sound_below : (kinds : List Kind) (t : ℕ → ℕ → ℕ) (frames page level : ℕ) (it : Upper) (leaf : Leaf) → AreTables kinds t
    → 2 ≤ level → level ≤ 4 → level_of (kind_of kinds it.frame) + 1 ≡ level → has_all it.rights ≡ true
    → walk_below t frames page level it ≡ Ok leaf → allows (kind_of kinds leaf.frame) leaf.rights ≡ true
sound_below kinds t frames page zero it leaf tables least most is all walked = absurd (omega (arith, least))
sound_below kinds t frames page (suc zero) it leaf tables least most is all walked = absurd (omega (arith, least))
sound_below kinds t frames page (suc (suc level)) it leaf tables least most is all walked =
    let rest : suc level ≡ suc (suc level) - 1 = omega arith in
    IfOk-at_ok (λ leaf. allows (kind_of kinds leaf.frame) leaf.rights ≡ true)
    (ap (λ n. walk_from t frames page n it.frame it.rights) rest ∙ walked)
    (found kinds t frames page 3 tables (omega arith) (below_avoids page) (suc level) it.frame it.rights
    (omega (arith, is), granted it.rights all, omega (arith, most)))

-- the tables that a walk from a table of level 4 comes to
pub sound_upper : (kinds : List Kind) (t : ℕ → ℕ → ℕ) (frames root page level : ℕ) (it : Upper) → AreTables kinds t
    → level_of (kind_of kinds root) ≡ 4 → 2 ≤ level → level ≤ 4 → is_slot_page page ≡ false → is_canonical_page page ≡ true
    → upper_walk t frames root page level ≡ Some it → (level_of (kind_of kinds it.frame) + 1 ≡ level) × (has_all it.rights ≡ true)
sound_upper kinds t frames root page zero it tables is least most outside canonical found = absurd (omega (arith, least))
sound_upper kinds t frames root page (suc zero) it tables is least most outside canonical found = absurd (omega (arith, least))
sound_upper kinds t frames root page (suc (suc level)) it tables is least most outside canonical reached =
    let below : IsAllowedAt kinds 4 (suc level) it.frame it.rights =
    subst (λ o. IfSome o (λ it. IsAllowedAt kinds 4 (suc level) it.frame it.rights)) reached
    (found_upper kinds t frames page 4 tables (omega arith) (outside_avoids page canonical outside) (5 - suc (suc level)) (suc level)
    4 root all_rights (omega (arith, most)) (is, refl, omega arith)) in
    (omega (arith, below.0), ap has_all below.1)
