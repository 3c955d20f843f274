-- What it is for a translation to respect the kinds, as facts: in the kernel slot, and outside it.
use Rattle.std.proofs.Common.{◌≡◌, ◌⊎◌, ℕ, ◌*◌, ◌-◌, ◌/◌, ◌^◌, ◌<◌, ◌≤◌, ◌==◌, ◌&&◌, ◌||◌, Bool, true, false, not, List, [], ◌∷◌, All, refl, sym, ap, subst, ◌∙◌, arith, inl, inr}
use Rattle.std.specs.Prelude.{IfSome, Option, Some, None, if◌then◌else◌}
use Rattle.std.proofs.lemmas.Bool.{and_from, and_parts, cond-false, cond-true, eq-eqb, eqb-false, eqb-true, false≢true, or_cases, or_left, or_right}
use Rattle.std.proofs.lemmas.List.Elements.{All-head, All-tail}
use Rattle.nk_bits.specs.declared.kind.Kind.{Kind}
use Rattle.nk_bits.specs.declared.leaf.Leaf.{Leaf}
use Rattle.nk_bits.specs.Claims.{AllPass, Claim}
use Rattle.nk_bits.specs.Kinds.{allows, is_storable, kind_of}
use Rattle.nk_bits.specs.Paging.{is_canonical, is_canonical_page, is_slot_page, page_of}
use Rattle.nk_bits.specs.Translations.{Pairs, Translations, look}
use Rattle.boot_map.specs.KernelSlot.{slot_leaf, slot_start}
use Rattle.gate_state.specs.MachineStates.{Opening}
use Rattle.gate_state.specs.RespectedKinds.{fits_kind, is_alike, is_code, is_leaf, respects}

-- the pages of the slot, by number
pub slot_page : (page : ℕ) → slot_start ≤ page → page < 2 ^ 52 → is_slot_page page ≡ true
slot_page page low high = eq-eqb (page / 2 ^ 27) (2 ^ 25 - 1) (omega arith)

pub slot_bounds : (page : ℕ) → is_slot_page page ≡ true → (slot_start ≤ page) × (page < 2 ^ 52)
slot_bounds page is =
    let at : page / 2 ^ 27 ≡ 2 ^ 25 - 1 = eqb-true (page / 2 ^ 27) (2 ^ 25 - 1) is in (omega arith, omega arith)

-- a canonical address outside the slot has a canonical page below it
outside_by : (va upper : ℕ) → va / 2 ^ 47 ≡ upper → (upper ≡ 0) ⊎ (upper ≡ 2 ^ 17 - 1)
    → (page_of va / 2 ^ 27 ≡ 2 ^ 25 - 1 → ⊥) → page_of va < slot_start
outside_by va upper is (inl low) apart = omega arith
outside_by va upper is (inr high) apart = omega (arith, is, high, apart)

canonical_halves : (va : ℕ) → is_canonical va ≡ true → (va / 2 ^ 47 ≡ 0) ⊎ (va / 2 ^ 47 ≡ 2 ^ 17 - 1)
canonical_halves va canonical =
    elim (or_cases (va / 2 ^ 47 == 0) (va / 2 ^ 47 == 2 ^ 17 - 1) canonical) [
      | inl low ↦ inl (eqb-true _ _ low)
      | inr high ↦ inr (eqb-true _ _ high)
    ]

pub below_slot : (va : ℕ) → is_canonical va ≡ true → is_slot_page (page_of va) ≡ false → page_of va < slot_start
below_slot va canonical outside =
    outside_by va (va / 2 ^ 47) refl (canonical_halves va canonical)
    (eqb-false (page_of va / 2 ^ 27) (2 ^ 25 - 1) outside)

pub canonical_page_of : (va : ℕ) → is_canonical va ≡ true → is_canonical_page (page_of va) ≡ true
canonical_page_of va canonical =
    let same : 4096 * page_of va / 2 ^ 47 ≡ va / 2 ^ 47 = omega arith in
    ap (λ x. (x == 0) || (x == 2 ^ 17 - 1)) same ∙ canonical

-- leaves that are alike are one
pub alike_same : (a b : Bool) → is_alike a b ≡ true → a ≡ b
alike_same true b alike = sym alike
alike_same false true alike = alike
alike_same false false alike = refl

pub same_alike : (a : Bool) → is_alike a a ≡ true
same_alike true = refl
same_alike false = refl

leaf_from : (laid leaf : Leaf) → laid.frame ≡ leaf.frame → laid.rights.can_write ≡ leaf.rights.can_write
    → laid.rights.user ≡ leaf.rights.user
    → laid.rights.exec ≡ leaf.rights.exec → laid ≡ leaf
leaf_from laid leaf frame write user exec =
    λ j. record { frame = frame j; rights = record { can_write = write j; user = user j; exec = exec j } }

pub leaf_is : (found : Option Leaf) (leaf : Leaf) → is_leaf found leaf ≡ true → found ≡ Some leaf
leaf_is None leaf is = absurd (false≢true is)
leaf_is (Some laid) leaf is =
    let exec = and_parts ((laid.frame == leaf.frame && is_alike laid.rights.can_write
    leaf.rights.can_write) && is_alike laid.rights.user leaf.rights.user) _ is in
    let user = and_parts (laid.frame == leaf.frame && is_alike laid.rights.can_write leaf.rights.can_write) _ exec.0 in
    let write = and_parts (laid.frame == leaf.frame) _ user.0 in
    ap Some (leaf_from laid leaf (eqb-true laid.frame leaf.frame write.0) (alike_same _ _ write.1)
    (alike_same _ _ user.1) (alike_same _ _ exec.1))

pub is_leaf_itself : (leaf : Leaf) → is_leaf (Some leaf) leaf ≡ true
is_leaf_itself leaf =
    and_from _ _ (and_from _ _ (and_from _ _ (eq-eqb leaf.frame leaf.frame refl) (same_alike leaf.rights.can_write))
    (same_alike leaf.rights.user)) (same_alike leaf.rights.exec)

-- the rights of a leaf fit the kind of its frame
both_fit : (write storable exec gate code : Bool) → (write ≡ true → storable ≡ true)
    → (exec ≡ true → (gate || code) ≡ true)
    → ((not write || storable) && (not exec || (gate || code))) ≡ true
both_fit write storable exec gate code first second =
    and_from _ _ (implied write storable first) (implied exec (gate || code) second)
  where
    implied : (a b : Bool) → (a ≡ true → b ≡ true) → (not a || b) ≡ true
    implied true b follows = follows refl
    implied false b follows = refl

pub fits_from : (ks : List Kind) (leaf : Leaf)
    → (leaf.rights.can_write ≡ true → is_storable (kind_of ks leaf.frame) ≡ true)
    → (leaf.rights.exec ≡ true → ((leaf.frame ≡ 1) ⊎ (is_code (kind_of ks leaf.frame) ≡ true)))
    → fits_kind ks leaf ≡ true
fits_from ks leaf stores runs =
    both_fit leaf.rights.can_write (is_storable (kind_of ks leaf.frame)) leaf.rights.exec (leaf.frame == 1)
    (is_code (kind_of ks leaf.frame)) stores
    (λ exec. elim (runs exec) [
      | inl gate ↦ or_left (leaf.frame == 1) _ (eq-eqb leaf.frame 1 gate)
      | inr code ↦ or_right (leaf.frame == 1) _ code
    ])

-- a translation in the slot respects the kinds where the layout has its leaf and that fits them
pub respects_within : (o : Opening) (ks : List Kind) (page : ℕ) (leaf : Leaf) → is_slot_page page ≡ true
    → slot_leaf o.image o.frames page ≡ Some leaf → fits_kind ks leaf ≡ true → respects o ks (page, leaf) ≡ true
unfolding respects
respects_within o ks page leaf within laid fits =
    cond-true (is_slot_page page) _ _ within
    ∙ and_from (is_leaf (slot_leaf o.image o.frames page) leaf) (fits_kind ks leaf)
    (ap (λ found. is_leaf found leaf) laid ∙ is_leaf_itself leaf) fits

pub leaf_within : (o : Opening) (ks : List Kind) (page : ℕ) (leaf : Leaf) → is_slot_page page ≡ true
    → respects o ks (page, leaf) ≡ true
    → slot_leaf o.image o.frames page ≡ Some leaf
unfolding respects
leaf_within o ks page leaf within is =
    let parts = and_parts (is_leaf (slot_leaf o.image o.frames page) leaf) (fits_kind ks leaf)
    (sym (cond-true (is_slot_page page) _ _ within) ∙ is) in
    leaf_is (slot_leaf o.image o.frames page) leaf parts.0

-- and outside it where the kind of its frame allows its rights
pub respects_outside : (o : Opening) (ks : List Kind) (page : ℕ) (leaf : Leaf) → is_slot_page page ≡ false
    → respects o ks (page, leaf) ≡ allows (kind_of ks leaf.frame) leaf.rights
unfolding respects
respects_outside o ks page leaf outside = cond-false (is_slot_page page) _ _ outside

-- the leaf that is kept for a page passes the test that every translation passes
pub look_passes : (test : Claim) (tlb : Translations) (page : ℕ) → AllPass test tlb
    → IfSome (look tlb.pairs page) (λ leaf. test.pair (page, leaf) ≡ true)
look_passes test tlb page all = among tlb.pairs all.pairs
  where
    among : (pairs : Pairs) → All (λ p. test.pair p ≡ true) pairs
        → IfSome (look pairs page) (λ leaf. test.pair (page, leaf) ≡ true)
    among [] all = tt
    among (pair ∷ pairs) all =
        go (pair.0 == page) refl (among pairs (All-tail (λ p. test.pair p ≡ true) pair pairs all))
      where
        go : (here : Bool) → (pair.0 == page) ≡ here → IfSome (look pairs page) (λ leaf. test.pair (page, leaf) ≡ true)
            → IfSome (if here then Some pair.1 else look pairs page) (λ leaf. test.pair (page, leaf) ≡ true)
        go true is later = subst (λ x. test.pair (x, pair.1) ≡ true) (eqb-true pair.0 page is)
            (All-head (λ p. test.pair p ≡ true) pair pairs all)
        go false is later = later
