-- An access on a page of the kernel slot finds its place there, where the layout's leaf serves it.
use Rattle.std.proofs.Common.{◌≡◌, ℕ, zero, suc, ◌+◌, ◌*◌, ◌-◌, ◌/◌, ◌%◌, ◌^◌, ◌<◌, ◌≤◌, ◌==◌, Bool, true, false, refl, ap, ◌∙◌, arith}
use Rattle.std.specs.Prelude.{IfSome, Option, Some, None, Result, Ok, if◌then◌else◌}
use Rattle.std.specs.List.{list_all, range_with_len}
use Rattle.std.proofs.lemmas.Bool.{and_from, cond-true, eq-eqb, le-ltb, or_right}
use Rattle.nk_bits.specs.declared.access.Access.{Access}
use Rattle.nk_bits.specs.declared.fault.AccessFault.{AccessFault}
use Rattle.nk_bits.specs.declared.fault.AccessFault.TheVariants.{NonCanonical}
use Rattle.nk_bits.specs.declared.leaf.Leaf.{Leaf}
use Rattle.nk_bits.specs.declared.leaf.Target.{Target}
use Rattle.nk_bits.specs.declared.leaf.Upper.{Upper}
use Rattle.nk_bits.specs.AccessRights.{may}
use Rattle.nk_bits.specs.Accesses.{View, accessed, address_of, completed, crosses, has_canonical_bytes, judged, next_page, place_in, reached}
use Rattle.nk_bits.specs.Outcomes.{Outcome, and_then, answered, refused, then_by}
use Rattle.nk_bits.specs.Paging.{is_canonical, page_of, walk_below}
use Rattle.nk_bits.specs.Translations.{Translations, look, or_walked, translation}
use Rattle.nk_bits.specs.UpperEntries.{begun, walk_by}
use Rattle.boot_map.specs.KernelSlot.{slot_start}

-- the walk of a page, where what is found below what is kept at a level is this leaf, and what is found otherwise is too
pub begun_is : (t : ℕ → ℕ → ℕ) (frames page level : ℕ) (found : Option Upper) (other : Result Leaf ℕ) (leaf : Leaf)
    → IfSome found (λ it. walk_below t frames page level it ≡ Ok leaf) → other ≡ Ok leaf
    → begun t frames page level found other ≡ Ok leaf
begun_is t frames page level (Some it) other leaf below later = below
begun_is t frames page level None other leaf below later = later

-- the translation of a page, where what is kept is this leaf, and what the walk finds is too
pub translation_is : (t : ℕ → ℕ → ℕ) (frames root : ℕ) (tlb : Translations) (page : ℕ) (laid : Leaf)
    → IfSome (look tlb.pairs page) (λ leaf. leaf ≡ laid)
    → walk_by t frames root tlb.upper page ≡ Ok laid → translation t frames root tlb page ≡ Some laid
translation_is t frames root tlb page laid kept walked = go (look tlb.pairs page) kept
  where
    go : (found : Option Leaf) → IfSome found (λ leaf. leaf ≡ laid)
        → or_walked found (walk_by t frames root tlb.upper page) ≡ Some laid
    go (Some leaf) is = ap Some is
    go None is = ap (or_walked None) walked

module _ (view : View) (access : Access) (tlb : Translations) (va : ℕ) where
  -- a page whose translation serves the access is reached
  pub reached_there : (leaf : Leaf) → translation view.entries view.frames view.root tlb (page_of va) ≡ Some leaf
      → may access leaf.rights view.cpl view.wp view.smep ≡ true
      → (reached view access tlb va).answer ≡ Ok (place_in leaf va)
  unfolding reached
  reached_there leaf found serves =
      ap (judged view access va) found ∙ cond-true (may access leaf.rights view.cpl view.wp view.smep) _ _ serves

  completed_there : (width first : ℕ) (after : Translations) → crosses va width ≡ false
      → (completed view access va width first after).answer ≡ Ok (record { first = first; second = 0 })
  unfolding completed
  completed_there width first after one =
      let both : Outcome AccessFault Target = and_then (reached view access after (next_page va))
      (λ second last. answered (record { first = first; second = second }) last) in
      ap (λ (b : Bool). (let o : Outcome AccessFault Target =
      if b then both else answered (record { first = first; second = 0 }) after in o).answer) one

  -- and several bytes on it are accessed
  pub accessed_there : (width first : ℕ) → has_canonical_bytes va width ≡ true → crosses va width ≡ false
      → (reached view access tlb va).answer ≡ Ok first
      → (accessed view access tlb va width).answer ≡ Ok (record { first = first; second = 0 })
  unfolding accessed
  accessed_there width first canonical one found =
      let after : Translations = (reached view access tlb va).tlb in
      let next : Outcome AccessFault Target = and_then (reached view access tlb va) (completed view access va width) in
      ap (λ (b : Bool). (let o : Outcome AccessFault Target = if b then next else refused NonCanonical tlb in
      o).answer) canonical
      ∙ ap (λ (r : Result ℕ AccessFault). (then_by r after (completed view access va width)).answer) found
      ∙ completed_there width first after one

-- an access that ends on its first page
pub on_one_page : (va width : ℕ) → va % 4096 + width ≤ 4096 → crosses va width ≡ false
unfolding crosses
on_one_page va width within = le-ltb 4096 (va % 4096 + width) within

-- a test of each number from a on
each_passes : (p : ℕ → Bool) (a n : ℕ) → ((k : ℕ) → a ≤ k → k < a + n → p k ≡ true)
    → list_all p (range_with_len a n) ≡ true
each_passes p a zero each = refl
each_passes p a (suc n) each =
    and_from (p a) (list_all p (range_with_len (a + 1) n)) (each a (omega arith) (omega arith))
    (each_passes p (a + 1) n (λ k from below. each k (omega arith) (omega arith)))

-- every address of the slot is canonical
pub slot_canonical : (va : ℕ) → va < 2 ^ 64 → 4096 * slot_start ≤ va → is_canonical va ≡ true
slot_canonical va fits low =
    or_right (va / 2 ^ 47 == 0) (va / 2 ^ 47 == 2 ^ 17 - 1) (eq-eqb (va / 2 ^ 47) (2 ^ 17 - 1) (omega arith))

pub slot_canonical_bytes : (va width : ℕ) → va < 2 ^ 64 → 4096 * slot_start ≤ va → va % 4096 + width ≤ 4096
    → has_canonical_bytes va width ≡ true
unfolding has_canonical_bytes
slot_canonical_bytes va width fits low within =
    each_passes (λ k. is_canonical (address_of va k)) 0 width
    (λ k from below. slot_canonical (address_of va k) (omega arith) (omega (arith, fits, low, within, below)))
