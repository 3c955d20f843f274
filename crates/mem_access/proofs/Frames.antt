-- A page whose translation is kept and serves an access serves it at each of its addresses.
use Rattle.std.proofs.Common.{◌≡◌, ℕ, ◌+◌, ◌-◌, ◌/◌, ◌%◌, ◌^◌, ◌<◌, ◌≤◌, true, false, List, arith, sym, ap, subst, ◌∙◌}
use Rattle.std.specs.Prelude.{◌||◌, ◌==◌, Some, IfOk}
use Rattle.std.proofs.lemmas.Bool.{le-ltb}
use Rattle.nk_bits.specs.declared.access.Access.{Access}
use Rattle.nk_bits.specs.declared.control.Control.{Control}
use Rattle.nk_bits.specs.declared.leaf.Leaf.{Leaf}
use Rattle.nk_bits.specs.declared.fault.AccessFault.{AccessFault}
use Rattle.nk_bits.specs.AccessRights.{may}
use Rattle.nk_bits.specs.Paging.{page_of, is_canonical}
use Rattle.nk_bits.specs.Translations.{Translations, look}
use Rattle.nk_bits.specs.Outcomes.{Outcome, answered}
use Rattle.nk_bits.specs.Accesses.{View, IsKeptTranslation, reached, accessed, crosses, place_in}
use Rattle.page_walk.specs.MemoryAccess.{view_of}
use Rattle.mem_access.proofs.Canonical.{first_tells}
use Rattle.mem_access.proofs.Steps.{found_alone}

-- what the law on accesses says of a page that was reached
pub record PageFacts : Type 0 where
  pub held : (view : View) (access : Access) (tlb : Translations) (va : ℕ) (leaf : Leaf) → look tlb.pairs (page_of va) ≡ Some leaf →
      may access leaf.rights view.cpl view.wp view.smep ≡ true → reached view access tlb va ≡ answered (place_in leaf va) tlb
  pub found_again : (view : View) (access : Access) (tlb : Translations) (va : ℕ) →
      IfOk (reached view access tlb va).answer (IsKeptTranslation view access (reached view access tlb va).tlb va)

one_byte : (va : ℕ) → crosses va 1 ≡ false
unfolding crosses
one_byte va = le-ltb 4096 (va % 4096 + 1) (omega arith)

module _ (facts : PageFacts) (m n : List ℕ) (access : Access) (control : Control) (cpl : ℕ) (tlb : Translations) (va place : ℕ) where
  -- over another memory, an access that lies on the page
  pub serves_on_page : is_canonical va ≡ true → answered place tlb ≡ reached (view_of m control cpl) access tlb va →
      (at width base : ℕ) → base + va % 4096 ≡ place → at < 2 ^ 64 → at / 4096 ≡ va / 4096 → 1 ≤ width → crosses at width ≡ false →
      answered (record { first = base + at % 4096; second = 0 }) tlb ≡ accessed (view_of n control cpl) access tlb at width
  serves_on_page canonical found at width base start fits same some one =
      let kept : IsKeptTranslation (view_of m control cpl) access tlb va place =
      subst (λ (o : Outcome AccessFault ℕ). IfOk o.answer (IsKeptTranslation (view_of m control cpl) access o.tlb va)) (sym found) (facts.found_again (view_of m control cpl) access tlb va) in
      let upper : at / 2 ^ 47 ≡ va / 2 ^ 47 = omega (arith, same) in
      let on : is_canonical at ≡ true = ap (λ x. (x == 0) || (x == 2 ^ 17 - 1)) upper ∙ canonical in
      let there : place_in kept.leaf at ≡ base + at % 4096 = omega (arith, start, kept.place_is) in
      let reaches : reached (view_of n control cpl) access tlb at ≡ answered (place_in kept.leaf at) tlb =
      facts.held (view_of n control cpl) access tlb at kept.leaf (ap (look tlb.pairs) same ∙ kept.kept) kept.may_access in
      found_alone (view_of n control cpl) access tlb at width one (first_tells at width fits (omega (arith, some)) one) (base + at % 4096) on
      (sym (reaches ∙ ap (λ x. answered {F = AccessFault} x tlb) there))

  -- and its byte at another address
  pub serves_its_page : is_canonical va ≡ true → answered place tlb ≡ reached (view_of m control cpl) access tlb va →
      (at base : ℕ) → base + va % 4096 ≡ place → at < 2 ^ 64 → at / 4096 ≡ va / 4096 →
      answered (record { first = base + at % 4096; second = 0 }) tlb ≡ accessed (view_of n control cpl) access tlb at 1
  serves_its_page canonical found at base start fits same = serves_on_page canonical found at 1 base start fits same (omega arith) (one_byte at)
