-- Pages that are kept for writes where one more page is kept off.
use Rattle.std.proofs.Common.{◌≡◌, ℕ, ◌%◌, ◌<◌, inl, inr, List, length, set, get_or, sym, subst, ap, ◌∙◌, arith}
use Rattle.std.proofs.lemmas.Bool.{cases_eq}
use Rattle.std.proofs.lemmas.List.{get_or-set_other, get_or-set_same}
use Rattle.nk_bits.specs.declared.access.Access.TheVariants.{Read, Write}
use Rattle.nk_bits.specs.declared.control.Control.{Control}
use Rattle.nk_bits.specs.Translations.{Translations}
use Rattle.mem_access.specs.declared.window.KeptPage.{KeptPage}
use Rattle.mem_access.specs.Windows.{IsKeptPage, IsLeftWithout, IsWritePage}

module _ (off : List ℕ) (slot place : ℕ) (inside : slot < length off) where
  here : (i : ℕ) → i ≡ slot → get_or (set off slot place) i 0 ≡ place
  here i same = ap (λ k. get_or (set off slot place) k 0) same ∙ get_or-set_same off slot place 0 inside

  pub pages_off : place % 4096 ≡ 0 → ((i : ℕ) → get_or off i 0 % 4096 ≡ 0) → (i : ℕ) → get_or (set off slot place) i 0 % 4096 ≡ 0
  pages_off page all i = elim (cases_eq i slot) [
    | inl same ↦ ap (λ x. x % 4096) (here i same) ∙ page
    | inr other ↦ ap (λ x. x % 4096) (get_or-set_other off slot i place 0 other) ∙ all i
  ]

  pub left_for_writes : (size : ℕ) (control : Control) (cpl : ℕ) (tlb : Translations) (before after : KeptPage) →
      IsWritePage size control cpl tlb off before → IsLeftWithout place before after → IsWritePage size control cpl tlb (set off slot place) after
  left_for_writes size control cpl tlb before after is left = record {
    room = omega (arith, is.room, left.room);
    kept = λ some. subst (IsKeptPage size control cpl Write tlb) (sym (left.same some)) (is.kept (omega (arith, some, left.room)));
    read = λ some. subst (IsKeptPage size control cpl Read tlb) (sym (left.same some)) (is.read (omega (arith, some, left.room)));
    apart = λ some i few. elim (cases_eq i slot) [
      | inl same ↦ λ e. left.apart some (ap (λ (p : KeptPage). p.base) (sym (left.same some)) ∙ (e ∙ here i same))
      | inr other ↦ λ e. is.apart (omega (arith, some, left.room)) i few
          (ap (λ (p : KeptPage). p.base) (sym (left.same some)) ∙ (e ∙ get_or-set_other off slot i place 0 other))
    ];
  }
