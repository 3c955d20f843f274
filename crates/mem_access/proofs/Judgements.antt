-- A page of an access, by what the look-up and the judgement answer.
use Rattle.std.proofs.Common.{◌≡◌, ℕ, Bool, true, false, refl, sym, ap, subst, ◌∙◌, is_err}
use Rattle.std.specs.Prelude.{Option, Result, Ok, Err, not, ◌==◌, ◌&&◌, ◌||◌, if◌then◌else◌}
use Rattle.std.proofs.lemmas.Bool.{false≢true, and_parts}
use Rattle.nk_bits.specs.AccessRights.{may}
use Rattle.nk_bits.specs.declared.access.Access.{Access}
use Rattle.nk_bits.specs.declared.access.Access.TheVariants.{Read, Write}
use Rattle.nk_bits.specs.declared.leaf.Rights.{Rights}
use Rattle.nk_bits.specs.declared.leaf.Leaf.{Leaf}
use Rattle.nk_bits.specs.declared.fault.AccessFault.{AccessFault}
use Rattle.nk_bits.specs.Paging.{page_of}
use Rattle.nk_bits.specs.Translations.{Translations, faulted, translation, tlb_after}
use Rattle.nk_bits.specs.Outcomes.{outcome_of}
use Rattle.nk_bits.specs.Accesses.{View, reached, judged, kept_after}

kept_after-fault : (judgement : Result ℕ AccessFault) (tlb : Translations) (va : ℕ) → is_err judgement ≡ true → kept_after judgement tlb va ≡ faulted tlb (page_of va)
kept_after-fault (Err fault) tlb va is = refl
kept_after-fault (Ok place) tlb va is = absurd (false≢true is)

kept_after-place : (judgement : Result ℕ AccessFault) (tlb : Translations) (va : ℕ) → is_err judgement ≡ false → kept_after judgement tlb va ≡ tlb
kept_after-place (Ok place) tlb va is = refl
kept_after-place (Err fault) tlb va is = cc

module _ (view : View) (access : Access) (tlb after : Translations) (va : ℕ) (leaf : Option Leaf) (judgement : Result ℕ AccessFault)
    (found : leaf ≡ translation view.entries view.frames view.root tlb (page_of va))
    (filled : after ≡ tlb_after view.entries view.frames view.root tlb (page_of va))
    (told : judgement ≡ judged view access va leaf) where
  by_judgement : outcome_of judgement (kept_after judgement after va) ≡ reached view access tlb va
  unfolding reached
  by_judgement =
      ap (λ (x : Result ℕ AccessFault × Translations). outcome_of x.0 (kept_after x.0 x.1 va))
      (λ j. ((told ∙ ap (λ x. judged view access va x) found) j, filled j))

  pub page_faulted : (page : ℕ) (last : Translations) → is_err judgement ≡ true → page ≡ page_of va → last ≡ faulted after page →
      outcome_of judgement last ≡ reached view access tlb va
  page_faulted page last is same left =
      ap (outcome_of judgement) (left ∙ ap (λ x. faulted after x) same ∙ sym (kept_after-fault judgement after va is)) ∙ by_judgement

  pub page_kept : is_err judgement ≡ false → outcome_of judgement after ≡ reached view access tlb va
  page_kept is = ap (outcome_of judgement) (sym (kept_after-place judgement after va is)) ∙ by_judgement

-- what may be written may be read
pub read_of_write : (access : Access) (r : Rights) (cpl : ℕ) (wp smep : Bool) → access ≡ Write → may access r cpl wp smep ≡ true → may Read r cpl wp smep ≡ true
read_of_write access r cpl wp smep is granted = go (cpl == 0) r.user (subst (λ a. may a r cpl wp smep ≡ true) is granted)
  where
    go : (supervisor user : Bool) → (if supervisor then r.can_write || not wp else user && r.can_write) ≡ true → (supervisor || user) ≡ true
    go true user write = refl
    go false user write = (and_parts user r.can_write write).0
