-- The steps of an access, by what each test and each page answers.
use Rattle.std.proofs.Common.{◌≡◌, ℕ, Bool, true, false, refl, sym, ap, ◌∙◌}
use Rattle.std.specs.Prelude.{Result, Ok, Err, if◌then◌else◌}
use Rattle.nk_bits.specs.declared.access.Access.{Access}
use Rattle.nk_bits.specs.declared.leaf.Target.{Target}
use Rattle.nk_bits.specs.declared.fault.AccessFault.{AccessFault}
use Rattle.nk_bits.specs.declared.fault.AccessFault.TheVariants.{NonCanonical}
use Rattle.nk_bits.specs.Paging.{is_canonical}
use Rattle.nk_bits.specs.Translations.{Translations}
use Rattle.nk_bits.specs.Outcomes.{Outcome, outcome_of, answered, refused, then_by, and_then}
use Rattle.nk_bits.specs.Accesses.{View, reached, completed, accessed, crosses, has_canonical_bytes, next_page}

-- one step after another, by the answer of the first
module _ {F A B : Type 0} (result : Result A F) (tlb : Translations) (first : Outcome F A) (next : A → Translations → Outcome F B) (same : outcome_of result tlb ≡ first) where
  pub step_found : (x : A) → result ≡ Ok x → next x tlb ≡ and_then first next
  step_found x is = sym (ap (λ r. then_by r tlb next) is) ∙ ap (λ o. and_then o next) same

  pub step_faults : (fault : F) → result ≡ Err fault → refused fault tlb ≡ and_then first next
  step_faults fault is = sym (ap (λ r. then_by r tlb next) is) ∙ ap (λ o. and_then o next) same

-- the places of an access with one page, by the place of its first byte
abbrev alone : ℕ → Translations → Outcome AccessFault Target
alone first after = answered (record { first = first; second = 0 }) after

-- steps that agree after each answer
then_same : {F A B : Type 0} (answer : Result A F) (tlb : Translations) (next later : A → Translations → Outcome F B) →
    ((x : A) → next x tlb ≡ later x tlb) → then_by answer tlb next ≡ then_by answer tlb later
then_same (Ok x) tlb next later same = same x
then_same (Err fault) tlb next later same = refl

-- the first place of those is the place
place_again : (outcome : Outcome AccessFault ℕ) → and_then (and_then outcome alone) (λ target after. answered target.first after) ≡ outcome
place_again outcome = go outcome.answer outcome.tlb
  where
    go : (answer : Result ℕ AccessFault) (tlb : Translations) → and_then (then_by answer tlb alone) (λ target after. answered target.first after) ≡ outcome_of answer tlb
    go (Ok place) tlb = refl
    go (Err fault) tlb = refl

module _ (view : View) (access : Access) (tlb : Translations) (va width : ℕ) where
  -- an access with one page
  module _ (one : crosses va width ≡ false) (tells : is_canonical va ≡ has_canonical_bytes va width) where
    one_page : (first : ℕ) (after : Translations) → completed view access va width first after ≡ alone first after
    unfolding completed
    one_page first after =
        ap (λ b. if b then and_then (reached view access after (next_page va)) (λ second last. answered (record { first = first; second = second }) last) else alone first after) one

    by_place : and_then (if is_canonical va then reached view access tlb va else refused NonCanonical tlb) alone ≡ accessed view access tlb va width
    unfolding accessed
    by_place = ap (λ b. and_then (if b then reached view access tlb va else refused NonCanonical tlb) alone) tells ∙ go (has_canonical_bytes va width)
      where
        go : (b : Bool) → and_then (if b then reached view access tlb va else refused NonCanonical tlb) alone
            ≡ (if b then and_then (reached view access tlb va) (completed view access va width) else refused NonCanonical tlb)
        go true =
            let first = reached view access tlb va in
            then_same first.answer first.tlb alone (completed view access va width) (λ x. sym (one_page x first.tlb))
        go false = refl

    module _ (result : Result ℕ AccessFault) (after : Translations)
        (same : outcome_of result after ≡ (if is_canonical va then reached view access tlb va else refused NonCanonical tlb)) where
      pub page_found : (first : ℕ) → result ≡ Ok first → alone first after ≡ accessed view access tlb va width
      page_found first is = step_found result after _ alone same first is ∙ by_place

      pub page_faults : (fault : AccessFault) → result ≡ Err fault → refused fault after ≡ accessed view access tlb va width
      page_faults fault is = step_faults result after _ alone same fault is ∙ by_place

    -- the place of a canonical address whose page changes nothing
    pub found_alone : (first : ℕ) → is_canonical va ≡ true → answered first tlb ≡ reached view access tlb va → alone first tlb ≡ accessed view access tlb va width
    found_alone first on same = page_found (Ok first) tlb (same ∙ sym (ap (λ b. if b then reached view access tlb va else refused NonCanonical tlb) on)) first refl

    pub first_place : and_then (accessed view access tlb va width) (λ target after. answered target.first after)
        ≡ (if is_canonical va then reached view access tlb va else refused NonCanonical tlb)
    first_place = ap (λ o. and_then o (λ target after. answered target.first after)) (sym by_place) ∙ place_again _

  -- the outcome of the second page, whose first address is the next one's
  module _ (first next : ℕ) (result : Result ℕ AccessFault) (last : Translations) (two : crosses va width ≡ true) (page : next ≡ next_page va)
      (same : outcome_of result last ≡ reached view access tlb next) where
    two_pages : and_then (reached view access tlb next) (λ second after. answered (record { first = first; second = second }) after) ≡ completed view access va width first tlb
    unfolding completed
    two_pages =
        ap (λ x. and_then (reached view access tlb x) (λ second after. answered (record { first = first; second = second }) after)) page
        ∙ sym (ap (λ b. if b then and_then (reached view access tlb (next_page va)) (λ second after. answered (record { first = first; second = second }) after) else answered (record { first = first; second = 0 }) tlb) two)

    pub second_found : (second : ℕ) → result ≡ Ok second → answered (record { first = first; second = second }) last ≡ completed view access va width first tlb
    second_found second is = step_found result last (reached view access tlb next) (λ second after. answered (record { first = first; second = second }) after) same second is ∙ two_pages

    pub second_faults : (fault : AccessFault) → result ≡ Err fault → refused fault last ≡ completed view access va width first tlb
    second_faults fault is = step_faults result last (reached view access tlb next) (λ second after. answered (record { first = first; second = second }) after) same fault is ∙ two_pages

  pub not_canonical : has_canonical_bytes va width ≡ false → refused NonCanonical tlb ≡ accessed view access tlb va width
  unfolding accessed
  not_canonical off =
      sym (ap (λ b. if b then and_then (reached view access tlb va) (completed view access va width) else refused NonCanonical tlb) off)

  -- the outcome of the first page, where each byte's address is canonical
  module _ (result : Result ℕ AccessFault) (after : Translations) (on : has_canonical_bytes va width ≡ true) (same : outcome_of result after ≡ reached view access tlb va) where
    by_first : and_then (reached view access tlb va) (completed view access va width) ≡ accessed view access tlb va width
    unfolding accessed
    by_first =
        sym (ap (λ b. if b then and_then (reached view access tlb va) (completed view access va width) else refused NonCanonical tlb) on)

    pub first_found : (first : ℕ) → result ≡ Ok first → completed view access va width first after ≡ accessed view access tlb va width
    first_found first is = step_found result after (reached view access tlb va) (completed view access va width) same first is ∙ by_first

    pub first_faults : (fault : AccessFault) → result ≡ Err fault → refused fault after ≡ accessed view access tlb va width
    first_faults fault is = step_faults result after (reached view access tlb va) (completed view access va width) same fault is ∙ by_first
