-- What holds of the event of a line in form.
use Rattle.std.proofs.Common.{◌≡◌, ℕ, ◌≤◌, Bool, true, List, [], ◌∷◌, Option, None, Some, codes, refl, subst, sym, ◌∙◌, inl, inr}
use Rattle.std.proofs.lemmas.Bool.{and_parts, cases_Bool, cond-true, cond-false, leb-true}
use Rattle.std.specs.Option.{option_map}
use Rattle.std.specs.Str.{bytes_eq}
use Rattle.irq_plan.specs.declared.event.Event.{Event}
use Rattle.irq_plan.specs.declared.event.What.{What}
use Rattle.irq_plan.specs.declared.event.What.TheVariants.{Irq, Drop, Fill, Keep, Forget}
use Rattle.irq_plan.specs.PlanFile.{due_of, event_word, entry_with, event_of, event_with, is_within, level_word, page_address_of, passed, vector_word, what_of}
use Rattle.irq_plan.specs.PlannedEvents.{is_page_address, IsEvent, IsPlannable}
use Rattle.text_lines.specs.Numerals.{numeral}

-- a number that passed a test passes it
passes : (test : ℕ → Bool) (number : Option ℕ) (n : ℕ) → passed test number ≡ Some n → test n ≡ true
passes test None n h = absurd (cc)
passes test (Some m) n h =
    elim (cases_Bool (test m)) [
      | inl passed_it ↦
          let same : m ≡ n = let here = sym (cond-true (test m) (Some m) None passed_it) ∙ h in cc in
          subst (λ k. test k ≡ true) same passed_it
      | inr failed_it ↦ absurd (let here = sym (cond-false (test m) (Some m) None failed_it) ∙ h in cc)
    ]

within : (low high n : ℕ) → is_within low high n ≡ true → (low ≤ n) × (n ≤ high)
within low high n h = let parts = and_parts _ _ h in (leb-true _ _ parts.0, leb-true _ _ parts.1)

-- a word that gives a number, made an event's kind
mapped : (kind : ℕ → What) (number : Option ℕ) (what : What) → ((n : ℕ) → number ≡ Some n → IsPlannable (kind n))
    → option_map kind number ≡ Some what → IsPlannable what
mapped kind None what each h = absurd (cc)
mapped kind (Some n) what each h =
    let same : kind n ≡ what = cc in
    subst IsPlannable same (each n refl)

in_range : (word : List ℕ) (n : ℕ) → vector_word word ≡ Some n → IsPlannable (Irq n)
in_range word n is = within 32 47 n (passes _ (numeral 10 2 word) n is)

at_page : (word : List ℕ) (n : ℕ) → page_address_of word ≡ Some n → is_page_address n ≡ true
at_page word n is = passes _ (numeral 16 16 word) n is

plannable : (verb number : List ℕ) (what : What) → what_of verb number ≡ Some what → IsPlannable what
plannable verb number what h =
    elim (cases_Bool (bytes_eq verb (codes "irq"))) [
      | inl is_irq ↦ mapped Irq (vector_word number) what (in_range number) (sym (cond-true _ _ _ is_irq) ∙ h)
      | inr not_irq ↦
          let h2 = sym (cond-false _ _ _ not_irq) ∙ h in
          elim (cases_Bool (bytes_eq verb (codes "drop"))) [
            | inl is_drop ↦ mapped Drop (page_address_of number) what (at_page number) (sym (cond-true _ _ _ is_drop) ∙ h2)
            | inr not_drop ↦
                let h3 = sym (cond-false _ _ _ not_drop) ∙ h2 in
                elim (cases_Bool (bytes_eq verb (codes "fill"))) [
                  | inl is_fill ↦ mapped Fill (page_address_of number) what (at_page number) (sym (cond-true _ _ _ is_fill) ∙ h3)
                  | inr not_fill ↦ absurd (let none = sym (cond-false _ _ _ not_fill) ∙ h3 in cc)
                ]
          ]
    ]

-- a level and a page that are both given, made an event's kind
paired : (kind : ℕ → ℕ → What) (level page : Option ℕ) (what : What)
    → ((l p : ℕ) → level ≡ Some l → page ≡ Some p → IsPlannable (kind l p))
    → entry_with kind level page ≡ Some what → IsPlannable what
paired kind None page what each h = absurd (cc)
paired kind (Some l) page what each h = mapped (kind l) page what (λ p is. each l p refl is) h

at_level : (word : List ℕ) (n : ℕ) → level_word word ≡ Some n → (2 ≤ n) × (n ≤ 4)
at_level word n is = within 2 4 n (passes _ (numeral 10 1 word) n is)

kept_form : (number address : List ℕ) (l p : ℕ) → level_word number ≡ Some l → page_address_of address ≡ Some p
    → IsPlannable (Keep l p)
kept_form number address l p level page =
    let bounds = at_level number l level in (bounds.0, bounds.1, at_page address p page)

forgotten_form : (number address : List ℕ) (l p : ℕ) → level_word number ≡ Some l → page_address_of address ≡ Some p
    → IsPlannable (Forget l p)
forgotten_form number address l p level page =
    let bounds = at_level number l level in (bounds.0, bounds.1, at_page address p page)

entry_form : (verb number address : List ℕ) (what : What) → event_word verb number address ≡ Some what → IsPlannable what
entry_form verb number address what h =
    elim (cases_Bool (bytes_eq verb (codes "keep"))) [
      | inl is_keep ↦
          paired Keep (level_word number) (page_address_of address) what (kept_form number address)
          (sym (cond-true _ _ _ is_keep) ∙ h)
      | inr not_keep ↦
          let h2 = sym (cond-false _ _ _ not_keep) ∙ h in
          elim (cases_Bool (bytes_eq verb (codes "forget"))) [
            | inl is_forget ↦
                paired Forget (level_word number) (page_address_of address) what (forgotten_form number address)
                (sym (cond-true _ _ _ is_forget) ∙ h2)
            | inr not_forget ↦ absurd (let none = sym (cond-false _ _ _ not_forget) ∙ h2 in cc)
          ]
    ]

-- the parts of an event
with_parts : (due : Option ℕ) (what : Option What) (event : Event) → event_with due what ≡ Some event
    → (due ≡ Some event.due) × (what ≡ Some event.what)
with_parts (Some due) (Some what) event h = (cc, cc)
with_parts (Some due) None event h = absurd (cc)
with_parts None what event h = absurd (cc)

-- the event of a line
pub line_form : (least : ℕ) (words : List (List ℕ)) (event : Event) → event_of least words ≡ Some event
    → IsEvent event × (least ≤ event.due)
line_form least (due ∷ verb ∷ number ∷ []) event h =
    let parts = with_parts (due_of least due) (what_of verb number) event h in
    let bounds = within least 4294967296 event.due (passes _ (numeral 10 10 due) event.due parts.0) in
    (record { due = bounds.1; what = plannable verb number event.what parts.1 }, bounds.0)
line_form least (due ∷ verb ∷ number ∷ address ∷ []) event h =
    let parts = with_parts (due_of least due) (event_word verb number address) event h in
    let bounds = within least 4294967296 event.due (passes _ (numeral 10 10 due) event.due parts.0) in
    (record { due = bounds.1; what = entry_form verb number address event.what parts.1 }, bounds.0)
line_form least _ event h = absurd (cc)
