-- A value that breaks no rule is lawful in a table of its level.
use Rattle.std.proofs.Common.{◌≡◌, ℕ, ◌+◌, Bool, true, false, not, ◌&&◌, ◌==◌, List, Option, None, refl, sym, ap, subst, ◌∙◌, inl, inr}
use Rattle.std.proofs.lemmas.Bool.{and_parts, cases_eq, cond-false, eq-eqb, eqb-true, ne_eqb, not-false}
use Rattle.nk_bits.specs.declared.kind.Kind.{Kind}
use Rattle.nk_bits.specs.declared.rule.Rule.{Rule}
use Rattle.nk_bits.specs.declared.rule.Rule.TheVariants.{BadBits, BadTarget, TooFree}
use Rattle.nk_bits.specs.EntryForms.{has_form, has_leaf_form, has_table_form}
use Rattle.nk_bits.specs.Kinds.{allows, kind_of, level_of}
use Rattle.nk_bits.specs.Paging.{frame_of, is_present, is_slot_entry, rights_of}
use Rattle.page_desc.specs.SoundTables.{is_lawful}
use Rattle.page_desc.specs.SoundLaws.{SoundLaws}
use Rattle.table_rules.specs.ValueRules.{broken, is_target, value_rule}

-- where no rule of a list is broken, the first isn't, and none of the later ones
first_stands : (is_broken : Bool) (rule : Rule) (later : Option Rule) → broken is_broken rule later ≡ None
    → is_broken ≡ false
first_stands true rule later none = absurd (cc)
first_stands false rule later none = refl

later_stand : (is_broken : Bool) (rule : Rule) (later : Option Rule) → broken is_broken rule later ≡ None
    → later ≡ None
later_stand true rule later none = absurd (cc)
later_stand false rule later none = none

-- a test that was asked of a present value passes
asked : (present test : Bool) → (present && not test) ≡ false → present ≡ true → test ≡ true
asked true true none is = refl
asked true false none is = absurd (cc)
asked false test none is = absurd (cc)

asked_at : (present here test : Bool) → (present && (here && not test)) ≡ false → present ≡ true → here ≡ true
    → test ≡ true
asked_at true true test none is at = not-false test none
asked_at true false test none is at = absurd (cc)
asked_at false here test none is at = absurd (cc)

-- what a present value that breaks no rule is
pub record IsAdmitted (kinds : List Kind) (level e : ℕ) : Type 0 where
  pub form : has_form level e ≡ true
  pub target : is_target kinds level e ≡ true
  pub rights : level ≡ 1 → allows (kind_of kinds (frame_of e)) (rights_of e) ≡ true

pub admitted : (kinds : List Kind) (level e : ℕ) → value_rule kinds level e ≡ None → is_present e ≡ true
    → IsAdmitted kinds level e
unfolding value_rule
admitted kinds level e none present = record {
  form = asked _ _ (first_stands _ BadBits _ none) present;
  target = asked _ _ (first_stands _ BadTarget _ (later_stand _ BadBits _ none)) present;
  rights = λ one.
      asked_at _ (level == 1) _ (first_stands _ TooFree None (later_stand _ BadTarget _ (later_stand _ BadBits _ none)))
      present (eq-eqb level 1 one);
}

module _ (laws : SoundLaws) where
  pub lawful_value : (kinds : List Kind) (level i e : ℕ) → is_slot_entry level i ≡ false
      → value_rule kinds level e ≡ None → is_lawful kinds level i e ≡ true
  lawful_value kinds level i e other none =
      elim (cases_eq level 1) [
        | inl one ↦
            subst (λ l. is_lawful kinds l i e ≡ true) (sym one)
            (laws.lawful_leaf kinds i e (λ present.
            let all = admitted kinds level e none present in
            (ap (λ l. has_form l e) (sym one) ∙ all.form, all.rights one)))
        | inr upper ↦ laws.lawful_link kinds level i e upper other (λ present.
            let all = admitted kinds level e none present in
            let test : (level == 1) ≡ false = ne_eqb level 1 upper in
            let named : (level_of (kind_of kinds (frame_of e)) + 1 == level) ≡ true =
            sym (cond-false (level == 1) _ _ test) ∙ (and_parts _ _ all.target).1 in
            (sym (cond-false (level == 1) (has_leaf_form e) (has_table_form e) test) ∙ all.form, eqb-true _ _ named))
      ]
