-- Present values that are not admitted, whatever the kinds of the frames. Each lemma is named by what it refuses; a leaf is a
-- value of a table of level 1, and a link one of a table of another level.
use Rattle.std.proofs.Common.{◌≡◌, ◌≢◌, ◌≤◌, ℕ, ◌+◌, true, false, not, ◌==◌, List, None, sym, ◌∙◌, ap, arith}
use Rattle.std.specs.Prelude.{length, nat_lt}
use Rattle.std.proofs.lemmas.Bool.{and_parts, cond-false, eqb-true, false≢true, ltb-true, ne_eqb}
use Rattle.nk_bits.specs.declared.kind.Kind.{Kind}
use Rattle.nk_bits.specs.declared.kind.Kind.TheVariants.{Hidden, Table}
use Rattle.nk_bits.specs.EntryForms.{has_form}
use Rattle.nk_bits.specs.Kinds.{allows, is_hidden, kind_of, level_of}
use Rattle.nk_bits.specs.Paging.{frame_of, is_present, rights_of}
use Rattle.table_rules.specs.ValueRules.{value_rule}
use Rattle.table_rules.proofs.LawfulValues.{IsAdmitted, admitted}

module _ (kinds : List Kind) (level e : ℕ) (present : is_present e ≡ true) (none : value_rule kinds level e ≡ None) where
  it : IsAdmitted kinds level e
  it = admitted kinds level e none present

  a_value_out_of_form_is_not_admitted : has_form level e ≡ false → ⊥
  a_value_out_of_form_is_not_admitted out = false≢true (sym out ∙ it.form)

  a_frame_outside_memory_is_not_admitted : length kinds ≤ frame_of e → ⊥
  a_frame_outside_memory_is_not_admitted outside =
      let inside = ltb-true (frame_of e) (length kinds) (and_parts _ _ it.target).0 in omega (arith, outside, inside)

  a_link_to_no_table_of_the_next_level_is_not_admitted : level ≢ 1 → level_of (kind_of kinds (frame_of e)) + 1 ≢ level → ⊥
  a_link_to_no_table_of_the_next_level_is_not_admitted upper other =
      other (eqb-true _ _ (sym (cond-false (level == 1) _ _ (ne_eqb level 1 upper)) ∙ (and_parts _ _ it.target).1))

  a_right_that_the_kind_forbids_is_not_admitted : level ≡ 1 → allows (kind_of kinds (frame_of e)) (rights_of e) ≡ false → ⊥
  a_right_that_the_kind_forbids_is_not_admitted one forbids = false≢true (sym forbids ∙ it.rights one)

module _ (kinds : List Kind) (e : ℕ) (present : is_present e ≡ true) where
  a_leaf_of_a_hidden_frame_is_not_admitted : kind_of kinds (frame_of e) ≡ Hidden → value_rule kinds 1 e ≡ None → ⊥
  a_leaf_of_a_hidden_frame_is_not_admitted hidden none =
      let target = (and_parts (nat_lt (frame_of e) (length kinds)) (not (is_hidden (kind_of kinds (frame_of e)))) (it kinds 1 e present none).target).1 in
      false≢true (sym (ap (λ kind. not (is_hidden kind)) hidden) ∙ target)

  -- a table that names itself, and one that names a table of its own level
  a_link_to_its_own_level_is_not_admitted : (level : ℕ) → level ≢ 1 → kind_of kinds (frame_of e) ≡ Table level →
      value_rule kinds level e ≡ None → ⊥
  a_link_to_its_own_level_is_not_admitted level upper own none =
      a_link_to_no_table_of_the_next_level_is_not_admitted kinds level e present none upper
      (λ next. let same : level_of (kind_of kinds (frame_of e)) ≡ level = ap level_of own in omega (arith, next, same))
