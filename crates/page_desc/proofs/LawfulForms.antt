-- What a lawful entry is by the level of its table, said of one entry and of sound tables: its form, and what its level asks
-- beside it. A value in the form of a table's grants every right.
use Rattle.std.proofs.Common.{◌≡◌, ◌≢◌, ℕ, ◌+◌, ◌/◌, ◌%◌, ◌^◌, ◌<◌, ◌≤◌, true, false, ◌&&◌, ◌==◌, List, arith, refl, sym, ap, ◌∙◌, inl, inr}
use Rattle.std.proofs.lemmas.Bool.{and_from, and_parts, cases_Bool, cond-false, eq-eqb, eqb-true, ne_eqb, not_from_false}
use Rattle.nk_bits.specs.declared.kind.Kind.{Kind}
use Rattle.nk_bits.specs.EntryForms.{has_form, has_leaf_form, has_table_form}
use Rattle.nk_bits.specs.Kinds.{allows, kind_of, level_of}
use Rattle.nk_bits.specs.Paging.{frame_of, grants_fetches, is_present, is_slot_entry, is_user, grants_writes, rights_of, slot_value}
use Rattle.page_desc.specs.SoundTables.{AreTables, grants_all, is_lawful, is_lawful_leaf, is_lawful_link}
use Rattle.page_desc.proofs.SoundWalk.{lawful_form, lawful_present}
use Rattle.page_desc.proofs.TablesKept.{lawful_absent, lawful_from, lawful_slot}

-- a value in a table's form grants every right
form_grants : (e : ℕ) → has_table_form e ≡ true → grants_all e ≡ true
unfolding has_table_form grants_writes is_user grants_fetches
form_grants e form =
    let parts = and_parts (e % 64 == 39 && e / 128 % 4 == 0) (e / 2 ^ 52 % 2 ^ 12 == 0) form in
    let low : e % 64 ≡ 39 = eqb-true _ _ (and_parts (e % 64 == 39) (e / 128 % 4 == 0) parts.0).0 in
    let high : e / 2 ^ 52 % 2 ^ 12 ≡ 0 = eqb-true _ _ parts.1 in
    let write : e / 2 % 2 ≡ 1 = omega (arith, low) in
    let user : e / 4 % 2 ≡ 1 = omega (arith, low) in
    let fetch : (e / 2 ^ 63 % 2 == 1) ≡ false = ne_eqb (e / 2 ^ 63 % 2) 1 (λ is. absurd (omega (arith, high, is))) in
    and_from _ _ (and_from _ _ (eq-eqb (e / 2 % 2) 1 write) (eq-eqb (e / 4 % 2) 1 user)) (not_from_false _ fetch)

not_slot_leaf : (i : ℕ) → is_slot_entry 1 i ≡ false
not_slot_leaf i = refl

-- the value of an entry of a table of level 1
pub lawful_leaf : (kinds : List Kind) (i e : ℕ)
    → (is_present e ≡ true → (has_leaf_form e ≡ true) × (allows (kind_of kinds (frame_of e)) (rights_of e) ≡ true))
    → is_lawful kinds 1 i e ≡ true
lawful_leaf kinds i e is =
    elim (cases_Bool (is_present e)) [
      | inl present ↦ lawful_from kinds 1 i e (not_slot_leaf i) (is present).0 (is present).1
      | inr absent ↦ lawful_absent kinds 1 i e (not_slot_leaf i) absent
    ]

-- that of an entry of another table, but for the kernel slot's
pub lawful_link : (kinds : List Kind) (level i e : ℕ) → level ≢ 1 → is_slot_entry level i ≡ false
    → (is_present e ≡ true → (has_table_form e ≡ true) × (level_of (kind_of kinds (frame_of e)) + 1 ≡ level))
    → is_lawful kinds level i e ≡ true
lawful_link kinds level i e upper other is =
    elim (cases_Bool (is_present e)) [
      | inl present ↦
          let test : (level == 1) ≡ false = ne_eqb level 1 upper in
          lawful_from kinds level i e other
          (cond-false (level == 1) (has_leaf_form e) (has_table_form e) test ∙ (is present).0)
          (cond-false (level == 1) (is_lawful_leaf kinds e) (is_lawful_link kinds level e) test
          ∙ and_from _ _ (eq-eqb _ _ (is present).1) (form_grants e (is present).0))
      | inr absent ↦ lawful_absent kinds level i e other absent
    ]

-- the kernel slot's value has the form of a table's
pub slot_form : has_table_form slot_value ≡ true
unfolding has_table_form slot_value
slot_form = refl

-- a lawful entry that is present has the form of its level, the kernel slot's too
pub lawful_has_form : (kinds : List Kind) (level i e : ℕ) → is_lawful kinds level i e ≡ true → is_present e ≡ true
    → has_form level e ≡ true
lawful_has_form kinds level i e lawful present =
    elim (cases_Bool (is_slot_entry level i)) [
      | inr other ↦ lawful_form kinds level i e lawful other present
      | inl slot ↦
          let four : level ≡ 4 = eqb-true _ _ (and_parts (level == 4) (i == 511) slot).0 in
          let value : e ≡ slot_value = eqb-true _ _ (sym (lawful_slot kinds level i e slot) ∙ lawful) in
          (λ j. has_form (four j) (value j)) ∙ slot_form
    ]

-- the entries of sound tables
module _ (kinds : List Kind) (t : ℕ → ℕ → ℕ) (tables : AreTables kinds t) where
  pub leaf_allowed : (f i : ℕ) → i < 512 → level_of (kind_of kinds f) ≡ 1 → is_present (t f i) ≡ true
      → allows (kind_of kinds (frame_of (t f i))) (rights_of (t f i)) ≡ true
  leaf_allowed f i small one present =
      lawful_present kinds 1 i (t f i) (ap (λ level. is_lawful kinds level i (t f i)) (sym one) ∙ tables.lawful f i small (omega (arith, one)) (omega (arith, one))) (not_slot_leaf i) present

  pub link_leads : (f i : ℕ) → i < 512 → 2 ≤ level_of (kind_of kinds f) → level_of (kind_of kinds f) ≤ 4
      → is_slot_entry (level_of (kind_of kinds f)) i ≡ false → is_present (t f i) ≡ true
      → (level_of (kind_of kinds (frame_of (t f i))) + 1 ≡ level_of (kind_of kinds f)) × (grants_all (t f i) ≡ true)
  link_leads f i small least most other present =
      let level : ℕ = level_of (kind_of kinds f) in
      let link : is_lawful_link kinds level (t f i) ≡ true =
      sym (cond-false (level == 1) (is_lawful_leaf kinds (t f i)) (is_lawful_link kinds level (t f i)) (ne_eqb level 1 (λ one. absurd (omega (arith, least, one)))))
      ∙ lawful_present kinds level i (t f i) (tables.lawful f i small (omega (arith, least)) most) other present in
      let parts = and_parts (level_of (kind_of kinds (frame_of (t f i))) + 1 == level) (grants_all (t f i)) link in
      (eqb-true _ _ parts.0, parts.1)

  pub slot_entry_is : (f : ℕ) → level_of (kind_of kinds f) ≡ 4 → t f 511 ≡ slot_value
  slot_entry_is f four =
      let slot : is_slot_entry (level_of (kind_of kinds f)) 511 ≡ true = ap (λ level. is_slot_entry level 511) four in
      eqb-true _ _ (sym (lawful_slot kinds (level_of (kind_of kinds f)) 511 (t f 511) slot) ∙ tables.lawful f 511 (omega arith) (omega (arith, four)) (omega (arith, four)))

  pub entry_form : (f i : ℕ) → i < 512 → 1 ≤ level_of (kind_of kinds f) → level_of (kind_of kinds f) ≤ 4
      → is_present (t f i) ≡ true → has_form (level_of (kind_of kinds f)) (t f i) ≡ true
  entry_form f i small least most =
      lawful_has_form kinds (level_of (kind_of kinds f)) i (t f i) (tables.lawful f i small least most)
