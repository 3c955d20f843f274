-- Tables whose entries are all lawful go on being such: over a lawful entry, over changes in frames that are no tables, and
-- where the kind of a frame and its entries change.
use Rattle.std.proofs.Common.{◌≡◌, ◌≢◌, ℕ, ◌+◌, ◌<◌, ◌≤◌, true, false, not, ◌&&◌, ◌||◌, ◌==◌, List, length, set, arith, sym, ap, ◌∙◌, inl, inr}
use Rattle.std.specs.Prelude.{if◌then◌else◌}
use Rattle.std.proofs.lemmas.Bool.{and_from, and_parts, cases_Bool, cases_eq, cond-false, cond-true, eq-eqb, eqb-true, ne_eqb, or_left, or_right}
use Rattle.nk_bits.specs.declared.kind.Kind.{Kind}
use Rattle.nk_bits.specs.EntryForms.{has_form}
use Rattle.nk_bits.specs.Kinds.{allows, kind_of, level_of}
use Rattle.nk_bits.specs.Paging.{frame_of, is_present, is_slot_entry, replaced, rights_of, slot_value}
use Rattle.page_desc.specs.SoundTables.{AreTables, grants_all, is_lawful, is_lawful_leaf, is_lawful_link}
use Rattle.page_desc.proofs.CountLaws.{replaced_elsewhere, replaced_here}
use Rattle.page_desc.proofs.KindChanges.{kind_elsewhere, kind_here}
use Rattle.page_desc.proofs.SoundWalk.{lawful_form, lawful_present}

-- over a lawful entry
pub tables_replaced : (kinds : List Kind) (t : ℕ → ℕ → ℕ) (a b c : ℕ) → AreTables kinds t
    → is_lawful kinds (level_of (kind_of kinds a)) b c ≡ true → AreTables kinds (replaced t a b c)
tables_replaced kinds t a b c tables lawful = record { lawful = entry }
  where
    entry : (f i : ℕ) → i < 512 → 1 ≤ level_of (kind_of kinds f) → level_of (kind_of kinds f) ≤ 4
        → is_lawful kinds (level_of (kind_of kinds f)) i (replaced t a b c f i) ≡ true
    entry f i small least most =
        elim (cases_eq f a) [
          | inl table ↦ elim (cases_eq i b) [
            | inl index ↦ (λ j. is_lawful kinds (level_of (kind_of kinds (table j))) (index j) (replaced t a b c (table j) (index j))) ∙ ap (is_lawful kinds (level_of (kind_of kinds a)) b) (replaced_here t a b c) ∙ lawful
            | inr apart ↦ ap (is_lawful kinds (level_of (kind_of kinds f)) i) (replaced_elsewhere t a b c f i (λ _ e. apart e)) ∙ tables.lawful f i small least most
          ]
          | inr apart ↦ ap (is_lawful kinds (level_of (kind_of kinds f)) i) (replaced_elsewhere t a b c f i (λ e _. apart e)) ∙ tables.lawful f i small least most
        ]

-- over changes elsewhere
pub tables_elsewhere : (kinds : List Kind) (t u : ℕ → ℕ → ℕ) → AreTables kinds t
    → ((f i : ℕ) → i < 512 → 1 ≤ level_of (kind_of kinds f) → u f i ≡ t f i) → AreTables kinds u
tables_elsewhere kinds t u tables same =
    record { lawful = λ f i small least most. ap (is_lawful kinds (level_of (kind_of kinds f)) i) (same f i small least) ∙ tables.lawful f i small least most }

-- which values are lawful whatever the kinds
pub lawful_slot : (kinds : List Kind) (level i e : ℕ) → is_slot_entry level i ≡ true
    → is_lawful kinds level i e ≡ (e == slot_value)
unfolding is_lawful
lawful_slot kinds level i e is = cond-true (is_slot_entry level i) _ _ is

pub lawful_absent : (kinds : List Kind) (level i e : ℕ) → is_slot_entry level i ≡ false → is_present e ≡ false
    → is_lawful kinds level i e ≡ true
unfolding is_lawful
lawful_absent kinds level i e other absent =
    cond-false (is_slot_entry level i) _ _ other ∙ or_left (not (is_present e)) _ (ap not absent)

pub lawful_from : (kinds : List Kind) (level i e : ℕ) → is_slot_entry level i ≡ false → has_form level e ≡ true
    → (if level == 1 then is_lawful_leaf kinds e else is_lawful_link kinds level e) ≡ true
    → is_lawful kinds level i e ≡ true
unfolding is_lawful
lawful_from kinds level i e other form rest =
    cond-false (is_slot_entry level i) _ _ other ∙ or_right (not (is_present e)) _ (and_from (has_form level e) _ form rest)

-- a value that doesn't name frame a is lawful as before where the kind of a changes
lawful_apart : (kinds : List Kind) (a : ℕ) (kind : Kind) (level i e : ℕ) → frame_of e ≢ a
    → is_lawful (set kinds a kind) level i e ≡ is_lawful kinds level i e
unfolding is_lawful
lawful_apart kinds a kind level i e apart =
    ap (λ k. if is_slot_entry level i then e == slot_value else not (is_present e) || (has_form level e && (if level == 1 then allows k (rights_of e) else level_of k + 1 == level && grants_all e)))
    (kind_elsewhere kinds a (frame_of e) kind apart)

-- a frame whose kind and entries change: its new entries are lawful, each leaf of it is allowed by the new kind, and no
-- lawful link of another table names it
module _ (kinds : List Kind) (t u : ℕ → ℕ → ℕ) (a : ℕ) (kind : Kind) (tables : AreTables kinds t)
    (inside : a < length kinds) (same : (f i : ℕ) → f ≢ a → u f i ≡ t f i)
    (own : (i : ℕ) → i < 512 → 1 ≤ level_of kind → level_of kind ≤ 4 → is_lawful (set kinds a kind) (level_of kind) i (u a i) ≡ true)
    (leaf : (f i : ℕ) → i < 512 → level_of (kind_of kinds f) ≡ 1 → is_present (t f i) ≡ true → frame_of (t f i) ≡ a → allows (kind_of kinds a) (rights_of (t f i)) ≡ true → allows kind (rights_of (t f i)) ≡ true)
    (unlinked : (f i : ℕ) → i < 512 → 2 ≤ level_of (kind_of kinds f) → level_of (kind_of kinds f) ≤ 4 → is_present (t f i) ≡ true → frame_of (t f i) ≡ a → level_of (kind_of kinds a) + 1 ≡ level_of (kind_of kinds f) → ⊥) where
  -- a present value of another table that names the frame
  names_it : (f i : ℕ) → i < 512 → 1 ≤ level_of (kind_of kinds f) → level_of (kind_of kinds f) ≤ 4
      → is_slot_entry (level_of (kind_of kinds f)) i ≡ false → is_present (t f i) ≡ true → frame_of (t f i) ≡ a
      → is_lawful (set kinds a kind) (level_of (kind_of kinds f)) i (t f i) ≡ true
  names_it f i small least most other present named =
      let level : ℕ = level_of (kind_of kinds f) in
      let form = lawful_form kinds level i (t f i) (tables.lawful f i small least most) other present in
      let rest = lawful_present kinds level i (t f i) (tables.lawful f i small least most) other present in
      let its_kind : kind_of (set kinds a kind) (frame_of (t f i)) ≡ kind =
      ap (kind_of (set kinds a kind)) named ∙ kind_here kinds a kind inside in
      elim (cases_eq level 1) [
        | inl one ↦
            let test : (level == 1) ≡ true = eq-eqb level 1 one in
            let allowed : is_lawful_leaf kinds (t f i) ≡ true =
            sym (cond-true (level == 1) _ (is_lawful_link kinds level (t f i)) test) ∙ rest in
            let before : allows (kind_of kinds a) (rights_of (t f i)) ≡ true =
            ap (λ g. allows (kind_of kinds g) (rights_of (t f i))) (sym named) ∙ allowed in
            let after : is_lawful_leaf (set kinds a kind) (t f i) ≡ true =
            ap (λ k. allows k (rights_of (t f i))) its_kind ∙ leaf f i small one present named before in
            lawful_from (set kinds a kind) level i (t f i) other form (cond-true (level == 1) _ _ test ∙ after)
        | inr upper ↦
            let test : (level == 1) ≡ false = ne_eqb level 1 upper in
            let link : is_lawful_link kinds level (t f i) ≡ true =
            sym (cond-false (level == 1) (is_lawful_leaf kinds (t f i)) _ test) ∙ rest in
            let below : level_of (kind_of kinds (frame_of (t f i))) + 1 ≡ level = eqb-true _ _ (and_parts _ _ link).0 in
            absurd (unlinked f i small (omega (arith, least, upper)) most present named (ap (λ g. level_of (kind_of kinds g) + 1) (sym named) ∙ below))
      ]

  lawful_kept : (f i : ℕ) → i < 512 → 1 ≤ level_of (kind_of kinds f) → level_of (kind_of kinds f) ≤ 4
      → is_lawful (set kinds a kind) (level_of (kind_of kinds f)) i (t f i) ≡ true
  lawful_kept f i small least most =
      elim (cases_Bool (is_slot_entry (level_of (kind_of kinds f)) i)) [
        | inl slot ↦ lawful_slot (set kinds a kind) (level_of (kind_of kinds f)) i (t f i) slot
            ∙ sym (lawful_slot kinds (level_of (kind_of kinds f)) i (t f i) slot) ∙ tables.lawful f i small least most
        | inr other ↦ elim (cases_Bool (is_present (t f i))) [
          | inr absent ↦ lawful_absent (set kinds a kind) (level_of (kind_of kinds f)) i (t f i) other absent
          | inl present ↦ elim (cases_eq (frame_of (t f i)) a) [
            | inr apart ↦ lawful_apart kinds a kind (level_of (kind_of kinds f)) i (t f i) apart
                ∙ tables.lawful f i small least most
            | inl named ↦ names_it f i small least most other present named
          ]
        ]
      ]

  pub tables_moved : AreTables (set kinds a kind) u
  tables_moved = record { lawful = entry }
    where
      entry : (f i : ℕ) → i < 512 → 1 ≤ level_of (kind_of (set kinds a kind) f)
          → level_of (kind_of (set kinds a kind) f) ≤ 4
          → is_lawful (set kinds a kind) (level_of (kind_of (set kinds a kind) f)) i (u f i) ≡ true
      entry f i small least most =
          elim (cases_eq f a) [
            | inl is ↦
                let its_kind : kind_of (set kinds a kind) f ≡ kind =
                ap (kind_of (set kinds a kind)) is ∙ kind_here kinds a kind inside in
                (λ j. is_lawful (set kinds a kind) (level_of (its_kind j)) i (u (is j) i))
                ∙ own i small (omega (arith, least, ap level_of its_kind)) (omega (arith, most, ap level_of its_kind))
            | inr apart ↦
                let its_kind : kind_of (set kinds a kind) f ≡ kind_of kinds f = kind_elsewhere kinds a f kind apart in
                (λ j. is_lawful (set kinds a kind) (level_of (its_kind j)) i (same f i apart j))
                ∙ lawful_kept f i small (omega (arith, least, ap level_of its_kind)) (omega (arith, most, ap level_of its_kind))
          ]
