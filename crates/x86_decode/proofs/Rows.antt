-- Which row an entry has: the one that stands, found; what is found stands; and what a missing ModRM byte may be.
use Rattle.std.proofs.Common.{◌≡◌, ℕ, zero, suc, ◌+◌, ◌/◌, ◌⊎◌, Bool, true, false, cond, Option, Some, None, List, [], ◌∷◌, slice_index_or, refl, ap, sym, subst, ◌∙◌, arith, inl, inr, nat_eq}
use Rattle.std.specs.Prelude.{Contains}
use Rattle.std.proofs.lemmas.Bool.{and_from, cases_Bool, cond-true, cond-false, eqb-true, eq-eqb}
use Rattle.decode_fields.specs.declared.parts.Prefixes.{Prefixes}
use Rattle.decode_fields.specs.ModRm.{reg_field, modrm_byte, rex_b, rex_w}
use Rattle.x86_decode.specs.declared.operation.Op.{Op}
use Rattle.x86_decode.specs.declared.shape.Shape.{Shape}
use Rattle.x86_decode.specs.declared.shape.RowLayout.{RowLayout}
use Rattle.x86_decode.specs.declared.shape.RowLayout.TheVariants as layout
use Rattle.x86_decode.specs.declared.entry.OpcodeEntry.{OpcodeEntry}
use Rattle.x86_decode.specs.declared.entry.OpcodeEntry.TheVariants as entry
use Rattle.x86_decode.specs.declared.entry.Slot.{Slot}
use Rattle.x86_decode.specs.declared.entry.Slot.TheVariants as slot
use Rattle.x86_decode.specs.declared.entry.Selector.{Selector}
use Rattle.x86_decode.specs.declared.entry.Selector.TheVariants as selector
use Rattle.x86_decode.specs.declared.choice.Choice.TheVariants as choice
use Rattle.x86_decode.specs.OpcodeTable.{OpcodeRow, When, Always, Digit, AtSize, AtRexB}
use Rattle.x86_decode.specs.Meaning.{layout_stands, operand_size, rex_number, row_stands, when_stands}
use Rattle.x86_decode.specs.Grid.{entry_rows, group_rows, size_at, slots_from, when_at}
use Rattle.x86_decode.specs.Reader.{asks_form, chosen, picked, picked_at, place_in_group, tested}

-- membership by recursion
abbrev pub IsIn : OpcodeRow → List OpcodeRow → Type 0
IsIn row [] = ⊥
IsIn row (first ∷ rows) = (first ≡ row) ⊎ IsIn row rows

pub is_in : (rows : List OpcodeRow) (row : OpcodeRow) → Contains rows row → IsIn row rows
is_in [] row (zero, below, is) = absurd (omega arith)
is_in [] row (suc k, below, is) = absurd (omega arith)
is_in (first ∷ rows) row (zero, below, is) = inl is
is_in (first ∷ rows) row (suc k, below, is) = inr (is_in rows row (k, omega arith, is))

pub contains : (rows : List OpcodeRow) (row : OpcodeRow) → IsIn row rows → Contains rows row
contains [] row h = absurd h
contains (first ∷ rows) row (inl is) = (0, omega arith, is)
contains (first ∷ rows) row (inr later) =
    let found : Contains rows row = contains rows row later in
    (suc found.0, omega (arith, found.1), found.2)

abbrev pub row_by : When → Op → Shape → OpcodeRow
row_by when op shape = record { when = when; op = op; shape = shape }

-- a row of a group stands at a place of it
pub record At (row : OpcodeRow) (by : Selector) (place : ℕ) (slots : List Slot) : Type 0 where
  pub further : ℕ
  pub slot : slice_index_or slots further slot.Empty ≡ slot.Row row.op row.shape
  pub when : row.when ≡ when_at by (place + further)

pub in_group : (by : Selector) (place : ℕ) (slots : List Slot) (row : OpcodeRow) → IsIn row (group_rows by place slots) → At row by place slots
in_group by place [] row h = absurd h
in_group by place (slot.Empty ∷ slots) row h =
    let later : At row by (place + 1) slots = in_group by (place + 1) slots row h in
    let at : place + 1 + later.further ≡ place + suc later.further = omega arith in
    record { further = suc later.further; slot = later.slot; when = later.when ∙ ap (when_at by) at }
in_group by place (slot.Row op shape ∷ slots) row (inl is) =
    let P : OpcodeRow → Type 0 = λ r. At r by place (slot.Row op shape ∷ slots) in
    let at : place ≡ place + 0 = omega arith in
    subst P is (record { further = 0; slot = refl; when = ap (when_at by) at })
in_group by place (slot.Row op shape ∷ slots) row (inr h) =
    let later : At row by (place + 1) slots = in_group by (place + 1) slots row h in
    let at : place + 1 + later.further ≡ place + suc later.further = omega arith in
    record { further = suc later.further; slot = later.slot; when = later.when ∙ ap (when_at by) at }

-- and back
pub at_group : (by : Selector) (place : ℕ) (slots : List Slot) (k : ℕ) (op : Op) (shape : Shape) → slice_index_or slots k slot.Empty ≡ slot.Row op shape → IsIn (record { when = when_at by (place + k); op = op; shape = shape }) (group_rows by place slots)
at_group by place [] k op shape h = absurd (cc)
at_group by place (slot.Empty ∷ slots) zero op shape h = absurd (cc)
at_group by place (slot.Row op' shape' ∷ slots) zero op shape h =
    let at : place ≡ place + 0 = omega arith in
    let same_op : op' ≡ op = cc in
    let same_shape : shape' ≡ shape = cc in
    inl (ap (λ w. row_by w op' shape') (ap (when_at by) at) ∙ (ap (λ o. row_by (when_at by (place + 0)) o shape') same_op ∙ ap (row_by (when_at by (place + 0)) op) same_shape))
at_group by place (slot.Empty ∷ slots) (suc k) op shape h =
    let at : place + 1 + k ≡ place + suc k = omega arith in
    let P : ℕ → Type 0 = λ n. IsIn (row_by (when_at by n) op shape) (group_rows by (place + 1) slots) in
    subst P at (at_group by (place + 1) slots k op shape h)
at_group by place (slot.Row op' shape' ∷ slots) (suc k) op shape h =
    let at : place + 1 + k ≡ place + suc k = omega arith in
    let P : ℕ → Type 0 = λ n. IsIn (row_by (when_at by n) op shape) (group_rows by (place + 1) slots) in
    inr (subst P at (at_group by (place + 1) slots k op shape h))

-- the operand size is one of three
pub size_cases : (prefixes : Prefixes) → (operand_size prefixes ≡ 16) ⊎ ((operand_size prefixes ≡ 32) ⊎ (operand_size prefixes ≡ 64))
size_cases prefixes = elim (cases_Bool (nat_eq (rex_w (rex_number prefixes)) 1)) [
  | inl wide ↦ inr (inr (cond-true {A = ℕ} (nat_eq (rex_w (rex_number prefixes)) 1) 64 (cond prefixes.narrow 16 32) wide))
  | inr not_wide ↦ elim (cases_Bool prefixes.narrow) [
    | inl narrow ↦ inl (cond-false {A = ℕ} (nat_eq (rex_w (rex_number prefixes)) 1) 64 (cond prefixes.narrow 16 32) not_wide ∙ cond-true {A = ℕ} prefixes.narrow 16 32 narrow)
    | inr not_narrow ↦ inr (inl (cond-false {A = ℕ} (nat_eq (rex_w (rex_number prefixes)) 1) 64 (cond prefixes.narrow 16 32) not_wide ∙ cond-false {A = ℕ} prefixes.narrow 16 32 not_narrow))
  ]
]

size_place : (size k : ℕ) → (size ≡ 16) ⊎ ((size ≡ 32) ⊎ (size ≡ 64)) → size ≡ size_at k → size / 32 ≡ k
size_place size zero known h = omega arith
size_place size (suc zero) known h = omega arith
size_place size (suc (suc zero)) known h = omega arith
size_place size (suc (suc (suc k))) known h = absurd (omega arith)

size_of_place : (size : ℕ) → (size ≡ 16) ⊎ ((size ≡ 32) ⊎ (size ≡ 64)) → size_at (size / 32) ≡ size
size_of_place size (inl h) = subst (λ (n : ℕ). size_at (n / 32) ≡ n) (sym h) refl
size_of_place size (inr (inl h)) = subst (λ (n : ℕ). size_at (n / 32) ≡ n) (sym h) refl
size_of_place size (inr (inr h)) = subst (λ (n : ℕ). size_at (n / 32) ≡ n) (sym h) refl

-- whether a row's condition, or its layout, looks at ModRM
abbrev pub reads_modrm : When → Bool
reads_modrm Always = false
reads_modrm (Digit n) = true
reads_modrm (AtSize n) = false
reads_modrm (AtRexB n) = false

abbrev pub is_plain : RowLayout → Bool
is_plain layout.Plain = true
is_plain layout.AnyForm = false
is_plain layout.Memory = false
is_plain layout.Register = false
is_plain layout.Ignored = false

-- the place of a group that a row's condition names is the one that prefixes and ModRM give
group_place : (by : Selector) (k : ℕ) (prefixes : Prefixes) (operands : List ℕ) (modrm : Option ℕ) → when_stands (when_at by k) prefixes operands ≡ true → (reads_modrm (when_at by k) ≡ true → modrm ≡ Some (modrm_byte operands)) → place_in_group by prefixes modrm ≡ Some k
group_place selector.Digit k prefixes operands modrm stands known = ap (place_in_group selector.Digit prefixes) (known refl) ∙ ap (λ (n : ℕ). Some n) (eqb-true _ _ stands)
group_place selector.Size k prefixes operands modrm stands known = ap (λ (n : ℕ). Some n) (size_place (operand_size prefixes) k (size_cases prefixes) (eqb-true _ _ stands))
group_place selector.RexB k prefixes operands modrm stands known = ap (λ (n : ℕ). Some n) (eqb-true _ _ stands)

-- the row that stands is the one that is tested
pub chosen_by : (entry : OpcodeEntry) (prefixes : Prefixes) (row : OpcodeRow) (operands : List ℕ) (modrm : Option ℕ) → IsIn row (entry_rows entry) → when_stands row.when prefixes operands ≡ true → (reads_modrm row.when ≡ true → modrm ≡ Some (modrm_byte operands)) → chosen entry prefixes modrm ≡ tested row.op row.shape modrm
chosen_by entry.Absent prefixes row operands modrm h stands known = absurd h
chosen_by (entry.One op shape) prefixes row operands modrm (inl is) stands known =
    let P : OpcodeRow → Type 0 = λ r. tested op shape modrm ≡ tested r.op r.shape modrm in
    subst P is refl
chosen_by (entry.One op shape) prefixes row operands modrm (inr h) stands known = absurd h
chosen_by (entry.Many by first) prefixes row operands modrm h stands known =
    let at : At row by 0 (slots_from first) = in_group by 0 (slots_from first) row h in
    let same : 0 + at.further ≡ at.further = omega arith in
    let when : row.when ≡ when_at by at.further = at.when ∙ ap (when_at by) same in
    let P : When → Type 0 = λ w. when_stands w prefixes operands ≡ true in
    let Q : When → Type 0 = λ w. reads_modrm w ≡ true → modrm ≡ Some (modrm_byte operands) in
    ap (λ place. picked_at (slots_from first) place modrm) (group_place by at.further prefixes operands modrm (subst P when stands) (subst Q when known))
    ∙ ap (λ s. picked s modrm) at.slot

pub tested_some : (op : Op) (shape : Shape) (modrm : ℕ) → layout_stands shape.layout (modrm ∷ []) ≡ true → tested op shape (Some modrm) ≡ choice.Row op shape
tested_some op shape modrm stands = cond-true (layout_stands shape.layout (modrm ∷ [])) (choice.Row op shape) choice.Absent stands

-- a row without ModRM stands whatever follows
plain_free : (layout : RowLayout) (operands : List ℕ) → is_plain layout ≡ true → (asks_form layout ≡ false) × (layout_stands layout operands ≡ true)
plain_free layout.Plain operands h = (refl, refl)
plain_free layout.AnyForm operands h = absurd (cc)
plain_free layout.Memory operands h = absurd (cc)
plain_free layout.Register operands h = absurd (cc)
plain_free layout.Ignored operands h = absurd (cc)

pub tested_plain : (op : Op) (shape : Shape) (modrm : Option ℕ) → is_plain shape.layout ≡ true → tested op shape modrm ≡ choice.Row op shape
tested_plain op shape None plain = cond-false (asks_form shape.layout) choice.Missing (choice.Row op shape) ((plain_free shape.layout [] plain).0)
tested_plain op shape (Some modrm) plain = tested_some op shape modrm ((plain_free shape.layout (modrm ∷ []) plain).1)

pub tested_none : (op : Op) (shape : Shape) → (tested op shape None ≡ choice.Missing) ⊎ (tested op shape None ≡ choice.Row op shape)
tested_none op shape = elim (cases_Bool (asks_form shape.layout)) [
  | inl asks ↦ inl (cond-true (asks_form shape.layout) choice.Missing (choice.Row op shape) asks)
  | inr free ↦ inr (cond-false (asks_form shape.layout) choice.Missing (choice.Row op shape) free)
]

-- a form that isn't asked for stands
form_free : (layout : RowLayout) (operands : List ℕ) → asks_form layout ≡ false → layout_stands layout operands ≡ true
form_free layout.Plain operands h = refl
form_free layout.AnyForm operands h = refl
form_free layout.Memory operands h = absurd (cc)
form_free layout.Register operands h = absurd (cc)
form_free layout.Ignored operands h = refl

pub form_by_byte : (layout : RowLayout) (operands : List ℕ) → layout_stands layout operands ≡ layout_stands layout (modrm_byte operands ∷ [])
form_by_byte layout.Plain operands = refl
form_by_byte layout.AnyForm operands = refl
form_by_byte layout.Memory operands = refl
form_by_byte layout.Register operands = refl
form_by_byte layout.Ignored operands = refl

-- the ModRM byte isn't there, or it is the first of these bytes
abbrev pub IsFirst : Option ℕ → List ℕ → Type 0
IsFirst modrm operands = (modrm ≡ None) ⊎ (modrm ≡ Some (modrm_byte operands))

some_none : (x : ℕ) → Some x ≡ None → ⊥
some_none x e = cc

none_some : (x : ℕ) → None ≡ Some x → ⊥
none_some x e = cc

missing_row : (op : Op) (shape : Shape) → choice.Missing ≡ choice.Row op shape → ⊥
missing_row op shape e = cc

absent_row : (op : Op) (shape : Shape) → choice.Absent ≡ choice.Row op shape → ⊥
absent_row op shape e = cc

some_head : (x y : ℕ) → Some x ≡ Some y → x ≡ y
some_head x y e = cc

-- what a test found stands
record Tested (op op' : Op) (shape shape' : Shape) (modrm : Option ℕ) : Type 0 where
  op_same : op' ≡ op
  shape_same : shape' ≡ shape
  form : (operands : List ℕ) → IsFirst modrm operands → layout_stands shape'.layout operands ≡ true

tested_row : (op' : Op) (shape' : Shape) (modrm : Option ℕ) (op : Op) (shape : Shape) → tested op' shape' modrm ≡ choice.Row op shape → Tested op op' shape shape' modrm
tested_row op' shape' None op shape h = elim (cases_Bool (asks_form shape'.layout)) [
  | inl asks ↦ absurd (missing_row op shape (sym (cond-true (asks_form shape'.layout) choice.Missing (choice.Row op' shape') asks) ∙ h))
  | inr free ↦
      let e : choice.Row op' shape' ≡ choice.Row op shape = sym (cond-false (asks_form shape'.layout) choice.Missing (choice.Row op' shape') free) ∙ h in
      record { op_same = cc; shape_same = cc; form = λ operands first. form_free shape'.layout operands free }
]
tested_row op' shape' (Some modrm) op shape h = elim (cases_Bool (layout_stands shape'.layout (modrm ∷ []))) [
  | inl stands ↦
      let e : choice.Row op' shape' ≡ choice.Row op shape = sym (tested_some op' shape' modrm stands) ∙ h in
      record {
        op_same = cc;
        shape_same = cc;
        form = λ operands first. elim first [
          | inl none ↦ absurd (some_none modrm none)
          | inr some ↦ form_by_byte shape'.layout operands ∙ subst (λ (m : ℕ). layout_stands shape'.layout (m ∷ []) ≡ true) (some_head modrm (modrm_byte operands) some) stands
        ];
      }
  | inr fails ↦ absurd (absent_row op shape (sym (cond-false (layout_stands shape'.layout (modrm ∷ [])) (choice.Row op' shape') choice.Absent fails) ∙ h))
]

pub when_of_place : (by : Selector) (k : ℕ) (prefixes : Prefixes) (modrm : Option ℕ) (operands : List ℕ) → place_in_group by prefixes modrm ≡ Some k → IsFirst modrm operands → when_stands (when_at by k) prefixes operands ≡ true
when_of_place selector.Digit k prefixes None operands at first = absurd (none_some k at)
when_of_place selector.Digit k prefixes (Some modrm) operands at (inl none) = absurd (some_none modrm none)
when_of_place selector.Digit k prefixes (Some modrm) operands at (inr some) =
    let same : reg_field modrm ≡ k = some_head (reg_field modrm) k at in
    let byte : modrm ≡ modrm_byte operands = some_head modrm (modrm_byte operands) some in
    eq-eqb (reg_field (modrm_byte operands)) k (ap reg_field (sym byte) ∙ same)
when_of_place selector.Size k prefixes modrm operands at first =
    let same : operand_size prefixes / 32 ≡ k = some_head (operand_size prefixes / 32) k at in
    eq-eqb (operand_size prefixes) (size_at k) (sym (ap size_at (sym same) ∙ size_of_place (operand_size prefixes) (size_cases prefixes)))
when_of_place selector.RexB k prefixes modrm operands at first =
    eq-eqb (rex_b (rex_number prefixes)) k (some_head (rex_b (rex_number prefixes)) k at)

-- the row that was chosen is one of the entry's, and stands
pub record Found (entry : OpcodeEntry) (prefixes : Prefixes) (modrm : Option ℕ) (op : Op) (shape : Shape) : Type 0 where
  pub row : OpcodeRow
  pub listed : IsIn row (entry_rows entry)
  pub op_same : row.op ≡ op
  pub shape_same : row.shape ≡ shape
  pub stands : (operands : List ℕ) → IsFirst modrm operands → row_stands row prefixes operands ≡ true

found_slot : (by : Selector) (first k : ℕ) (prefixes : Prefixes) (modrm : Option ℕ) (op : Op) (shape : Shape) → place_in_group by prefixes modrm ≡ Some k → (here : Slot) → slice_index_or (slots_from first) k slot.Empty ≡ here → picked here modrm ≡ choice.Row op shape → Found (entry.Many by first) prefixes modrm op shape
found_slot by first k prefixes modrm op shape place slot.Empty is h = absurd (absent_row op shape h)
found_slot by first k prefixes modrm op shape place (slot.Row op' shape') is h =
    let t : Tested op op' shape shape' modrm = tested_row op' shape' modrm op shape h in
    let at : 0 + k ≡ k = omega arith in
    let P : ℕ → Type 0 = λ n. IsIn (row_by (when_at by n) op' shape') (group_rows by 0 (slots_from first)) in
    record {
      row = row_by (when_at by k) op' shape';
      listed = subst P at (at_group by 0 (slots_from first) k op' shape' is);
      op_same = t.op_same;
      shape_same = t.shape_same;
      stands = λ operands first_byte. and_from _ _ (when_of_place by k prefixes modrm operands place first_byte) (t.form operands first_byte);
    }

found_place : (by : Selector) (first : ℕ) (prefixes : Prefixes) (modrm : Option ℕ) (op : Op) (shape : Shape) → (place : Option ℕ) → place_in_group by prefixes modrm ≡ place → picked_at (slots_from first) place modrm ≡ choice.Row op shape → Found (entry.Many by first) prefixes modrm op shape
found_place by first prefixes modrm op shape None is h = absurd (missing_row op shape h)
found_place by first prefixes modrm op shape (Some k) is h = found_slot by first k prefixes modrm op shape is (slice_index_or (slots_from first) k slot.Empty) refl h

pub found : (entry : OpcodeEntry) (prefixes : Prefixes) (modrm : Option ℕ) (op : Op) (shape : Shape) → chosen entry prefixes modrm ≡ choice.Row op shape → Found entry prefixes modrm op shape
found entry.Absent prefixes modrm op shape h = absurd (absent_row op shape h)
found (entry.One op' shape') prefixes modrm op shape h =
    let t : Tested op op' shape shape' modrm = tested_row op' shape' modrm op shape h in
    record {
      row = row_by Always op' shape';
      listed = inl refl;
      op_same = t.op_same;
      shape_same = t.shape_same;
      stands = λ operands first. t.form operands first;
    }
found (entry.Many by first) prefixes modrm op shape h = found_place by first prefixes modrm op shape (place_in_group by prefixes modrm) refl h
