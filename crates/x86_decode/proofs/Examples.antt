-- Where the ModRM byte is missing, one goes on to a row that stands.
use Rattle.std.proofs.Common.{◌≡◌, ℕ, suc, ◌<◌, ◌≤◌, ◌+◌, ◌*◌, ◌/◌, Bool, true, false, ◌&&◌, not, Option, Some, None, List, [], ◌∷◌, length, drop, slice_index_or, nat_eq, refl, ap, sym, subst, ◌∙◌, arith, inl, inr}
use Rattle.std.specs.List.{list_all}
use Rattle.std.proofs.lemmas.Bool.{and_parts, and_from, cases_Bool, cases_lt, cond-false, eq-eqb, agree_below, agree_below_at}
use Rattle.std.proofs.lemmas.List.{get_or_past, length-take}
use Rattle.decode_fields.specs.declared.parts.Prefixes.{Prefixes}
use Rattle.decode_fields.specs.ModRm.{reg_field}
use Rattle.x86_decode.specs.declared.operation.Op.{Op}
use Rattle.x86_decode.specs.declared.shape.Shape.{Shape}
use Rattle.x86_decode.specs.declared.shape.RowLayout.{RowLayout}
use Rattle.x86_decode.specs.declared.shape.RowLayout.TheVariants as layout
use Rattle.x86_decode.specs.declared.entry.TheConstants.{GROUPS}
use Rattle.x86_decode.specs.declared.entry.OpcodeEntry.{OpcodeEntry}
use Rattle.x86_decode.specs.declared.entry.OpcodeEntry.TheVariants as entry
use Rattle.x86_decode.specs.declared.entry.Slot.{Slot}
use Rattle.x86_decode.specs.declared.entry.Slot.TheVariants as slot
use Rattle.x86_decode.specs.declared.entry.Selector.{Selector}
use Rattle.x86_decode.specs.declared.entry.Selector.TheVariants as selector
use Rattle.x86_decode.specs.declared.choice.Choice.TheVariants as choice
use Rattle.x86_decode.specs.declared.reader.Map.{Map}
use Rattle.x86_decode.specs.declared.reader.Map.TheVariants.{OneByte, TwoByte}
use Rattle.x86_decode.specs.OpcodeTable.{OpcodeRow, Always}
use Rattle.x86_decode.specs.Meaning.{layout_stands, row_stands, when_stands}
use Rattle.x86_decode.specs.Grid.{entry_at, entry_rows, group_rows, slots_from, when_at}
use Rattle.x86_decode.specs.Reader.{asks_form, chosen, picked, picked_at, place_in_group, tested}
use Rattle.x86_decode.proofs.Rows.{IsIn, at_group, is_plain, reads_modrm, row_by, tested_some, when_of_place}

-- a ModRM byte of the form that a layout asks for, with this reg
abbrev example : RowLayout → ℕ → ℕ
example layout.Plain reg = 8 * reg
example layout.AnyForm reg = 8 * reg
example layout.Memory reg = 8 * reg
example layout.Register reg = 192 + 8 * reg
example layout.Ignored reg = 8 * reg

example_form : (l : RowLayout) (reg : ℕ) → reg < 8 → layout_stands l (example l reg ∷ []) ≡ true
example_form layout.Plain reg small = refl
example_form layout.AnyForm reg small = refl
example_form layout.Memory reg small =
    let zero_mod : 8 * reg / 64 ≡ 0 = omega arith in
    ap (λ n. not (nat_eq n 3)) zero_mod
example_form layout.Register reg small = eq-eqb ((192 + 8 * reg) / 64) 3 (omega arith)
example_form layout.Ignored reg small = refl

example_reg : (l : RowLayout) (reg : ℕ) → reg < 8 → reg_field (example l reg) ≡ reg
example_reg layout.Plain reg small = omega arith
example_reg layout.AnyForm reg small = omega arith
example_reg layout.Memory reg small = omega arith
example_reg layout.Register reg small = omega arith
example_reg layout.Ignored reg small = omega arith

example_byte : (l : RowLayout) (reg : ℕ) → reg < 8 → example l reg < 256
example_byte layout.Plain reg small = omega arith
example_byte layout.AnyForm reg small = omega arith
example_byte layout.Memory reg small = omega arith
example_byte layout.Register reg small = omega arith
example_byte layout.Ignored reg small = omega arith

-- a group has a row
abbrev pub has_row : List Slot → Bool
has_row [] = false
has_row (slot.Empty ∷ slots) = has_row slots
has_row (slot.Row op shape ∷ slots) = true

record SomeRow (slots : List Slot) : Type 0 where
  place : ℕ
  op : Op
  shape : Shape
  is : slice_index_or slots place slot.Empty ≡ slot.Row op shape

some_row : (slots : List Slot) → has_row slots ≡ true → SomeRow slots
some_row [] h = absurd (cc)
some_row (slot.Empty ∷ slots) h = let later : SomeRow slots = some_row slots h in record { place = suc later.place; op = later.op; shape = later.shape; is = later.is }
some_row (slot.Row op shape ∷ slots) h = record { place = 0; op = op; shape = shape; is = refl }

empty_row : (op : Op) (shape : Shape) → slot.Empty ≡ slot.Row op shape → ⊥
empty_row op shape e = cc

eight : (first : ℕ) → length (slots_from first) ≤ 8
unfolding slots_from
eight first = omega (arith, length-take 8 (drop first GROUPS))

-- a place with a row is one of eight
pub place_small : (first place : ℕ) (op : Op) (shape : Shape) → slice_index_or (slots_from first) place slot.Empty ≡ slot.Row op shape → place < 8
place_small first place op shape is = elim (cases_lt place (length (slots_from first))) [
  | inl within ↦ omega (arith, eight first)
  | inr past ↦ absurd (empty_row op shape (sym (get_or_past (slots_from first) place slot.Empty past) ∙ is))
]

-- the entry's rows look at ModRM only where they have one, and a group by reg has a row
abbrev pub sane : OpcodeRow → Bool
sane row = not (reads_modrm row.when && is_plain row.shape.layout)

abbrev pub has_example : OpcodeEntry → Bool
has_example entry.Absent = true
has_example (entry.One op shape) = true
has_example (entry.Many selector.Digit first) = has_row (slots_from first)
has_example (entry.Many selector.Size first) = true
has_example (entry.Many selector.RexB first) = true

abbrev pub is_regular : OpcodeEntry → Bool
is_regular it = has_example it && list_all sane (entry_rows it)

one_byte_regular : agree_below (λ opcode. is_regular (entry_at OneByte opcode)) (λ _. true) 256 ≡ true
unfolding entry_at slots_from
one_byte_regular = refl

two_byte_regular : agree_below (λ opcode. is_regular (entry_at TwoByte opcode)) (λ _. true) 256 ≡ true
unfolding entry_at slots_from
two_byte_regular = refl

pub entry_regular : (where_from : Map) (opcode : ℕ) → opcode < 256 → is_regular (entry_at where_from opcode) ≡ true
entry_regular OneByte opcode byte = agree_below_at (λ o. is_regular (entry_at OneByte o)) (λ _. true) 256 opcode one_byte_regular byte
entry_regular TwoByte opcode byte = agree_below_at (λ o. is_regular (entry_at TwoByte o)) (λ _. true) 256 opcode two_byte_regular byte

all_in : (rows : List OpcodeRow) (row : OpcodeRow) → list_all sane rows ≡ true → IsIn row rows → sane row ≡ true
all_in [] row all h = absurd h
all_in (first ∷ rows) row all (inl is) = let P : OpcodeRow → Type 0 = λ r. sane r ≡ true in subst P is (and_parts _ _ all).0
all_in (first ∷ rows) row all (inr h) = all_in rows row (and_parts _ _ all).1 h

pub row_sane : (it : OpcodeEntry) (row : OpcodeRow) → is_regular it ≡ true → IsIn row (entry_rows it) → sane row ≡ true
row_sane it row regular h = all_in (entry_rows it) row (and_parts _ _ regular).1 h

not_plain : (l : RowLayout) → asks_form l ≡ true → is_plain l ≡ false
not_plain layout.Plain h = absurd (cc)
not_plain layout.AnyForm h = refl
not_plain layout.Memory h = refl
not_plain layout.Register h = refl
not_plain layout.Ignored h = refl

-- a ModRM byte and a row that stands with it
pub record Example (it : OpcodeEntry) (prefixes : Prefixes) : Type 0 where
  pub modrm : ℕ
  pub byte : modrm < 256
  pub row : OpcodeRow
  pub listed : IsIn row (entry_rows it)
  pub stands : row_stands row prefixes (modrm ∷ []) ≡ true
  pub more : is_plain row.shape.layout ≡ false

pub record Missed (it : OpcodeEntry) (prefixes : Prefixes) (modrm : Option ℕ) : Type 0 where
  pub none : modrm ≡ None
  pub example : Example it prefixes

row_missing : (op : Op) (shape : Shape) → choice.Row op shape ≡ choice.Missing → ⊥
row_missing op shape e = cc

absent_missing : choice.Absent ≡ choice.Missing → ⊥
absent_missing e = cc

-- what a test misses is a form of ModRM
missed_test : (op : Op) (shape : Shape) (modrm : Option ℕ) → tested op shape modrm ≡ choice.Missing → (modrm ≡ None) × (asks_form shape.layout ≡ true)
missed_test op shape None h = elim (cases_Bool (asks_form shape.layout)) [
  | inl asks ↦ (refl, asks)
  | inr free ↦ absurd (row_missing op shape (sym (cond-false (asks_form shape.layout) choice.Missing (choice.Row op shape) free) ∙ h))
]
missed_test op shape (Some modrm) h = elim (cases_Bool (layout_stands shape.layout (modrm ∷ []))) [
  | inl stands ↦ absurd (row_missing op shape (sym (tested_some op shape modrm stands) ∙ h))
  | inr fails ↦ absurd (absent_missing (sym (cond-false (layout_stands shape.layout (modrm ∷ [])) (choice.Row op shape) choice.Absent fails) ∙ h))
]

-- the example of a slot of a group
slot_example : (by : Selector) (first k : ℕ) (prefixes : Prefixes) (op : Op) (shape : Shape) → k < 8 → slice_index_or (slots_from first) k slot.Empty ≡ slot.Row op shape → is_plain shape.layout ≡ false → when_stands (when_at by k) prefixes (example shape.layout k ∷ []) ≡ true → Example (entry.Many by first) prefixes
slot_example by first k prefixes op shape small is plain stands =
    let at : 0 + k ≡ k = omega arith in
    let P : ℕ → Type 0 = λ n. IsIn (row_by (when_at by n) op shape) (group_rows by 0 (slots_from first)) in
    record {
      modrm = example shape.layout k;
      byte = example_byte shape.layout k small;
      row = row_by (when_at by k) op shape;
      listed = subst P at (at_group by 0 (slots_from first) k op shape is);
      stands = and_from _ _ stands (example_form shape.layout k small);
      more = plain;
    }

missed_slot : (by : Selector) (first k : ℕ) (prefixes : Prefixes) (modrm : Option ℕ) → place_in_group by prefixes modrm ≡ Some k → (here : Slot) → slice_index_or (slots_from first) k slot.Empty ≡ here → picked here modrm ≡ choice.Missing → Missed (entry.Many by first) prefixes modrm
missed_slot by first k prefixes modrm place slot.Empty is h = absurd (absent_missing h)
missed_slot by first k prefixes modrm place (slot.Row op shape) is h =
    let t : (modrm ≡ None) × (asks_form shape.layout ≡ true) = missed_test op shape modrm h in
    record {
      none = t.0;
      example = slot_example by first k prefixes op shape (place_small first k op shape is) is (not_plain shape.layout t.1)
          (when_of_place by k prefixes modrm (example shape.layout k ∷ []) place (inl t.0));
    }

some_none : (x : ℕ) → Some x ≡ None → ⊥
some_none x e = cc

not_from_true' : (b : Bool) → not b ≡ true → b ≡ false
not_from_true' true h = sym h
not_from_true' false h = refl

plain_digit : (op : Op) (shape : Shape) (k : ℕ) → sane (row_by (when_at selector.Digit k) op shape) ≡ true → is_plain shape.layout ≡ false
plain_digit op shape k h = not_from_true' (is_plain shape.layout) h

missed_digit : (first : ℕ) (prefixes : Prefixes) → is_regular (entry.Many selector.Digit first) ≡ true → Example (entry.Many selector.Digit first) prefixes
missed_digit first prefixes regular =
    let r : SomeRow (slots_from first) = some_row (slots_from first) (and_parts _ _ regular).0 in
    let small : r.place < 8 = place_small first r.place r.op r.shape r.is in
    let at : 0 + r.place ≡ r.place = omega arith in
    let P : ℕ → Type 0 = λ n. IsIn (row_by (when_at selector.Digit n) r.op r.shape) (group_rows selector.Digit 0 (slots_from first)) in
    let listed : IsIn (row_by (when_at selector.Digit r.place) r.op r.shape) (group_rows selector.Digit 0 (slots_from first)) =
    subst P at (at_group selector.Digit 0 (slots_from first) r.place r.op r.shape r.is) in
    let plain : is_plain r.shape.layout ≡ false =
    plain_digit r.op r.shape r.place (row_sane (entry.Many selector.Digit first) (row_by (when_at selector.Digit r.place) r.op r.shape) regular listed) in
    slot_example selector.Digit first r.place prefixes r.op r.shape small r.is plain
    (eq-eqb (reg_field (example r.shape.layout r.place)) r.place (example_reg r.shape.layout r.place small))

missed_place : (by : Selector) (first : ℕ) (prefixes : Prefixes) (modrm : Option ℕ) → is_regular (entry.Many by first) ≡ true → (place : Option ℕ) → place_in_group by prefixes modrm ≡ place → picked_at (slots_from first) place modrm ≡ choice.Missing → Missed (entry.Many by first) prefixes modrm
missed_place by first prefixes modrm regular (Some k) is h = missed_slot by first k prefixes modrm is (slice_index_or (slots_from first) k slot.Empty) refl h
missed_place selector.Digit first prefixes None regular None is h = record { none = refl; example = missed_digit first prefixes regular }
missed_place selector.Digit first prefixes (Some m) regular None is h = absurd (some_none (reg_field m) is)
missed_place selector.Size first prefixes modrm regular None is h = absurd (some_none _ is)
missed_place selector.RexB first prefixes modrm regular None is h = absurd (some_none _ is)

-- where the ModRM byte is needed, it isn't there, and with one more byte a row stands
pub missing : (it : OpcodeEntry) (prefixes : Prefixes) (modrm : Option ℕ) → is_regular it ≡ true → chosen it prefixes modrm ≡ choice.Missing → Missed it prefixes modrm
missing entry.Absent prefixes modrm regular h = absurd (absent_missing h)
missing (entry.One op shape) prefixes modrm regular h =
    let t : (modrm ≡ None) × (asks_form shape.layout ≡ true) = missed_test op shape modrm h in
    record {
      none = t.0;
      example = record {
        modrm = example shape.layout 0;
        byte = example_byte shape.layout 0 (omega arith);
        row = row_by Always op shape;
        listed = inl refl;
        stands = example_form shape.layout 0 (omega arith);
        more = not_plain shape.layout t.1;
      };
    }
missing (entry.Many by first) prefixes modrm regular h = missed_place by first prefixes modrm regular (place_in_group by prefixes modrm) refl h
