-- Rows by their places: all that is tried is tried of them, and nothing of a row of another operation, nor of one whose opcode
-- names another register.
use Rattle.std.proofs.Common.{◌≡◌, ℕ, ◌+◌, ◌*◌, ◌%◌, ◌<◌, ◌≤◌, Bool, true, false, ◌&&◌, ◌||◌, cond, nat_eq, nat_le, nat_lt, Option, Some, None, List, [], ◌++◌, refl, ap, sym, ◌∙◌, arith, inl, inr}
use Rattle.std.specs.List.{flat_map, range_with_len}
use Rattle.std.proofs.lemmas.Bool.{agree_below, agree_below_at, and_left, and_parts, and_right, cases_Bool, cond-false, cond-true, le-ltb, leb-true, lt-ltb, ltb-true, ne_eqb, or_cases, or_parts}
use Rattle.decode_fields.specs.declared.place.Place.{Place}
use Rattle.x86_decode.specs.declared.instruction.Instr.{Instr}
use Rattle.x86_decode.specs.declared.reader.Map.{Map}
use Rattle.x86_decode.specs.declared.reader.Map.TheVariants.{OneByte, TwoByte}
use Rattle.x86_decode.specs.declared.row_list.TableRow.{TableRow}
use Rattle.x86_decode.specs.declared.shape.Operand.{Operand}
use Rattle.x86_decode.specs.declared.shape.Operand.TheVariants as operand
use Rattle.x86_decode.specs.Grid.{entry_at}
use Rattle.x86_decode.specs.RowList.{entry_row, places_of}
use Rattle.asm_text.specs.Candidates.{best_of, by_map, by_opcode, by_place, by_place_row, by_row, candidates}
use Rattle.asm_text.specs.Fitting.{is_by_rm, is_option_of, is_plain_layout, letter_fits, low_of, row_fits}
use Rattle.asm_text.specs.Operations.{is_operation, number_of_operation}
use Rattle.asm_text.specs.RowPlaces.{IsNext, by_places, by_row_place, has_number, has_register, is_by_opcode, map_at, opcode_at, table_row}
use Rattle.asm_text.specs.Skipping.{begins_code, names_low, shape_fits}
use Rattle.asm_text.proofs.Bests.{best_none, best_step}
use Rattle.asm_text.proofs.Skips.{none_kept}
use Rattle.asm_text.proofs.Ranges.{flat_blocks, flat_both, flat_same, flat_up_to}

false_true : false ≡ true → ⊥
false_true h = cc

none_some : (row : TableRow) → None ≡ Some row → ⊥
none_some row is = cc

abbrev at_row : Map → ℕ → ℕ → Option TableRow
at_row map opcode among = cond (nat_lt among (places_of (entry_at map opcode))) (entry_row (entry_at map opcode) among) None

table_row_is : (place opcode among : ℕ) (map : Map) → map_at place ≡ map → opcode_at place ≡ opcode → place % 8 ≡ among → table_row place ≡ at_row map opcode among
unfolding table_row
table_row_is place opcode among map is_map is_opcode is =
    ap (λ m. at_row m (opcode_at place) (place % 8)) is_map
    ∙ (ap (λ o. at_row map o (place % 8)) is_opcode ∙ ap (at_row map opcode) is)

-- an opcode has eight places at most; and none where it is a prefix byte or 0F
abbrev opcode_passes : Map → ℕ → Bool
opcode_passes map opcode =
    nat_le (places_of (entry_at map opcode)) 8 && (begins_code map opcode || nat_eq (places_of (entry_at map opcode)) 0)

one_byte_passes : agree_below (opcode_passes OneByte) (λ opcode. true) 256 ≡ true
unfolding entry_at
one_byte_passes = refl

two_byte_passes : agree_below (opcode_passes TwoByte) (λ opcode. true) 256 ≡ true
unfolding entry_at
two_byte_passes = refl

all_pass : (map : Map) (opcode : ℕ) → opcode < 256 → opcode_passes map opcode ≡ true
all_pass OneByte opcode byte = agree_below_at (opcode_passes OneByte) (λ o. true) 256 opcode one_byte_passes byte
all_pass TwoByte opcode byte = agree_below_at (opcode_passes TwoByte) (λ o. true) 256 opcode two_byte_passes byte

places_few : (map : Map) (opcode : ℕ) → opcode < 256 → places_of (entry_at map opcode) ≤ 8
places_few map opcode byte =
    leb-true (places_of (entry_at map opcode)) 8
    ((and_parts (nat_le (places_of (entry_at map opcode)) 8) (begins_code map opcode || nat_eq (places_of (entry_at map opcode)) 0) (all_pass map opcode byte)).0)

module _ (instr : Instr) where
  abbrev tried_at : Map → ℕ → ℕ → List (List ℕ)
  tried_at map opcode among = by_place_row instr map opcode (at_row map opcode among)

  place_is : (place opcode among : ℕ) (map : Map) → map_at place ≡ map → opcode_at place ≡ opcode → place % 8 ≡ among → by_row_place instr place ≡ tried_at map opcode among
  unfolding by_row_place
  place_is place opcode among map is_map is_opcode is =
      ap (by_place_row instr (map_at place) (opcode_at place)) (table_row_is place opcode among map is_map is_opcode is)
      ∙ (ap (λ m. by_place_row instr m (opcode_at place) (at_row map opcode among)) is_map
      ∙ ap (λ o. by_place_row instr map o (at_row map opcode among)) is_opcode)

  within_is : (map : Map) (opcode among : ℕ) → among < places_of (entry_at map opcode) → tried_at map opcode among ≡ by_place instr map opcode among
  unfolding by_place
  within_is map opcode among within =
      ap (by_place_row instr map opcode)
      (cond-true (nat_lt among (places_of (entry_at map opcode))) (entry_row (entry_at map opcode) among) None
      (lt-ltb among (places_of (entry_at map opcode)) within))

  past_is : (map : Map) (opcode among : ℕ) → places_of (entry_at map opcode) ≤ among → tried_at map opcode among ≡ []
  unfolding by_place_row
  past_is map opcode among past =
      ap (by_place_row instr map opcode)
      (cond-false (nat_lt among (places_of (entry_at map opcode))) (entry_row (entry_at map opcode) among) None
      (le-ltb among (places_of (entry_at map opcode)) past))

  -- the eight places of an opcode
  block_is : (map : Map) (opcode block : ℕ) → opcode < 256 → ((k : ℕ) → k < 8 → map_at (8 * block + k) ≡ map) → ((k : ℕ) → k < 8 → opcode_at (8 * block + k) ≡ opcode) → flat_map (λ k. by_row_place instr (8 * block + k)) (range_with_len 0 8) ≡ by_opcode instr map opcode
  unfolding by_opcode
  block_is map opcode block byte is_map is_opcode =
      let count : ℕ = places_of (entry_at map opcode) in
      let few : count ≤ 8 = places_few map opcode byte in
      let here : (k : ℕ) → k < 8 → by_row_place instr (8 * block + k) ≡ tried_at map opcode k =
      λ k small. place_is (8 * block + k) opcode k map (is_map k small) (is_opcode k small) (omega arith) in
      flat_up_to (λ k. by_row_place instr (8 * block + k)) count 8 few
      (λ k past small. here k small ∙ past_is map opcode k past)
      ∙ flat_same (λ k. by_row_place instr (8 * block + k)) (by_place instr map opcode) count
      (λ k within. here k (omega arith) ∙ within_is map opcode k within)

  one_byte : (opcode : ℕ) → opcode < 256 → flat_map (λ k. by_row_place instr (8 * opcode + k)) (range_with_len 0 8) ≡ by_opcode instr OneByte opcode
  unfolding map_at opcode_at
  one_byte opcode small =
      block_is OneByte opcode opcode small
      (λ k below. cond-true (nat_lt (8 * opcode + k) 2048) OneByte TwoByte (lt-ltb (8 * opcode + k) 2048 (omega arith)))
      (λ k below. omega arith)

  two_byte : (opcode : ℕ) → opcode < 256 → flat_map (λ k. by_row_place instr (8 * (256 + opcode) + k)) (range_with_len 0 8) ≡ by_opcode instr TwoByte opcode
  unfolding map_at opcode_at
  two_byte opcode small =
      block_is TwoByte opcode (256 + opcode) small
      (λ k below. cond-false (nat_lt (8 * (256 + opcode) + k) 2048) OneByte TwoByte (le-ltb (8 * (256 + opcode) + k) 2048 (omega arith)))
      (λ k below. omega arith)

  abbrev block : ℕ → List (List ℕ)
  block number = flat_map (λ k. by_row_place instr (8 * number + k)) (range_with_len 0 8)

  pub all_places : by_places instr 4096 ≡ candidates instr
  unfolding by_places by_map candidates
  all_places =
      sym (flat_blocks (by_row_place instr) 512)
      ∙ (sym (flat_both block 256 256)
      ∙ (ap (λ l. l ++ flat_map (λ k. block (256 + k)) (range_with_len 0 256)) (flat_same block (by_opcode instr OneByte) 256 one_byte)
      ∙ ap (λ l. by_map instr OneByte ++ l) (flat_same (λ k. block (256 + k)) (by_opcode instr TwoByte) 256 two_byte)))

  -- another operation
  row_other : (map : Map) (opcode : ℕ) (row : Option TableRow) → has_number row (number_of_operation instr.op) ≡ false → by_place_row instr map opcode row ≡ []
  unfolding by_place_row
  row_other map opcode None other = refl
  row_other map opcode (Some row) other =
      cond-false (row_fits instr opcode row) (by_row instr map opcode row) []
      (and_left (is_operation row.op instr.op) (shape_fits instr opcode row.shape) other)

  place_other : (place : ℕ) → has_number (table_row place) (number_of_operation instr.op) ≡ false → by_row_place instr place ≡ []
  unfolding by_row_place
  place_other place other = row_other (map_at place) (opcode_at place) (table_row place) other

  passed : (from next : ℕ) → IsNext (number_of_operation instr.op) from next → by_places instr next ≡ by_places instr from
  unfolding by_places
  passed from next is =
      flat_up_to (by_row_place instr) from next is.after (λ place past before. place_other place (is.none place past before))

  no_places : [] ≡ by_places instr 0
  unfolding by_places
  no_places = refl

  pub place_first : (best : List ℕ) (first : ℕ) → best ≡ [] → IsNext (number_of_operation instr.op) 0 first → best ≡ best_of instr [] (by_places instr first)
  place_first best first none is =
      none ∙ (sym (best_none instr []) ∙ ap (best_of instr []) (no_places ∙ sym (passed 0 first is)))

  pub place_next : (best more : List ℕ) (place next : ℕ) → best ≡ best_of instr [] (by_places instr place) → more ≡ best_of instr best (by_row_place instr place) → IsNext (number_of_operation instr.op) (place + 1) next → more ≡ best_of instr [] (by_places instr next)
  unfolding by_places
  place_next best more place next so_far step is =
      best_step instr [] (by_row_place instr) place best more so_far step
      ∙ ap (best_of instr []) (sym (passed (place + 1) next is))

  pub place_last : (best : List ℕ) (place : ℕ) → best ≡ best_of instr [] (by_places instr place) → place ≡ 4096 → best ≡ best_of instr [] (candidates instr)
  place_last best place so_far last =
      so_far ∙ (ap (λ (n : ℕ). best_of instr [] (by_places instr n)) last ∙ ap (best_of instr []) all_places)

  -- a row of the operation
  pub place_row : (place : ℕ) (row : TableRow) → table_row place ≡ Some row → has_number (table_row place) (number_of_operation instr.op) ≡ true → by_row_place instr place ≡ cond (shape_fits instr (opcode_at place) row.shape) (by_row instr (map_at place) (opcode_at place) row) []
  unfolding by_row_place by_place_row
  place_row place row is has =
      let same : is_operation row.op instr.op ≡ true = sym (ap (λ o. has_number o (number_of_operation instr.op)) is) ∙ has in
      ap (by_place_row instr (map_at place) (opcode_at place)) is
      ∙ ap (λ b. cond (b && shape_fits instr (opcode_at place) row.shape) (by_row instr (map_at place) (opcode_at place) row) []) same

  pub place_none : (place : ℕ) → table_row place ≡ None → by_row_place instr place ≡ []
  unfolding by_row_place by_place_row
  place_none place is = ap (by_place_row instr (map_at place) (opcode_at place)) is

  module _ (place opcode : ℕ) (map : Map) (row : TableRow) (best : List ℕ) (is_map : map ≡ map_at place) (is_opcode : opcode ≡ opcode_at place)
      (is : table_row place ≡ Some row) (has : has_number (table_row place) (number_of_operation instr.op) ≡ true) where
    row_is : by_row_place instr place ≡ cond (shape_fits instr opcode row.shape) (by_row instr map opcode row) []
    row_is =
        place_row place row is has
        ∙ (ap (λ o. cond (shape_fits instr o row.shape) (by_row instr (map_at place) o row) []) (sym is_opcode)
        ∙ ap (λ m. cond (shape_fits instr opcode row.shape) (by_row instr m opcode row) []) (sym is_map))

    pub row_tried : (more : List ℕ) → shape_fits instr opcode row.shape ≡ true → more ≡ best_of instr best (by_row instr map opcode row)
        → more ≡ best_of instr best (by_row_place instr place)
    row_tried more fits tried =
        tried ∙ ap (best_of instr best)
        (sym (row_is ∙ cond-true (shape_fits instr opcode row.shape) (by_row instr map opcode row) [] fits))

    pub row_untried : shape_fits instr opcode row.shape ≡ false → best ≡ best_of instr best (by_row_place instr place)
    row_untried unfit =
        none_kept instr best (by_row_place instr place)
        (row_is ∙ cond-false (shape_fits instr opcode row.shape) (by_row instr map opcode row) [] unfit)

  -- another register
  letter_unnamed : (letter : Operand) (opcode : ℕ) (place : Place) → is_by_opcode letter ≡ true → is_option_of (low_of place) (opcode % 8) ≡ false → letter_fits letter opcode place ≡ false
  letter_unnamed operand.Absent opcode place by other = absurd (false_true by)
  letter_unnamed operand.Eb opcode place by other = absurd (false_true by)
  letter_unnamed operand.Ev opcode place by other = absurd (false_true by)
  letter_unnamed operand.Gb opcode place by other = absurd (false_true by)
  letter_unnamed operand.Gv opcode place by other = absurd (false_true by)
  letter_unnamed operand.Zb opcode place by other = other
  letter_unnamed operand.Zv opcode place by other = other
  letter_unnamed operand.Accumulator opcode place by other = absurd (false_true by)
  letter_unnamed operand.Counter opcode place by other = absurd (false_true by)
  letter_unnamed operand.Port opcode place by other = absurd (false_true by)
  letter_unnamed operand.Constant opcode place by other = absurd (false_true by)

  row_unnamed : (map : Map) (opcode : ℕ) (row : Option TableRow) → has_register row ≡ true → names_low instr (opcode % 8) ≡ false → by_place_row instr map opcode row ≡ []
  unfolding by_place_row
  row_unnamed map opcode None has other = refl
  row_unnamed map opcode (Some row) has other =
      let parts : (is_option_of (low_of instr.to) (opcode % 8) ≡ false) × (is_option_of (low_of instr.from) (opcode % 8) ≡ false) =
      or_parts (is_option_of (low_of instr.to) (opcode % 8)) (is_option_of (low_of instr.from) (opcode % 8)) other in
      let to : Bool = letter_fits row.shape.to opcode instr.to in
      let from : Bool = letter_fits row.shape.from opcode instr.from in
      let form : Bool = is_plain_layout row.shape.layout || (is_by_rm row.shape.to || is_by_rm row.shape.from) in
      let unfit : shape_fits instr opcode row.shape ≡ false =
      elim (or_cases (is_by_opcode row.shape.to) (is_by_opcode row.shape.from) has) [
        | inl by ↦ and_left to (from && form) (letter_unnamed row.shape.to opcode instr.to by (parts.0))
        | inr by ↦ and_right to (from && form) (and_left from form (letter_unnamed row.shape.from opcode instr.from by (parts.1)))
      ] in
      cond-false (row_fits instr opcode row) (by_row instr map opcode row) []
      (and_right (is_operation row.op instr.op) (shape_fits instr opcode row.shape) unfit)

  pub place_unnamed : (place : ℕ) → has_register (table_row place) ≡ true → names_low instr (opcode_at place % 8) ≡ false → by_row_place instr place ≡ []
  unfolding by_row_place
  place_unnamed place has other = row_unnamed (map_at place) (opcode_at place) (table_row place) has other

-- where a row stands, its opcode has places
some_place : (among count : ℕ) (row : TableRow) (at : Option TableRow) → cond (nat_lt among count) at None ≡ Some row → nat_eq count 0 ≡ false
some_place among count row at is = elim (cases_Bool (nat_lt among count)) [
  | inl below ↦ ne_eqb count 0 (λ none. absurd (omega (arith, ltb-true among count below)))
  | inr past ↦ absurd (none_some row (sym (cond-false (nat_lt among count) at None past) ∙ is))
]

or_first : (x y : Bool) → (x || y) ≡ true → y ≡ false → x ≡ true
or_first true y h g = refl
or_first false y h g = absurd (false_true (sym g ∙ h))

opcode_small : (place : ℕ) → opcode_at place < 256
unfolding opcode_at
opcode_small place = omega arith

place_begins : (place : ℕ) (row : TableRow) → table_row place ≡ Some row → begins_code (map_at place) (opcode_at place) ≡ true
place_begins place row is =
    let map : Map = map_at place in
    let opcode : ℕ = opcode_at place in
    let count : ℕ = places_of (entry_at map opcode) in
    or_first (begins_code map opcode) (nat_eq count 0)
    ((and_parts (nat_le count 8) (begins_code map opcode || nat_eq count 0) (all_pass map opcode (opcode_small place))).1)
    (some_place (place % 8) count row (entry_row (entry_at map opcode) (place % 8))
    (sym (table_row_is place (opcode_at place) (place % 8) (map_at place) refl refl refl) ∙ is))

pub begins_there : (place opcode : ℕ) (map : Map) (row : TableRow) → map ≡ map_at place → opcode ≡ opcode_at place → table_row place ≡ Some row → begins_code map opcode ≡ true
begins_there place opcode map row is_map is_opcode is =
    ap (λ m. begins_code m opcode) is_map ∙ (ap (begins_code (map_at place)) is_opcode ∙ place_begins place row is)
