-- Bytes that spell an instruction with an operand in memory have the ModRM that names it: with another rm, or without
-- displacement where there is one, they spell another instruction or none.
use Rattle.std.proofs.Common.{◌≡◌, ℕ, ◌+◌, ◌-◌, ◌*◌, ◌/◌, ◌%◌, ◌<◌, Bool, true, false, ◌&&◌, ◌||◌, not, cond, nat_eq, nat_le, Option, Some, None, List, [], ◌∷◌, ◌++◌, refl, ap, sym, subst, ◌∙◌, arith, inl, inr, append_assoc}
use Rattle.std.specs.Prelude.{Contains, is_none}
use Rattle.std.specs.List.{list_all}
use Rattle.std.proofs.lemmas.Bool.{agree_below, agree_below_at, and_from, and_parts, and_left, and_right, cases_Bool, cond-false, cond-true, cond_both, eq-eqb, eqb-true, not-true, or_left, or_right}
use Rattle.decode_fields.specs.declared.parts.ModRm.{ModRm}
use Rattle.decode_fields.specs.declared.parts.Prefixes.{Prefixes}
use Rattle.decode_fields.specs.declared.place.Address.{Address}
use Rattle.decode_fields.specs.declared.place.Place.{Place}
use Rattle.decode_fields.specs.declared.place.Place.TheVariants.{Nothing, Reg, High, Mem, Value}
use Rattle.decode_fields.specs.ModRm.{displacement, displacement_from, displacement_size, front_size, has_sib, index_of, is_register, is_rip_relative, lacks_base, mod_field, modrm_byte, place_by, place_of, plain_address, rex_b, rm_field, sib_address, sib_byte}
use Rattle.decode_fields.specs.Prefixes.{is_prefix, prefixes_of}
use Rattle.x86_decode.specs.declared.instruction.Instr.{Instr}
use Rattle.x86_decode.specs.declared.reader.Map.{Map}
use Rattle.x86_decode.specs.declared.reader.Map.TheVariants.{OneByte, TwoByte}
use Rattle.x86_decode.specs.declared.shape.Operand.{Operand}
use Rattle.x86_decode.specs.declared.shape.Operand.TheVariants as operand
use Rattle.x86_decode.specs.declared.shape.RowLayout.{RowLayout}
use Rattle.x86_decode.specs.declared.shape.RowLayout.TheVariants as layout
use Rattle.x86_decode.specs.Meaning.{byte_register, fields_of, opcode_register, operand_place, place_of_byte, rex_number}
use Rattle.x86_decode.specs.OpcodeTable.{OpcodeRow, one_byte_table, rows_at}
use Rattle.x86_decode.specs.Spelling.{Parts, Spells, opcode_bytes}
use Rattle.x86_decode.specs.SpellingLaws.{DecodingLaws}
use Rattle.asm_text.specs.declared.fitting.Form.{Form}
use Rattle.asm_text.specs.Assembly.{operand_bytes}
use Rattle.asm_text.specs.Candidates.{best_of, better, by_alone, by_modrm, by_scale, by_scales, is_spelled}
use Rattle.asm_text.specs.Fitting.{asks_sib, is_plain_layout, modrm_fits, place_disp, sib_low}
use Rattle.asm_text.specs.Skipping.{IsOperand, IsStem, address_may_fit, base_may_fit, begins_code, rm_may_fit}
use Rattle.asm_text.proofs.Cover.{IsTold, told_by}
use Rattle.asm_text.proofs.Leasts.{spelled_is}
use Rattle.asm_text.proofs.Skips.{IsVain, unspelled_vain, vain_flat, vain_kept}

true_false : (b : Bool) → b ≡ true → b ≡ false → ⊥
true_false b h g = cc

-- the opcode of a row isn't a prefix byte, nor 0F
abbrev row_less : List OpcodeRow → Bool
row_less [] = true
row_less (row ∷ rows) = false

table_begins : agree_below (λ opcode. begins_code OneByte opcode || row_less (rows_at OneByte opcode)) (λ opcode. true) 256 ≡ true
unfolding one_byte_table
table_begins = refl

listed_some : (rows : List OpcodeRow) (row : OpcodeRow) → Contains rows row → row_less rows ≡ false
listed_some [] row (k, below, is) = absurd (omega arith)
listed_some (first ∷ rows) row listed = refl

or_first : (x y : Bool) → (x || y) ≡ true → y ≡ false → x ≡ true
or_first true y h g = refl
or_first false y h g = absurd (true_false y h g)

row_begins : (map : Map) (opcode : ℕ) (row : OpcodeRow) → opcode < 256 → Contains (rows_at map opcode) row → begins_code map opcode ≡ true
row_begins OneByte opcode row byte listed =
    or_first (begins_code OneByte opcode) (row_less (rows_at OneByte opcode))
    (agree_below_at (λ o. begins_code OneByte o || row_less (rows_at OneByte o)) (λ o. true) 256 opcode table_begins byte)
    (listed_some (rows_at OneByte opcode) row listed)
row_begins TwoByte opcode row byte listed = refl

-- what stands behind the prefix bytes of two that are the same
head_same : (x y : ℕ) (xs ys : List ℕ) → (x ∷ xs) ≡ (y ∷ ys) → x ≡ y
head_same x y xs ys same = cc

tail_same : (x y : ℕ) (xs ys : List ℕ) → (x ∷ xs) ≡ (y ∷ ys) → xs ≡ ys
tail_same x y xs ys same = cc

code_same : (a b : List ℕ) (x y : ℕ) (xs ys : List ℕ) → list_all is_prefix a ≡ true → list_all is_prefix b ≡ true
    → is_prefix x ≡ false → is_prefix y ≡ false → a ++ (x ∷ xs) ≡ b ++ (y ∷ ys) → (x ∷ xs) ≡ (y ∷ ys)
code_same [] [] x y xs ys all_a all_b code_x code_y same = same
code_same [] (q ∷ b) x y xs ys all_a all_b code_x code_y same =
    absurd (true_false (is_prefix x)
    (ap is_prefix (head_same x q xs (b ++ (y ∷ ys)) same) ∙ (and_parts (is_prefix q) (list_all is_prefix b) all_b).0) code_x)
code_same (p ∷ a) [] x y xs ys all_a all_b code_x code_y same =
    absurd (true_false (is_prefix y)
    (ap is_prefix (sym (head_same p y (a ++ (x ∷ xs)) ys same)) ∙ (and_parts (is_prefix p) (list_all is_prefix a) all_a).0) code_y)
code_same (p ∷ a) (q ∷ b) x y xs ys all_a all_b code_x code_y same =
    code_same a b x y xs ys ((and_parts (is_prefix p) (list_all is_prefix a) all_a).1)
    ((and_parts (is_prefix q) (list_all is_prefix b) all_b).1) code_x code_y (tail_same p q (a ++ (x ∷ xs)) (b ++ (y ∷ ys)) same)

-- the first byte of an opcode
abbrev lead : Map → ℕ → ℕ
lead OneByte opcode = opcode
lead TwoByte opcode = 0x0F

abbrev later : Map → ℕ → List ℕ
later OneByte opcode = []
later TwoByte opcode = opcode ∷ []

lead_is : (map : Map) (opcode : ℕ) → opcode_bytes map opcode ≡ lead map opcode ∷ later map opcode
lead_is OneByte opcode = refl
lead_is TwoByte opcode = refl

lead_begins : (map : Map) (opcode : ℕ) → begins_code map opcode ≡ true → is_prefix (lead map opcode) ≡ false
lead_begins OneByte opcode begins =
    not-true (is_prefix opcode) ((and_parts (not (is_prefix opcode)) (not (nat_eq opcode 0x0F)) begins).0)
lead_begins TwoByte opcode begins = refl

no_escape : (opcode : ℕ) → begins_code OneByte opcode ≡ true → opcode ≡ 0x0F → ⊥
no_escape opcode begins is =
    true_false (nat_eq opcode 0x0F) (eq-eqb opcode 0x0F is)
    (not-true (nat_eq opcode 0x0F) ((and_parts (not (is_prefix opcode)) (not (nat_eq opcode 0x0F)) begins).1))

-- what stands behind the opcodes
behind_same : (map other : Map) (opcode another : ℕ) (xs ys : List ℕ) → begins_code map opcode ≡ true → begins_code other another ≡ true
    → (lead map opcode ∷ (later map opcode ++ xs)) ≡ (lead other another ∷ (later other another ++ ys)) → xs ≡ ys
behind_same OneByte OneByte opcode another xs ys begins also same = tail_same opcode another xs ys same
behind_same OneByte TwoByte opcode another xs ys begins also same =
    absurd (no_escape opcode begins (head_same opcode 0x0F xs (another ∷ ys) same))
behind_same TwoByte OneByte opcode another xs ys begins also same =
    absurd (no_escape another also (sym (head_same 0x0F another (opcode ∷ xs) ys same)))
behind_same TwoByte TwoByte opcode another xs ys begins also same =
    tail_same opcode another xs ys (tail_same 0x0F 0x0F (opcode ∷ xs) (another ∷ ys) same)

-- an operand in memory is the one by mod and rm
high_memory : (number : ℕ) (address : Address) → High number ≡ Mem address → ⊥
high_memory number address is = cc

reg_memory : (number : ℕ) (address : Address) → Reg number ≡ Mem address → ⊥
reg_memory number address is = cc

register_memory : (rex : Option ℕ) (number : ℕ) (address : Address) → byte_register rex number ≡ Mem address → ⊥
register_memory rex number address is = elim (cases_Bool (is_none rex && nat_le 4 number)) [
  | inl high ↦
      let same : byte_register rex number ≡ High (number - 4) = cond-true (is_none rex && nat_le 4 number) (High (number - 4)) (Reg number) high in
      high_memory (number - 4) address (sym same ∙ is)
  | inr low ↦
      let same : byte_register rex number ≡ Reg number = cond-false (is_none rex && nat_le 4 number) (High (number - 4)) (Reg number) low in
      reg_memory number address (sym same ∙ is)
]

byte_memory : (rex : Option ℕ) (place : Place) (address : Address) → place_of_byte rex place ≡ Mem address → place ≡ Mem address
byte_memory rex Nothing address is = is
byte_memory rex (Reg number) address is = absurd (register_memory rex number address is)
byte_memory rex (High number) address is = is
byte_memory rex (Mem other) address is = is
byte_memory rex Value address is = is

letter_memory : (letter : Operand) (prefixes : Prefixes) (opcode : ℕ) (fields : ModRm) (address : Address) → operand_place letter prefixes opcode fields ≡ Mem address → fields.place ≡ Mem address
letter_memory operand.Absent prefixes opcode fields address is = absurd (cc)
letter_memory operand.Eb prefixes opcode fields address is = byte_memory prefixes.rex fields.place address is
letter_memory operand.Ev prefixes opcode fields address is = is
letter_memory operand.Gb prefixes opcode fields address is = absurd (register_memory prefixes.rex fields.reg address is)
letter_memory operand.Gv prefixes opcode fields address is = absurd (cc)
letter_memory operand.Zb prefixes opcode fields address is = absurd (register_memory prefixes.rex (opcode_register prefixes opcode) address is)
letter_memory operand.Zv prefixes opcode fields address is = absurd (cc)
letter_memory operand.Accumulator prefixes opcode fields address is = absurd (cc)
letter_memory operand.Counter prefixes opcode fields address is = absurd (cc)
letter_memory operand.Port prefixes opcode fields address is = absurd (cc)
letter_memory operand.Constant prefixes opcode fields address is = absurd (cc)

-- without displacement it is 0
no_displacement : (bytes : List ℕ) → displacement_size (modrm_byte bytes) (sib_byte bytes) ≡ 0 → displacement bytes ≡ 0
no_displacement bytes none = ap (λ n. displacement_from (front_size (modrm_byte bytes)) n bytes) none

size_none : (modrm sib : ℕ) → mod_field modrm ≡ 0 → is_rip_relative modrm ≡ false → lacks_base modrm sib ≡ false → displacement_size modrm sib ≡ 0
size_none modrm sib none no_rip based =
    ap (λ m. cond (nat_eq m 1) 1 (cond (nat_eq m 2 || is_rip_relative modrm || lacks_base modrm sib) 4 0)) none
    ∙ (ap (λ r. cond (r || lacks_base modrm sib) 4 0) no_rip ∙ ap (λ b. cond b 4 0) based)

-- so with mod 0, of an operand with a base
mode_says : (bytes : List ℕ) → is_rip_relative (modrm_byte bytes) ≡ false → lacks_base (modrm_byte bytes) (sib_byte bytes) ≡ false
    → not (nat_eq (mod_field (modrm_byte bytes)) 0 && not (nat_eq (displacement bytes) 0)) ≡ true
mode_says bytes no_rip based =
    let mode : ℕ = mod_field (modrm_byte bytes) in
    let disp : ℕ = displacement bytes in
    elim (cases_Bool (nat_eq mode 0)) [
      | inl none ↦
          let zero_disp : disp ≡ 0 = no_displacement bytes (size_none (modrm_byte bytes) (sib_byte bytes) (eqb-true mode 0 none) no_rip based) in
          ap not (and_right (nat_eq mode 0) (not (nat_eq disp 0)) (ap not (eq-eqb disp 0 zero_disp)))
      | inr some ↦ ap not (and_left (nat_eq mode 0) (not (nat_eq disp 0)) some)
    ]

module _ (bytes : List ℕ) (rex : ℕ) where
  abbrev modrm : ℕ
  modrm = modrm_byte bytes

  abbrev sib : ℕ
  sib = sib_byte bytes

  abbrev Passes : Address → Type 0
  Passes address = address_may_fit address (mod_field modrm) (rm_field modrm) ≡ true

  plain_passes : has_sib modrm ≡ false → Passes (plain_address modrm rex (displacement bytes))
  plain_passes none =
      let mode : ℕ = mod_field modrm in
      let rm : ℕ = rm_field modrm in
      let disp : ℕ = displacement bytes in
      let number : ℕ = rm + 8 * rex_b rex in
      let P : Bool → Type 0 = λ b. cond b (is_rip_relative modrm) (base_may_fit (cond b None (Some number)) true disp mode rm) ≡ true in
      elim (cases_Bool (is_rip_relative modrm)) [
        | inl rip ↦ subst P (sym rip) rip
        | inr based ↦
            let bare : lacks_base modrm sib ≡ false =
            and_left (has_sib modrm && nat_eq mode 0) (nat_eq (rm_field sib) 5) (and_left (has_sib modrm) (nat_eq mode 0) none) in
            let low : number % 8 ≡ rm = omega arith in
            subst P (sym based)
            (and_from (not (nat_eq mode 0 && not (nat_eq disp 0))) (nat_eq rm 4 || (nat_eq (number % 8) rm && true))
            (mode_says bytes based bare)
            (or_right (nat_eq rm 4) (nat_eq (number % 8) rm && true) (and_from (nat_eq (number % 8) rm) true (eq-eqb (number % 8) rm low) refl)))
      ]

  sib_passes : has_sib modrm ≡ true → Passes (sib_address modrm sib rex (displacement bytes))
  sib_passes some =
      let mode : ℕ = mod_field modrm in
      let rm : ℕ = rm_field modrm in
      let disp : ℕ = displacement bytes in
      let number : ℕ = rm_field sib + 8 * rex_b rex in
      let alone : Bool = is_none (index_of sib rex) in
      let four : nat_eq rm 4 ≡ true = (and_parts (not (is_register modrm)) (nat_eq rm 4) some).1 in
      let no_rip : is_rip_relative modrm ≡ false = and_right (nat_eq mode 0) (nat_eq rm 5) (ap (λ r. nat_eq r 5) (eqb-true rm 4 four)) in
      let P : Bool → Type 0 = λ b. base_may_fit (cond b None (Some number)) alone disp mode rm ≡ true in
      elim (cases_Bool (lacks_base modrm sib)) [
        | inl none ↦
            let parts : ((has_sib modrm && nat_eq mode 0) ≡ true) × (nat_eq (rm_field sib) 5 ≡ true) =
            and_parts (has_sib modrm && nat_eq mode 0) (nat_eq (rm_field sib) 5) none in
            subst P (sym none) (and_from (nat_eq mode 0) (nat_eq rm 4) ((and_parts (has_sib modrm) (nat_eq mode 0) (parts.0)).1) four)
        | inr based ↦
            subst P (sym based)
            (and_from (not (nat_eq mode 0 && not (nat_eq disp 0))) (nat_eq rm 4 || (nat_eq (number % 8) rm && alone))
            (mode_says bytes no_rip based) (or_left (nat_eq rm 4) (nat_eq (number % 8) rm && alone) four))
      ]

  memory_same : (one other : Address) → Mem one ≡ Mem other → one ≡ other
  memory_same one other same = cc

  place_passes : (address : Address) → place_by modrm sib rex (displacement bytes) ≡ Mem address → Passes address
  place_passes address is =
      let number : ℕ = rm_field modrm + 8 * rex_b rex in
      let with_sib : Address = sib_address modrm sib rex (displacement bytes) in
      let plain : Address = plain_address modrm rex (displacement bytes) in
      let by : Bool → Bool → Place = λ r s. cond r (Reg number) (Mem (cond s with_sib plain)) in
      let P : Address → Type 0 = λ a. Passes a in
      elim (cases_Bool (is_register modrm)) [
        | inl register ↦ absurd (reg_memory number address (sym (ap (λ r. by r (has_sib modrm)) register) ∙ is))
        | inr memory ↦ elim (cases_Bool (has_sib modrm)) [
          | inl some ↦
              subst P (memory_same with_sib address (sym (ap (λ r. by r (has_sib modrm)) memory ∙ ap (λ s. by false s) some) ∙ is)) (sib_passes some)
          | inr none ↦
              subst P (memory_same plain address (sym (ap (λ r. by r (has_sib modrm)) memory ∙ ap (λ s. by false s) none) ∙ is)) (plain_passes none)
        ]
      ]

  of_passes : (address : Address) → place_of bytes rex ≡ Mem address → Passes address
  unfolding place_of
  of_passes address is = place_passes address is

  fields_pass : (l : RowLayout) (address : Address) → (fields_of l bytes rex).place ≡ Mem address → Passes address
  fields_pass layout.Plain address is = absurd (cc)
  fields_pass layout.AnyForm address is = of_passes address is
  fields_pass layout.Memory address is = of_passes address is
  fields_pass layout.Register address is = of_passes address is
  fields_pass layout.Ignored address is = absurd (cc)

nothing_memory : (address : Address) → Nothing ≡ Mem address → ⊥
nothing_memory address is = cc

-- of a spelling
place_told : (instr : Instr) (bytes : List ℕ) (s : Spells instr bytes) (place : Place) (address : Address) → IsOperand instr place → place ≡ Mem address
    → Passes s.parts.operands (rex_number (prefixes_of s.parts.front)) address
place_told instr bytes s place address (inl to) is =
    let p : Parts = s.parts in
    let prefixes : Prefixes = prefixes_of p.front in
    let fields : ModRm = fields_of p.row.shape.layout p.operands (rex_number prefixes) in
    fields_pass p.operands (rex_number prefixes) p.row.shape.layout address
    (letter_memory p.row.shape.to prefixes p.opcode fields address (sym (ap (λ (i : Instr). i.to) s.meaning) ∙ (sym to ∙ is)))
place_told instr bytes s place address (inr (inl from)) is =
    let p : Parts = s.parts in
    let prefixes : Prefixes = prefixes_of p.front in
    let fields : ModRm = fields_of p.row.shape.layout p.operands (rex_number prefixes) in
    fields_pass p.operands (rex_number prefixes) p.row.shape.layout address
    (letter_memory p.row.shape.from prefixes p.opcode fields address (sym (ap (λ (i : Instr). i.from) s.meaning) ∙ (sym from ∙ is)))
place_told instr bytes s place address (inr (inr none)) is = absurd (nothing_memory address (sym none ∙ is))

first_is : (l : RowLayout) (modrm sib disp : ℕ) (tail : List ℕ) → is_plain_layout l ≡ false → modrm_byte (operand_bytes l modrm sib disp ++ tail) ≡ modrm
first_is layout.Plain modrm sib disp tail formed = absurd (cc)
first_is layout.AnyForm modrm sib disp tail formed = refl
first_is layout.Memory modrm sib disp tail formed = refl
first_is layout.Register modrm sib disp tail formed = refl
first_is layout.Ignored modrm sib disp tail formed = refl

module _ (laws : DecodingLaws) (instr : Instr) (stem : List ℕ) (begun : IsStem stem) (form : Form) (tail : List ℕ)
    (operand : IsOperand instr form.place) (formed : is_plain_layout form.layout ≡ false) where
  -- the bytes behind the opcode are the same
  operands_same : (rest : List ℕ) (s : Spells instr (stem ++ rest)) → rest ≡ s.parts.operands
  operands_same rest s =
      let p : Parts = s.parts in
      let told : IsTold p = told_by instr (stem ++ rest) s in
      let also : begins_code p.map p.opcode ≡ true = row_begins p.map p.opcode p.row told.byte s.fit.listed in
      let ours : stem ++ rest ≡ begun.front ++ (lead begun.map begun.opcode ∷ (later begun.map begun.opcode ++ rest)) =
      ap (λ l. l ++ rest) begun.is
      ∙ (append_assoc begun.front (opcode_bytes begun.map begun.opcode) rest
      ∙ ap (λ l. begun.front ++ (l ++ rest)) (lead_is begun.map begun.opcode)) in
      let theirs : stem ++ rest ≡ p.front ++ (lead p.map p.opcode ∷ (later p.map p.opcode ++ p.operands)) =
      s.spelled ∙ ap (λ l. p.front ++ (l ++ p.operands)) (lead_is p.map p.opcode) in
      behind_same begun.map p.map begun.opcode p.opcode rest p.operands begun.begins also
      (code_same begun.front p.front (lead begun.map begun.opcode) (lead p.map p.opcode)
      (later begun.map begun.opcode ++ rest) (later p.map p.opcode ++ p.operands) begun.prefixes s.fit.prefixes
      (lead_begins begun.map begun.opcode begun.begins) (lead_begins p.map p.opcode also) (sym ours ∙ theirs))

  unspelled : (modrm sib disp : ℕ) (place : Place) → IsOperand instr place → rm_may_fit place (mod_field modrm) (rm_field modrm) ≡ false
      → is_spelled instr (stem ++ (operand_bytes form.layout modrm sib disp ++ tail)) ≡ true → ⊥
  unspelled modrm sib disp (Mem address) is other spelled =
      let rest : List ℕ = operand_bytes form.layout modrm sib disp ++ tail in
      let s : Spells instr (stem ++ rest) = (spelled_is laws instr (stem ++ rest) spelled).spells in
      let told : Passes s.parts.operands (rex_number (prefixes_of s.parts.front)) address = place_told instr (stem ++ rest) s (Mem address) address is refl in
      let at : modrm_byte s.parts.operands ≡ modrm = sym (ap modrm_byte (operands_same rest s)) ∙ first_is form.layout modrm sib disp tail formed in
      let P : ℕ → Type 0 = λ m. address_may_fit address (mod_field m) (rm_field m) ≡ true in
      true_false (address_may_fit address (mod_field modrm) (rm_field modrm)) (subst P at told) other
  unspelled modrm sib disp Nothing is other spelled = absurd (cc)
  unspelled modrm sib disp (Reg number) is other spelled = absurd (cc)
  unspelled modrm sib disp (High number) is other spelled = absurd (cc)
  unspelled modrm sib disp Value is other spelled = absurd (cc)

  module _ (best : List ℕ) (modrm : ℕ) (other : rm_may_fit form.place (mod_field modrm) (rm_field modrm) ≡ false) where
    one_vain : (sib disp : ℕ) → better instr best (stem ++ (operand_bytes form.layout modrm sib disp ++ tail)) ≡ best
    one_vain sib disp =
        let bytes : List ℕ = stem ++ (operand_bytes form.layout modrm sib disp ++ tail) in
        elim (cases_Bool (is_spelled instr bytes)) [
          | inl spelled ↦ absurd (unspelled modrm sib disp form.place operand other spelled)
          | inr not_so ↦ unspelled_vain instr best bytes not_so
        ]

    scale_vain : (scale : ℕ) → IsVain instr best (by_scale stem form tail modrm scale)
    unfolding by_scale
    scale_vain scale = (one_vain (64 * scale + sib_low form.place) (place_disp form.place), tt)

    scales_vain : IsVain instr best (by_scales stem form tail modrm)
    unfolding by_scales
    scales_vain = vain_flat instr best (by_scale stem form tail modrm) scale_vain 4

    alone_vain : IsVain instr best (by_alone stem form tail modrm)
    unfolding by_alone
    alone_vain = (one_vain 0 (place_disp form.place), tt)

    modrm_vain : IsVain instr best (by_modrm stem form tail modrm)
    unfolding by_modrm
    modrm_vain =
        cond_both (modrm_fits form modrm) (cond (asks_sib form.layout modrm) (by_scales stem form tail modrm) (by_alone stem form tail modrm)) []
        (IsVain instr best)
        (λ fits. cond_both (asks_sib form.layout modrm) (by_scales stem form tail modrm) (by_alone stem form tail modrm) (IsVain instr best)
        (λ asks. scales_vain) (λ none. alone_vain))
        (λ unfit. tt)

    pub modrm_kept : best ≡ best_of instr best (by_modrm stem form tail modrm)
    modrm_kept = sym (vain_kept instr best (by_modrm stem form tail modrm) modrm_vain)

  -- by mod, reg and rm
  pub rm_kept : (best : List ℕ) (field rm : ℕ) → rm < 8 → rm_may_fit form.place (field / 8) rm ≡ false
      → best ≡ best_of instr best (by_modrm stem form tail (8 * field + rm))
  rm_kept best field rm small other =
      let modrm : ℕ = 8 * field + rm in
      let mode : field / 8 ≡ mod_field modrm = omega arith in
      let low : rm ≡ rm_field modrm = omega arith in
      modrm_kept best modrm
      (sym (ap (λ (m : ℕ). rm_may_fit form.place m rm) mode ∙ ap (rm_may_fit form.place (mod_field modrm)) low) ∙ other)
