-- The law on spellings: what spells a load of a protected register has a protected encoding behind its prefix bytes.
use Rattle.std.proofs.Common.{◌≡◌, ℕ, suc, ◌<◌, ◌≤◌, ◌+◌, ◌⊎◌, Bool, true, false, ◌&&◌, ◌||◌, not, cond, nat_eq, nat_lt, Option, Some, None, List, [], ◌∷◌, ◌++◌, length, slice_get, refl, ap, sym, subst, ◌∙◌, arith, inl, inr}
use Rattle.std.specs.List.{list_all}
use Rattle.std.proofs.lemmas.Bool.{and_parts, or_cases, eqb-true, agree_below, agree_below_at, not-true}
use Rattle.decode_fields.specs.declared.parts.Prefixes.{Prefixes}
use Rattle.decode_fields.specs.Prefixes.{is_prefix, prefixes_of}
use Rattle.decode_fields.specs.ModRm.{is_register, reg_field, modrm_byte}
use Rattle.decode_fields.specs.Protected.{is_protected_at, is_refused_with, length_after_escape, length_of_bytes}
use Rattle.x86_decode.specs.declared.instruction.Instr.{Instr}
use Rattle.x86_decode.specs.declared.shape.RowLayout.{RowLayout}
use Rattle.x86_decode.specs.declared.shape.RowLayout.TheVariants as layout
use Rattle.x86_decode.specs.declared.reader.Map.{Map}
use Rattle.x86_decode.specs.declared.reader.Map.TheVariants.{OneByte, TwoByte}
use Rattle.x86_decode.specs.Conditions.{is_protected}
use Rattle.x86_decode.specs.Decoding.{BeginsProtected}
use Rattle.x86_decode.specs.Grid.{entry_at, entry_rows, slots_from}
use Rattle.x86_decode.specs.Meaning.{layout_stands, operand_length, row_stands, when_stands}
use Rattle.x86_decode.specs.Spelling.{Parts, Spells, opcode_bytes}
use Rattle.x86_decode.specs.OpcodeTable.{OpcodeRow, When, Always, Digit, AtSize, AtRexB}
use Rattle.x86_decode.proofs.Bytes.{opcode_byte}
use Rattle.x86_decode.proofs.FieldLaws.{FieldLaws}
use Rattle.x86_decode.proofs.RowReading.{layout_some, listed_in}
use Rattle.x86_decode.proofs.Rows.{IsIn, is_plain}

abbrev is_digit : ℕ → When → Bool
is_digit n Always = false
is_digit n (Digit k) = nat_eq k n
is_digit n (AtSize k) = false
is_digit n (AtRexB k) = false

abbrev is_memory : RowLayout → Bool
is_memory layout.Plain = false
is_memory layout.AnyForm = false
is_memory layout.Memory = true
is_memory layout.Register = false
is_memory layout.Ignored = false

-- where the rows of protected loads stand: with any third byte, with the third byte of a table or the status word, of a task, or alone
abbrev any_third : ℕ → Bool
any_third opcode = nat_eq opcode 0x22 || nat_eq opcode 0x23

abbrev of_table : ℕ → OpcodeRow → Bool
of_table opcode row = (nat_eq opcode 0x01 && (is_digit 2 row.when || is_digit 3 row.when)) && is_memory row.shape.layout

abbrev of_status : ℕ → OpcodeRow → Bool
of_status opcode row = nat_eq opcode 0x01 && is_digit 6 row.when

abbrev of_task : ℕ → OpcodeRow → Bool
of_task opcode row = nat_eq opcode 0x00 && (is_digit 2 row.when || is_digit 3 row.when)

abbrev with_third : ℕ → OpcodeRow → Bool
with_third opcode row = (any_third opcode || (of_table opcode row || (of_status opcode row || of_task opcode row))) && not (is_plain row.shape.layout)

abbrev is_guarded : ℕ → OpcodeRow → Bool
is_guarded opcode row = not (is_protected row.op) || (nat_eq opcode 0x30 || with_third opcode row)

two_byte_guarded : agree_below (λ opcode. list_all (is_guarded opcode) (entry_rows (entry_at TwoByte opcode))) (λ _. true) 256 ≡ true
unfolding entry_at slots_from
two_byte_guarded = refl

one_byte_guarded : agree_below (λ opcode. list_all (λ row. not (is_protected row.op)) (entry_rows (entry_at OneByte opcode))) (λ _. true) 256 ≡ true
unfolding entry_at slots_from
one_byte_guarded = refl

all_in : (test : OpcodeRow → Bool) (rows : List OpcodeRow) (row : OpcodeRow) → list_all test rows ≡ true → IsIn row rows → test row ≡ true
all_in test [] row all h = absurd h
all_in test (first ∷ rows) row all (inl is) = let P : OpcodeRow → Type 0 = λ r. test r ≡ true in subst P is (and_parts _ _ all).0
all_in test (first ∷ rows) row all (inr h) = all_in test rows row (and_parts _ _ all).1 h

digit_reg : (n : ℕ) (w : When) (prefixes : Prefixes) (operands : List ℕ) → is_digit n w ≡ true → when_stands w prefixes operands ≡ true → reg_field (modrm_byte operands) ≡ n
digit_reg n Always prefixes operands h stands = absurd (cc)
digit_reg n (Digit k) prefixes operands h stands = eqb-true _ _ stands ∙ eqb-true _ _ h
digit_reg n (AtSize k) prefixes operands h stands = absurd (cc)
digit_reg n (AtRexB k) prefixes operands h stands = absurd (cc)

memory_mod : (l : RowLayout) (operands : List ℕ) → is_memory l ≡ true → layout_stands l operands ≡ true → is_register (modrm_byte operands) ≡ false
memory_mod layout.Plain operands h stands = absurd (cc)
memory_mod layout.AnyForm operands h stands = absurd (cc)
memory_mod layout.Memory operands h stands = not-true _ stands
memory_mod layout.Register operands h stands = absurd (cc)
memory_mod layout.Ignored operands h stands = absurd (cc)

-- the refusal of a third byte, by its fields
abbrev refused : ℕ → ℕ → Bool → Bool
refused opcode reg register =
    nat_eq opcode 0x22
    || (nat_eq opcode 0x23
    || (((nat_eq opcode 0x01 && (nat_eq reg 2 || nat_eq reg 3)) && not register)
    || ((nat_eq opcode 0x01 && nat_eq reg 6)
    || (nat_eq opcode 0x00 && (nat_eq reg 2 || nat_eq reg 3)))))

refused_is : (opcode third : ℕ) → is_refused_with opcode third ≡ refused opcode (reg_field third) (is_register third)
refused_is opcode third = refl

refused_any : (opcode reg : ℕ) (register : Bool) → any_third opcode ≡ true → refused opcode reg register ≡ true
refused_any opcode reg register h =
    let P : ℕ → Type 0 = λ o. refused o reg register ≡ true in
    elim (or_cases _ _ h) [
      | inl is ↦ subst P (sym (eqb-true opcode 0x22 is)) refl
      | inr is ↦ subst P (sym (eqb-true opcode 0x23 is)) refl
    ]

-- the fields with which a table, the status word or a task register is loaded
refused_table : (opcode reg : ℕ) (register : Bool) → opcode ≡ 1 → (reg ≡ 2) ⊎ (reg ≡ 3) → register ≡ false → refused opcode reg register ≡ true
refused_table opcode reg register is digit free =
    let P : ℕ → Type 0 = λ o. refused o reg register ≡ true in
    let Q : Bool → Type 0 = λ r. refused 1 reg r ≡ true in
    let R : ℕ → Type 0 = λ n. refused 1 n false ≡ true in
    subst P (sym is) (subst Q (sym free) (elim digit [ inl two ↦ subst R (sym two) refl | inr three ↦ subst R (sym three) refl ]))

refused_status : (opcode reg : ℕ) (register : Bool) → opcode ≡ 1 → reg ≡ 6 → refused opcode reg register ≡ true
refused_status opcode reg register is six =
    let P : ℕ → Type 0 = λ o. refused o reg register ≡ true in
    let R : ℕ → Type 0 = λ n. refused 1 n register ≡ true in
    subst P (sym is) (subst R (sym six) refl)

refused_task : (opcode reg : ℕ) (register : Bool) → opcode ≡ 0 → (reg ≡ 2) ⊎ (reg ≡ 3) → refused opcode reg register ≡ true
refused_task opcode reg register is digit =
    let P : ℕ → Type 0 = λ o. refused o reg register ≡ true in
    let R : ℕ → Type 0 = λ n. refused 0 n register ≡ true in
    subst P (sym is) (elim digit [ inl two ↦ subst R (sym two) refl | inr three ↦ subst R (sym three) refl ])

two_or_three : (w : When) (prefixes : Prefixes) (operands : List ℕ) → (is_digit 2 w || is_digit 3 w) ≡ true → when_stands w prefixes operands ≡ true → (reg_field (modrm_byte operands) ≡ 2) ⊎ (reg_field (modrm_byte operands) ≡ 3)
two_or_three w prefixes operands h stands = elim (or_cases _ _ h) [
  | inl two ↦ inl (digit_reg 2 w prefixes operands two stands)
  | inr three ↦ inr (digit_reg 3 w prefixes operands three stands)
]

-- the third byte of such a row is one that is refused
row_refused : (opcode : ℕ) (row : OpcodeRow) (prefixes : Prefixes) (operands : List ℕ) → (any_third opcode || (of_table opcode row || (of_status opcode row || of_task opcode row))) ≡ true → row_stands row prefixes operands ≡ true → refused opcode (reg_field (modrm_byte operands)) (is_register (modrm_byte operands)) ≡ true
row_refused opcode row prefixes operands h stands =
    let when : when_stands row.when prefixes operands ≡ true = (and_parts _ _ stands).0 in
    let form : layout_stands row.shape.layout operands ≡ true = (and_parts _ _ stands).1 in
    let reg : ℕ = reg_field (modrm_byte operands) in
    let register : Bool = is_register (modrm_byte operands) in
    elim (or_cases _ _ h) [
      | inl any ↦ refused_any opcode reg register any
      | inr some ↦ elim (or_cases _ _ some) [
        | inl table ↦
            let parts : ((nat_eq opcode 0x01 && (is_digit 2 row.when || is_digit 3 row.when)) ≡ true) × (is_memory row.shape.layout ≡ true) = and_parts _ _ table in
            let inner : (nat_eq opcode 0x01 ≡ true) × ((is_digit 2 row.when || is_digit 3 row.when) ≡ true) = and_parts _ _ parts.0 in
            refused_table opcode reg register (eqb-true _ _ inner.0) (two_or_three row.when prefixes operands inner.1 when) (memory_mod row.shape.layout operands parts.1 form)
        | inr others ↦ elim (or_cases _ _ others) [
          | inl status ↦
              let inner : (nat_eq opcode 0x01 ≡ true) × (is_digit 6 row.when ≡ true) = and_parts _ _ status in
              refused_status opcode reg register (eqb-true _ _ inner.0) (digit_reg 6 row.when prefixes operands inner.1 when)
          | inr task ↦
              let inner : (nat_eq opcode 0x00 ≡ true) × ((is_digit 2 row.when || is_digit 3 row.when) ≡ true) = and_parts _ _ task in
              refused_task opcode reg register (eqb-true _ _ inner.0) (two_or_three row.when prefixes operands inner.1 when)
        ]
      ]
    ]

slice_get_behind : (front rest : List ℕ) (k : ℕ) → slice_get (front ++ rest) (length front + k) ≡ slice_get rest k
slice_get_behind [] rest k = let e : 0 + k ≡ k = omega arith in ap (slice_get rest) e
slice_get_behind (first ∷ front) rest k =
    let e : suc (length front) + k ≡ suc (length front + k) = omega arith in
    ap (slice_get (first ∷ (front ++ rest))) e ∙ slice_get_behind front rest k

wrmsr_length : (third : Option ℕ) → nat_lt 0 (length_after_escape (Some 0x30) third) ≡ true
wrmsr_length None = refl
wrmsr_length (Some m) = refl

third_length : (opcode third : ℕ) → is_refused_with opcode third ≡ true → nat_lt 0 (length_after_escape (Some opcode) (Some third)) ≡ true
third_length opcode third h =
    let P : Bool → Type 0 = λ b. nat_lt 0 (cond (nat_eq opcode 0x30) 2 (cond b 3 0)) ≡ true in
    subst P (sym h) (elim (nat_eq opcode 0x30) as (λ c. nat_lt 0 (cond c 2 (cond true 3 0)) ≡ true) [ true ↦ refl | false ↦ refl ])

-- an encoding with a length stands behind the prefix bytes
stands_behind : (front : List ℕ) (opcode : ℕ) (operands : List ℕ) → nat_lt 0 (length_after_escape (Some opcode) (slice_get operands 0)) ≡ true → is_protected_at (slice_get (front ++ (0x0F ∷ (opcode ∷ operands)))) (length front) ≡ true
stands_behind front opcode operands h =
    let rest : List ℕ = 0x0F ∷ (opcode ∷ operands) in
    let whole : List ℕ = front ++ rest in
    let zero_more : length front + 0 ≡ length front = omega arith in
    let one : slice_get whole (length front) ≡ Some 0x0F = ap (slice_get whole) (sym zero_more) ∙ slice_get_behind front rest 0 in
    let two : slice_get whole (length front + 1) ≡ Some opcode = slice_get_behind front rest 1 in
    let three : slice_get whole (length front + 2) ≡ slice_get operands 0 = slice_get_behind front rest 2 in
    let P : Option ℕ → Type 0 = λ b. nat_lt 0 (length_of_bytes b (slice_get whole (length front + 1)) (slice_get whole (length front + 2))) ≡ true in
    let Q : Option ℕ → Type 0 = λ b. nat_lt 0 (length_of_bytes (Some 0x0F) b (slice_get whole (length front + 2))) ≡ true in
    let R : Option ℕ → Type 0 = λ b. nat_lt 0 (length_of_bytes (Some 0x0F) (Some opcode) b) ≡ true in
    subst P (sym one) (subst Q (sym two) (subst R (sym three) h))

third_there : (opcode : ℕ) (operands : List ℕ) → 1 ≤ length operands → is_refused_with opcode (modrm_byte operands) ≡ true → nat_lt 0 (length_after_escape (Some opcode) (slice_get operands 0)) ≡ true
third_there opcode [] some h = absurd (omega arith)
third_there opcode (third ∷ operands) some h = third_length opcode third h

not_both : (b : Bool) → not b ≡ true → b ≡ true → ⊥
not_both true h g = cc
not_both false h g = cc

guarded_length : (opcode : ℕ) (row : OpcodeRow) (prefixes : Prefixes) (operands : List ℕ) → is_guarded opcode row ≡ true → is_protected row.op ≡ true → row_stands row prefixes operands ≡ true → length operands ≡ operand_length row.shape prefixes operands → nat_lt 0 (length_after_escape (Some opcode) (slice_get operands 0)) ≡ true
guarded_length opcode row prefixes operands guarded protected stands whole = elim (or_cases _ _ guarded) [
  | inl free ↦ absurd (not_both (is_protected row.op) free protected)
  | inr some ↦ elim (or_cases _ _ some) [
    | inl alone ↦
        let P : ℕ → Type 0 = λ o. nat_lt 0 (length_after_escape (Some o) (slice_get operands 0)) ≡ true in
        subst P (sym (eqb-true opcode 0x30 alone)) (wrmsr_length (slice_get operands 0))
    | inr third ↦
        let parts : ((any_third opcode || (of_table opcode row || (of_status opcode row || of_task opcode row))) ≡ true) × (not (is_plain row.shape.layout) ≡ true) = and_parts _ _ third in
        third_there opcode operands (omega (arith, layout_some row.shape.layout operands (not-true _ parts.1)))
        (row_refused opcode row prefixes operands parts.0 stands)
  ]
]

two_byte_law : (laws : FieldLaws) (bytes front : List ℕ) (opcode : ℕ) (row : OpcodeRow) (operands : List ℕ) (prefixes : Prefixes) → list_all is_prefix front ≡ true → bytes ≡ front ++ (0x0F ∷ (opcode ∷ operands)) → opcode < 256 → IsIn row (entry_rows (entry_at TwoByte opcode)) → is_protected row.op ≡ true → row_stands row prefixes operands ≡ true → length operands ≡ operand_length row.shape prefixes operands → BeginsProtected bytes
two_byte_law laws bytes front opcode row operands prefixes all spelled byte h protected stands whole =
    let guarded : is_guarded opcode row ≡ true =
    all_in (is_guarded opcode) (entry_rows (entry_at TwoByte opcode)) row
    (agree_below_at (λ o. list_all (is_guarded o) (entry_rows (entry_at TwoByte o))) (λ _. true) 256 opcode two_byte_guarded byte) h in
    let spelling : List ℕ = front ++ (0x0F ∷ (opcode ∷ operands)) in
    let P : List ℕ → Type 0 = λ b. is_protected_at (slice_get spelling) (length b) ≡ true in
    subst BeginsProtected (sym spelled) (subst P (sym (laws.longer.prefixes front (opcode ∷ operands) 0x0F all refl))
    (stands_behind front opcode operands (guarded_length opcode row prefixes operands guarded protected stands whole)))

one_byte_free : (opcode : ℕ) (row : OpcodeRow) → opcode < 256 → IsIn row (entry_rows (entry_at OneByte opcode)) → is_protected row.op ≡ true → ⊥
one_byte_free opcode row byte h protected =
    not_both (is_protected row.op)
    (all_in (λ r. not (is_protected r.op)) (entry_rows (entry_at OneByte opcode)) row
    (agree_below_at (λ o. list_all (λ r. not (is_protected r.op)) (entry_rows (entry_at OneByte o))) (λ _. true) 256 opcode one_byte_guarded byte) h)
    protected

law_by : (laws : FieldLaws) (bytes front : List ℕ) (where_from : Map) (opcode : ℕ) (row : OpcodeRow) (operands : List ℕ) (prefixes : Prefixes) → list_all is_prefix front ≡ true → bytes ≡ front ++ (opcode_bytes where_from opcode ++ operands) → opcode < 256 → IsIn row (entry_rows (entry_at where_from opcode)) → is_protected row.op ≡ true → row_stands row prefixes operands ≡ true → length operands ≡ operand_length row.shape prefixes operands → BeginsProtected bytes
law_by laws bytes front OneByte opcode row operands prefixes all spelled byte h protected stands whole = absurd (one_byte_free opcode row byte h protected)
law_by laws bytes front TwoByte opcode row operands prefixes all spelled byte h protected stands whole = two_byte_law laws bytes front opcode row operands prefixes all spelled byte h protected stands whole

pub law : (laws : FieldLaws) (instr : Instr) (bytes : List ℕ) → Spells instr bytes → is_protected instr.op ≡ true → BeginsProtected bytes
law laws instr bytes s protected =
    let parts : Parts = s.parts in
    let same_op : instr.op ≡ parts.row.op = ap (λ (i : Instr). i.op) s.meaning in
    law_by laws bytes parts.front parts.map parts.opcode parts.row parts.operands (prefixes_of parts.front) s.fit.prefixes s.spelled (opcode_byte instr bytes s)
    (listed_in parts.map parts.opcode parts.row (opcode_byte instr bytes s) s.fit.listed)
    (ap is_protected (sym same_op) ∙ protected) s.fit.stands s.fit.whole
