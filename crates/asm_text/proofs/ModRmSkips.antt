-- The bytes of ModRM by their fields, and those of which nothing is tried: with another mod, another reg, or another register.
use Rattle.std.proofs.Common.{◌≡◌, ◌≢◌, ℕ, ◌+◌, ◌*◌, ◌%◌, ◌<◌, ◌≤◌, false, ◌||◌, cond, nat_eq, Option, Some, List, [], refl, ap, sym, ◌∙◌, arith, inl, inr}
use Rattle.std.specs.List.{flat_map, range_with_len}
use Rattle.std.proofs.lemmas.Bool.{and_left, and_right, cond_both, cond-false, ne_eqb}
use Rattle.decode_fields.specs.declared.place.Place.{Place}
use Rattle.decode_fields.specs.declared.place.Place.TheVariants.{Nothing, Reg, High, Mem, Value}
use Rattle.decode_fields.specs.ModRm.{is_register, mod_field, reg_field, rm_field}
use Rattle.x86_decode.specs.declared.instruction.Instr.{Instr}
use Rattle.x86_decode.specs.declared.shape.Shape.{Shape}
use Rattle.x86_decode.specs.declared.shape.RowLayout.{RowLayout}
use Rattle.asm_text.specs.declared.fitting.Form.{Form}
use Rattle.asm_text.specs.Candidates.{by_alone, by_modrm, by_modrms, by_scales}
use Rattle.asm_text.specs.Fitting.{asks_sib, is_by_rm, is_ignored_layout, low_of, modrm_fits, reg_fits, rm_fits, rm_place}
use Rattle.asm_text.specs.Skipping.{IsOperand, by_field, by_mode, mode_may_fit}
use Rattle.asm_text.proofs.Ranges.{flat_blocks, flat_none, flat_one}

some_same : (one other : ℕ) → Some one ≡ Some other → one ≡ other
some_same one other same = cc

-- the operand by mod and rm is one of the instruction's
pub operand_is : (shape : Shape) (instr : Instr) → IsOperand instr (rm_place shape instr)
operand_is shape instr =
    cond_both (is_by_rm shape.to) instr.to (cond (is_by_rm shape.from) instr.from Nothing) (IsOperand instr)
    (λ to. inl refl)
    (λ no_to. cond_both (is_by_rm shape.from) instr.from Nothing (IsOperand instr) (λ from. inr (inl refl)) (λ none. inr (inr refl)))

-- the low bits of a register
pub low_small : (place : Place) (low : ℕ) → low_of place ≡ Some low → low < 8
low_small Nothing low is = absurd (cc)
low_small (Reg number) low is = let same : number % 8 ≡ low = some_same (number % 8) low is in omega arith
low_small (High number) low is = let same : number % 4 + 4 ≡ low = some_same (number % 4 + 4) low is in omega arith
low_small (Mem address) low is = absurd (cc)
low_small Value low is = absurd (cc)

module _ (stem : List ℕ) (form : Form) (tail : List ℕ) where
  -- all bytes, by mod, reg and rm
  fields_all : flat_map (by_field stem form tail) (range_with_len 0 32) ≡ by_modrms stem form tail
  unfolding by_field by_modrms
  fields_all = flat_blocks (by_modrm stem form tail) 32

  pub modes_all : flat_map (by_mode stem form tail) (range_with_len 0 4) ≡ by_modrms stem form tail
  unfolding by_mode
  modes_all = flat_blocks (by_field stem form tail) 4 ∙ fields_all

  pub modrm_none : (modrm : ℕ) → modrm_fits form modrm ≡ false → by_modrm stem form tail modrm ≡ []
  unfolding by_modrm
  modrm_none modrm unfit =
      cond-false (modrm_fits form modrm) (cond (asks_sib form.layout modrm) (by_scales stem form tail modrm) (by_alone stem form tail modrm)) [] unfit

  -- another reg
  reg_other : (wanted : Option ℕ) (reg other : ℕ) → wanted ≡ Some reg → other ≢ reg → reg_fits wanted other ≡ false
  reg_other wanted reg other is differ =
      ap (λ w. reg_fits w other) is ∙ ne_eqb reg other (λ same. differ (sym same))

  field_none : (reg mode other : ℕ) → form.reg ≡ Some reg → other < 8 → other ≢ reg → by_field stem form tail (8 * mode + other) ≡ []
  unfolding by_field
  field_none reg mode other is small differ =
      flat_none (λ rm. by_modrm stem form tail (8 * (8 * mode + other) + rm)) 8
      (λ rm below.
      let modrm : ℕ = 8 * (8 * mode + other) + rm in
      let field : reg_field modrm ≡ other = omega arith in
      modrm_none modrm (and_left (reg_fits form.reg (reg_field modrm)) (rm_fits form.layout form.place modrm)
      (ap (reg_fits form.reg) field ∙ reg_other form.reg reg other is differ)))

  pub mode_one : (reg mode : ℕ) → form.reg ≡ Some reg → reg < 8 → by_mode stem form tail mode ≡ by_field stem form tail (8 * mode + reg)
  unfolding by_mode
  mode_one reg mode is small =
      flat_one (λ r. by_field stem form tail (8 * mode + r)) 8 reg small (λ other below differ. field_none reg mode other is below differ)

  pub mode_past : (reg mode : ℕ) → form.reg ≡ Some reg → 8 ≤ reg → by_mode stem form tail mode ≡ []
  unfolding by_mode
  mode_past reg mode is large =
      flat_none (λ r. by_field stem form tail (8 * mode + r)) 8
      (λ other below. field_none reg mode other is below (λ same. absurd (omega arith)))

  -- another register
  rm_other : (l : RowLayout) (place : Place) (low modrm : ℕ) → low_of place ≡ Some low → rm_field modrm ≢ low → rm_fits l place modrm ≡ false
  rm_other l Nothing low modrm is differ = refl
  rm_other l (Reg number) low modrm is differ =
      and_right (is_ignored_layout l || is_register modrm) (nat_eq (number % 8) (rm_field modrm))
      (ne_eqb (number % 8) (rm_field modrm) (λ same. differ (sym same ∙ some_same (number % 8) low is)))
  rm_other l (High number) low modrm is differ =
      and_right (is_ignored_layout l || is_register modrm) (nat_eq (number % 4 + 4) (rm_field modrm))
      (ne_eqb (number % 4 + 4) (rm_field modrm) (λ same. differ (sym same ∙ some_same (number % 4 + 4) low is)))
  rm_other l (Mem address) low modrm is differ = absurd (cc)
  rm_other l Value low modrm is differ = refl

  pub field_one : (low field : ℕ) → low_of form.place ≡ Some low → low < 8 → by_field stem form tail field ≡ by_modrm stem form tail (8 * field + low)
  unfolding by_field
  field_one low field is small =
      flat_one (λ rm. by_modrm stem form tail (8 * field + rm)) 8 low small
      (λ rm below differ.
      let modrm : ℕ = 8 * field + rm in
      let at : rm_field modrm ≡ rm = omega arith in
      modrm_none modrm (and_right (reg_fits form.reg (reg_field modrm)) (rm_fits form.layout form.place modrm)
      (rm_other form.layout form.place low modrm is (λ same. differ (sym at ∙ same)))))

  -- another mod
  mode_other : (l : RowLayout) (place : Place) (modrm : ℕ) → mode_may_fit l place (mod_field modrm) ≡ false → rm_fits l place modrm ≡ false
  mode_other l Nothing modrm other = refl
  mode_other l (Reg number) modrm other = and_left (is_ignored_layout l || is_register modrm) (nat_eq (number % 8) (rm_field modrm)) other
  mode_other l (High number) modrm other = and_left (is_ignored_layout l || is_register modrm) (nat_eq (number % 4 + 4) (rm_field modrm)) other
  mode_other l (Mem address) modrm other = other
  mode_other l Value modrm other = refl

  pub mode_none : (mode : ℕ) → mode_may_fit form.layout form.place mode ≡ false → by_mode stem form tail mode ≡ []
  unfolding by_mode by_field
  mode_none mode other =
      flat_none (λ reg. flat_map (λ rm. by_modrm stem form tail (8 * (8 * mode + reg) + rm)) (range_with_len 0 8)) 8
      (λ reg small. flat_none (λ rm. by_modrm stem form tail (8 * (8 * mode + reg) + rm)) 8
      (λ rm below.
      let modrm : ℕ = 8 * (8 * mode + reg) + rm in
      let at : mode ≡ mod_field modrm = omega arith in
      modrm_none modrm (and_right (reg_fits form.reg (reg_field modrm)) (rm_fits form.layout form.place modrm)
      (mode_other form.layout form.place modrm
      (ap (mode_may_fit form.layout form.place) (sym at) ∙ other)))))
