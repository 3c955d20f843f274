use Rattle.std.proofs.Common.{◌≡◌, ℕ, ◌+◌, List, length, ap, sym, subst, ◌∙◌, arith}
use Rattle.x86_decode.specs.Meaning.{number_size}
use Rattle.asm_text.specs.declared.fitting.Form.{Form}
use Rattle.asm_text.specs.Candidates.{stem_of, tail_of}
use Rattle.asm_text.specs.Fitting.{wanted_form}
use Rattle.asm_text.specs.Skipping.{IsOperand, is_ahead}
use Rattle.asm_text.proofs.ModRmSkips.{operand_is}
use Rattle.asm_text.proofs.RowLengths.{front_ahead, number_long, stem_least}
use Rattle.asm_text.proofs.search.try_front.Goals as goal

pub try_stem-requires-clause-operand : goal.try_stem-requires-clause-operand
try_stem-requires-clause-operand c =
    let P : Form → Type 0 = λ f. IsOperand c.args.instr.now f.place in
    subst P (sym c.wanted_form-form.ensures) (operand_is c.args.row.now.shape c.args.instr.now)

pub returns-then-is_ahead : goal.returns-then-is_ahead
returns-then-is_ahead c =
    let stem : List ℕ = stem_of c.args.instr.now c.args.map c.args.opcode c.args.narrow c.args.rex in
    let best : List ℕ = c.args.best.now.items in
    let least : ℕ = stem_least stem (wanted_form c.args.row.now c.args.instr.now) (tail_of c.args.instr.now c.args.row.now) in
    let is : c.as_slice.result.now ≡ stem = c.as_slice.ensures.value ∙ c.stem-front.ensures.value in
    let same : least ≡ c.len.result + c.form_length.result + c.number_bytes-size.result =
    omega (
      arith,
      c.len.ensures.value,
      ap length c.stem-front.ensures.value,
      c.form_length.ensures.value,
      c.number_bytes-size.ensures.value,
      number_long (number_size c.args.row.now.shape.number c.args.instr.now.width) c.args.instr.now.value,
    ) in
    front_ahead c.args.instr.now c.args.map c.args.opcode c.args.row.now c.args.narrow c.args.rex best
    (sym c.size_fits.ensures.value ∙ c.if-not-size_fits.false)
    (ap (λ s. is_ahead best s least) (sym is) ∙ (ap (is_ahead best c.as_slice.result.now) same ∙ (sym c.is_ahead.ensures ∙ c.if-is_ahead.true)))
