use Rattle.std.proofs.Common.{◌≡◌, ℕ, ◌<◌, ◌≤◌, ◌+◌, nat_lt, Some, None, List, length, take, ◌-◌, drop, refl, ap, sym, ◌∙◌, arith, inl, inr}
use Rattle.std.proofs.lemmas.Bool.{cases_lt, cond-false, cond-true, le-ltb, lt-ltb}
use Rattle.std.proofs.lemmas.List.{length-drop, take_rest}
use Rattle.decode_fields.specs.declared.parts.ModRm.{ModRm}
use Rattle.decode_fields.specs.declared.parts.Prefixes.{Prefixes}
use Rattle.x86_decode.specs.declared.instruction.Decoded.TheVariants.{Whole, Short}
use Rattle.x86_decode.specs.declared.operation.Op.{Op}
use Rattle.x86_decode.specs.declared.shape.Shape.{Shape}
use Rattle.x86_decode.specs.declared.shape.RowLayout.{RowLayout}
use Rattle.x86_decode.specs.declared.shape.RowLayout.TheVariants.{Plain, AnyForm, Memory, Register, Ignored}
use Rattle.x86_decode.specs.Meaning.{fields_in, fields_of, instr_by, layout_length, number_size, rex_number, width_of}
use Rattle.x86_decode.specs.Reader.{answer_of, finished}
use Rattle.x86_decode.proofs.RowReading.{finished_cut, finished_whole}
use Rattle.x86_decode.proofs.reader.finish.Goals as goal

record AreRead (layout : RowLayout) (operands : List ℕ) (rex : ℕ) (f : ModRm) : Type 0 where
  same : f ≡ fields_of layout operands rex
  size : f.length ≡ layout_length layout operands
  within : layout_length layout operands ≤ length operands

fields_length : (layout : RowLayout) (operands : List ℕ) (rex : ℕ) → (fields_of layout operands rex).length ≡ layout_length layout operands
fields_length Plain operands rex = refl
fields_length AnyForm operands rex = refl
fields_length Memory operands rex = refl
fields_length Register operands rex = refl
fields_length Ignored operands rex = refl

some_same : (f g : ModRm) → Some f ≡ Some g → f ≡ g
some_same f g e = cc

none_some : (f : ModRm) → None ≡ Some f → ⊥
none_some f e = cc

are_read : (layout : RowLayout) (operands : List ℕ) (rex : ℕ) (f : ModRm) → Some f ≡ fields_in layout operands rex → AreRead layout operands rex f
are_read layout operands rex f e =
    let n : ℕ = layout_length layout operands in
    let g : ModRm = fields_of layout operands rex in
    elim (cases_lt (length operands) n) [
      | inl cut ↦ absurd (none_some f (sym (cond-true (nat_lt (length operands) n) None (Some g) (lt-ltb _ _ cut)) ∙ sym e))
      | inr whole ↦
          let same : f ≡ g = some_same f g (e ∙ cond-false (nat_lt (length operands) n) None (Some g) (le-ltb _ _ whole)) in
          record { same = same; size = ap (λ (m : ModRm). m.length) same ∙ fields_length layout operands rex; within = whole }
    ]

not_read : (layout : RowLayout) (operands : List ℕ) (rex : ℕ) → None ≡ fields_in layout operands rex → length operands < layout_length layout operands
not_read layout operands rex e =
    let n : ℕ = layout_length layout operands in
    let g : ModRm = fields_of layout operands rex in
    elim (cases_lt (length operands) n) [
      | inl cut ↦ cut
      | inr whole ↦ absurd (none_some g (e ∙ cond-false (nat_lt (length operands) n) None (Some g) (le-ltb _ _ whole)))
    ]

length_rest : (operands : List ℕ) (n : ℕ) → length (take (length operands - n) (drop n operands)) ≡ length operands - n
length_rest operands n = ap length (take_rest operands n) ∙ length-drop n operands

whole_row : (op : Op) (shape : Shape) (prefixes : Prefixes) (opcode : ℕ) (operands : List ℕ) (front count : ℕ) (f : ModRm) (size : ℕ)
    → AreRead shape.layout operands (rex_number prefixes) f → size ≡ number_size shape.number (width_of shape.width prefixes)
    → size ≤ length (take (length operands - f.length) (drop f.length operands))
    → Whole (instr_by op shape prefixes opcode f (take (length operands - f.length) (drop f.length operands))) (front + f.length + size)
    ≡ answer_of (finished op shape prefixes opcode operands front) count
whole_row op shape prefixes opcode operands front count f size read sized there =
    let g : ModRm = fields_of shape.layout operands (rex_number prefixes) in
    let enough : f.length + size ≤ length operands = omega (arith, length_rest operands f.length, read.size, read.within) in
    let whole : layout_length shape.layout operands + number_size shape.number (width_of shape.width prefixes) ≤ length operands = omega (arith, read.size) in
    ap (λ r. Whole (instr_by op shape prefixes opcode f r) (front + f.length + size)) (take_rest operands f.length)
    ∙ (ap (λ (h : ModRm). Whole (instr_by op shape prefixes opcode h (drop f.length operands)) (front + f.length + size)) read.same
    ∙ (ap (λ n. Whole (instr_by op shape prefixes opcode g (drop n operands)) (front + n + size)) read.size
    ∙ (ap (λ n. Whole (instr_by op shape prefixes opcode g (drop (layout_length shape.layout operands) operands)) n) (omega arith)
    ∙ ap (λ d. answer_of d count) (sym (finished_whole op shape prefixes opcode operands front whole)))))

cut_row : (op : Op) (shape : Shape) (prefixes : Prefixes) (opcode : ℕ) (operands : List ℕ) (front count : ℕ)
    → length operands < layout_length shape.layout operands + number_size shape.number (width_of shape.width prefixes)
    → answer_of Short count ≡ answer_of (finished op shape prefixes opcode operands front) count
cut_row op shape prefixes opcode operands front count cut = ap (λ d. answer_of d count) (sym (finished_cut op shape prefixes opcode operands front cut))

same_size : (size n : ℕ) (rest : List ℕ) → size ≡ n → size ≤ length rest → n ≤ length rest
same_size size n rest same there = omega arith

rest_cut : (layout : RowLayout) (operands : List ℕ) (rex : ℕ) (f : ModRm) (size n : ℕ) → AreRead layout operands rex f → size ≡ n
    → length (take (length operands - f.length) (drop f.length operands)) < size → length operands < layout_length layout operands + n
rest_cut layout operands rex f size n read same cut = omega (arith, length_rest operands f.length, read.size, read.within)

read_by : (c : goal.In-Some) → AreRead c.args.shape.layout c.args.operands.now (rex_number c.args.prefixes.now) c.in-Some.fields
read_by c = are_read _ _ _ _ (c.in-Some.ensures.value ∙ ap (fields_in c.args.shape.layout c.args.operands.now) c.rex.ensures)

pub returns-in_default : goal.returns-in_default
returns-in_default c =
    let cut = not_read c.args.shape.layout c.args.operands.now c.rex.result c.in_default.ensures.value in
    c.cut.ensures ∙ cut_row c.args.op c.args.shape c.args.prefixes.now c.args.opcode c.args.operands.now c.args.front c.args.count
    (omega (arith, cut))

pub slice_bounds-rest-count : goal.slice_bounds-rest-count
slice_bounds-rest-count c = omega (arith, (read_by c).size, (read_by c).within)

pub slice_bounds-rest-start : goal.slice_bounds-rest-start
slice_bounds-rest-start c = omega (arith, (read_by c).size, (read_by c).within)

pub slice_bounds-rest-end : goal.slice_bounds-rest-end
slice_bounds-rest-end c = omega (arith, (read_by c).size, (read_by c).within)

pub returns-then-rest-size : goal.returns-then-rest-size
returns-then-rest-size c =
    let read = are_read c.args.shape.layout c.args.operands.now (rex_number c.args.prefixes.now) c.in-Some.fields
    (c.in-Some.ensures.value ∙ ap (fields_in c.args.shape.layout c.args.operands.now) c.rex.ensures) in
    let sized = c.size_of_number-size.ensures.value ∙ ap (number_size c.args.shape.number) c.width.ensures.value in
    c.cut-then-rest-size.ensures
    ∙ cut_row c.args.op c.args.shape c.args.prefixes.now c.args.opcode c.args.operands.now c.args.front c.args.count
    (rest_cut c.args.shape.layout c.args.operands.now _ c.in-Some.fields c.size_of_number-size.result _ read sized c.if-rest-size.true)

pub instr-instr-requires-clause-few : goal.instr-instr-requires-clause-few
instr-instr-requires-clause-few c = omega (arith, length_rest c.args.operands.now c.in-Some.fields.length)

pub instr-instr-requires-clause-there : goal.instr-instr-requires-clause-there
instr-instr-requires-clause-there c =
    same_size c.size_of_number-size.result _ _ (c.size_of_number-size.ensures.value ∙ ap (number_size c.args.shape.number) c.width.ensures.value)
    c.if-rest-size.false

read_after : (c : goal.After-instr-instr) → AreRead c.args.shape.layout c.args.operands.now (rex_number c.args.prefixes.now) c.in-Some.fields
read_after c = are_read _ _ _ _ (c.in-Some.ensures.value ∙ ap (fields_in c.args.shape.layout c.args.operands.now) c.rex.ensures)

pub overflow_add-result : goal.overflow_add-result
overflow_add-result c = omega (arith, (read_after c).size, (read_after c).within)

pub overflow_add-result-2 : goal.overflow_add-result-2
overflow_add-result-2 c = omega (arith, (read_after c).size, (read_after c).within, c.size_of_number-size.ensures.small)

pub returns : goal.returns
returns c =
    let sized = c.size_of_number-size.ensures.value ∙ ap (number_size c.args.shape.number) c.width.ensures.value in
    ap (λ i. Whole i (c.args.front + c.in-Some.fields.length + c.size_of_number-size.result)) c.instr-instr.ensures
    ∙ whole_row c.args.op c.args.shape c.args.prefixes.now c.args.opcode c.args.operands.now c.args.front c.args.count
    c.in-Some.fields c.size_of_number-size.result (read_after c) sized c.if-rest-size.false
