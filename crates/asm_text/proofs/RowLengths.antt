-- How many bytes there are at least in what is tried of a row.
use Rattle.std.proofs.Common.{◌≡◌, ℕ, zero, suc, ◌+◌, ◌*◌, ◌/◌, ◌≤◌, Bool, true, false, cond, Option, Some, None, List, [], ◌++◌, length, refl, ap, sym, ◌∙◌, arith}
use Rattle.std.proofs.lemmas.Bool.{cond-true, cond_both}
use Rattle.std.proofs.lemmas.List.{length-append}
use Rattle.decode_fields.specs.declared.parts.Rep.{Rep}
use Rattle.x86_decode.specs.declared.instruction.Instr.{Instr}
use Rattle.x86_decode.specs.declared.reader.Map.{Map}
use Rattle.x86_decode.specs.declared.reader.Map.TheVariants.{OneByte, TwoByte}
use Rattle.x86_decode.specs.declared.row_list.TableRow.{TableRow}
use Rattle.x86_decode.specs.declared.shape.RowLayout.{RowLayout}
use Rattle.x86_decode.specs.declared.shape.RowLayout.TheVariants.{Plain, AnyForm, Memory, Register, Ignored}
use Rattle.x86_decode.specs.Meaning.{number_size}
use Rattle.x86_decode.specs.Spelling.{opcode_bytes}
use Rattle.asm_text.specs.declared.fitting.Form.{Form}
use Rattle.asm_text.specs.Assembly.{byte_if, front_of, number_bytes_of, operand_bytes, rep_bytes, rex_bytes}
use Rattle.asm_text.specs.Candidates.{best_of, by_alone, by_front, by_modrm, by_modrms, by_rex, by_rexes, by_scale, by_scales, by_stem, stem_of, tail_of}
use Rattle.asm_text.specs.Fitting.{asks_sib, is_plain_layout, modrm_fits, place_disp, sib_low, size_fits, wanted_form}
use Rattle.asm_text.specs.Skipping.{by_each_rex, form_length, is_ahead, is_width, narrow_length, number_least, opcode_length, row_least}
use Rattle.asm_text.proofs.Skips.{AllBegin, Begins, ahead_kept, begin_any, begin_append, begin_flat}

-- ModRM is a byte at least
operands_long : (l : RowLayout) (modrm sib disp : ℕ) → form_length l ≤ length (operand_bytes l modrm sib disp)
operands_long Plain modrm sib disp = omega arith
operands_long AnyForm modrm sib disp = omega arith
operands_long Memory modrm sib disp = omega arith
operands_long Register modrm sib disp = omega arith
operands_long Ignored modrm sib disp = omega arith

module _ (stem : List ℕ) (form : Form) (tail : List ℕ) where
  abbrev pub stem_least : ℕ
  stem_least = length stem + form_length form.layout + length tail

  one_long : (modrm sib disp : ℕ) → Begins stem stem_least (stem ++ (operand_bytes form.layout modrm sib disp ++ tail))
  one_long modrm sib disp =
      let middle : List ℕ = operand_bytes form.layout modrm sib disp in
      record {
        rest = middle ++ tail;
        is = refl;
        long = omega (arith, length-append stem (middle ++ tail), length-append middle tail, operands_long form.layout modrm sib disp);
      }

  scale_long : (modrm scale : ℕ) → AllBegin stem stem_least (by_scale stem form tail modrm scale)
  unfolding by_scale
  scale_long modrm scale = (one_long modrm (64 * scale + sib_low form.place) (place_disp form.place), tt)

  alone_long : (modrm : ℕ) → AllBegin stem stem_least (by_alone stem form tail modrm)
  unfolding by_alone
  alone_long modrm = (one_long modrm 0 (place_disp form.place), tt)

  scales_long : (modrm : ℕ) → AllBegin stem stem_least (by_scales stem form tail modrm)
  unfolding by_scales
  scales_long modrm = begin_flat stem stem_least (by_scale stem form tail modrm) (scale_long modrm) 4

  modrm_long : (modrm : ℕ) → AllBegin stem stem_least (by_modrm stem form tail modrm)
  unfolding by_modrm
  modrm_long modrm =
      cond_both (modrm_fits form modrm) (cond (asks_sib form.layout modrm) (by_scales stem form tail modrm) (by_alone stem form tail modrm)) []
      (AllBegin stem stem_least)
      (λ fits. cond_both (asks_sib form.layout modrm) (by_scales stem form tail modrm) (by_alone stem form tail modrm) (AllBegin stem stem_least)
      (λ asks. scales_long modrm) (λ none. alone_long modrm))
      (λ unfit. tt)

  modrms_long : AllBegin stem stem_least (by_modrms stem form tail)
  unfolding by_modrms
  modrms_long = begin_flat stem stem_least (by_modrm stem form tail) modrm_long 256

  pub stem_long : AllBegin stem stem_least (by_stem stem form tail)
  unfolding by_stem
  stem_long =
      cond_both (is_plain_layout form.layout) (by_alone stem form tail 0) (by_modrms stem form tail) (AllBegin stem stem_least)
      (λ plain. alone_long 0) (λ behind. modrms_long)

-- prefix bytes, opcode and number
if_long : (stands : Bool) (byte : ℕ) → length (byte_if stands byte) ≡ narrow_length stands
if_long true byte = refl
if_long false byte = refl

abbrev pub rex_length : Option ℕ → ℕ
rex_length None = 0
rex_length (Some rex) = 1

rex_long : (rex : Option ℕ) → length (rex_bytes rex) ≡ rex_length rex
rex_long None = refl
rex_long (Some rex) = refl

front_long : (narrow lock : Bool) (rep : Rep) (rex : Option ℕ) → narrow_length narrow + rex_length rex ≤ length (front_of narrow lock rep rex)
front_long narrow lock rep rex =
    let one : List ℕ = byte_if narrow 0x66 in
    let two : List ℕ = byte_if lock 0xF0 in
    let three : List ℕ = rep_bytes rep in
    let four : List ℕ = rex_bytes rex in
    omega (arith, length-append one (two ++ (three ++ four)), length-append two (three ++ four), length-append three four, if_long narrow 0x66, rex_long rex)

opcode_long : (map : Map) (opcode : ℕ) → length (opcode_bytes map opcode) ≡ opcode_length map
opcode_long OneByte opcode = refl
opcode_long TwoByte opcode = refl

pub number_long : (size number : ℕ) → length (number_bytes_of size number) ≡ size
number_long zero number = refl
number_long (suc size) number = ap suc (number_long size (number / 256))

module _ (instr : Instr) (map : Map) (opcode : ℕ) (row : TableRow) (narrow : Bool) where
  abbrev row_bytes : ℕ
  row_bytes = row_least map row.shape instr + narrow_length narrow

  least_number : number_least row.shape.number instr.width ≤ number_size row.shape.number instr.width
  least_number =
      cond_both (is_width instr.width) (number_size row.shape.number instr.width) 0 (λ n. n ≤ number_size row.shape.number instr.width)
      (λ known. omega arith) (λ unknown. omega arith)

  front_least : (rex : Option ℕ) → row_bytes + rex_length rex ≤ stem_least (stem_of instr map opcode narrow rex) (wanted_form row instr) (tail_of instr row)
  unfolding row_least
  front_least rex =
      let front : List ℕ = front_of narrow instr.lock instr.rep rex in
      omega (
        arith,
        length-append front (opcode_bytes map opcode),
        front_long narrow instr.lock instr.rep rex,
        opcode_long map opcode,
        number_long (number_size row.shape.number instr.width) instr.value,
        least_number,
      )

  pub front_begins : (rex : Option ℕ) → AllBegin [] (row_bytes + rex_length rex) (by_front instr map opcode row narrow rex)
  unfolding by_front
  front_begins rex =
      let stem : List ℕ = stem_of instr map opcode narrow rex in
      let form : Form = wanted_form row instr in
      let tail : List ℕ = tail_of instr row in
      cond_both (size_fits row.shape instr narrow rex) (by_stem stem form tail) [] (AllBegin [] (row_bytes + rex_length rex))
      (λ fits. begin_any stem (stem_least stem form tail) (row_bytes + rex_length rex) (by_stem stem form tail) (front_least rex) (stem_long stem form tail))
      (λ unfit. tt)

  -- where the best bytes come before all that begin with these prefixes
  pub front_ahead : (rex : Option ℕ) (best : List ℕ) → size_fits row.shape instr narrow rex ≡ true
      → is_ahead best (stem_of instr map opcode narrow rex) (stem_least (stem_of instr map opcode narrow rex) (wanted_form row instr) (tail_of instr row)) ≡ true
      → best ≡ best_of instr best (by_front instr map opcode row narrow rex)
  unfolding by_front
  front_ahead rex best fits ahead =
      let stem : List ℕ = stem_of instr map opcode narrow rex in
      let form : Form = wanted_form row instr in
      let tail : List ℕ = tail_of instr row in
      ahead_kept instr best stem (stem_least stem form tail) (by_stem stem form tail) ahead (stem_long stem form tail)
      ∙ ap (best_of instr best) (sym (cond-true (size_fits row.shape instr narrow rex) (by_stem stem form tail) [] fits))

  rex_begins : (low : ℕ) → AllBegin [] (row_bytes + 1) (by_rex instr map opcode row narrow low)
  unfolding by_rex
  rex_begins low = front_begins (Some (0x40 + low))

  pub each_rex_begins : AllBegin [] (row_bytes + 1) (by_each_rex instr map opcode row narrow)
  unfolding by_each_rex
  each_rex_begins = begin_flat [] (row_bytes + 1) (by_rex instr map opcode row narrow) rex_begins 16

  fewer : AllBegin [] row_bytes (by_each_rex instr map opcode row narrow)
  fewer = begin_any [] (row_bytes + 1) row_bytes (by_each_rex instr map opcode row narrow) (omega arith) each_rex_begins

  without : AllBegin [] row_bytes (by_front instr map opcode row narrow None)
  without = begin_any [] (row_bytes + 0) row_bytes (by_front instr map opcode row narrow None) (omega arith) (front_begins None)

  pub rexes_begin : AllBegin [] row_bytes (by_rexes instr map opcode row narrow)
  unfolding by_rexes by_each_rex
  rexes_begin =
      begin_append [] row_bytes (by_front instr map opcode row narrow None) (by_each_rex instr map opcode row narrow) without fewer
