-- What is tried, level by level.
use Rattle.std.proofs.Common.{◌≡◌, ℕ, zero, suc, ◌+◌, ◌-◌, ◌*◌, ◌/◌, ◌%◌, ◌<◌, ◌⊎◌, Bool, true, false, cond, Option, Some, None, List, [], ◌∷◌, ◌++◌, ap, sym, subst, ◌∙◌, arith, inl, inr}
use Rattle.std.specs.List.{flat_map, range_with_len}
use Rattle.std.proofs.lemmas.Bool.{cases_Bool}
use Rattle.x86_decode.specs.declared.instruction.Instr.{Instr}
use Rattle.x86_decode.specs.declared.reader.Map.{Map}
use Rattle.x86_decode.specs.declared.reader.Map.TheVariants.{OneByte, TwoByte}
use Rattle.x86_decode.specs.declared.row_list.TableRow.{TableRow}
use Rattle.x86_decode.specs.Grid.{entry_at}
use Rattle.x86_decode.specs.RowList.{entry_row, places_of}
use Rattle.asm_text.specs.declared.fitting.Form.{Form}
use Rattle.asm_text.specs.Assembly.{operand_bytes}
use Rattle.asm_text.specs.Fitting.{asks_sib, wanted_form, is_plain_layout, modrm_fits, place_disp, row_fits, sib_low, size_fits}
use Rattle.asm_text.specs.Candidates.{by_alone, by_front, by_map, by_modrm, by_modrms, by_opcode, by_place, by_place_row, by_rex, by_rexes, by_row, by_scale, by_scales, by_stem, candidates, stem_of, tail_of}
use Rattle.asm_text.specs.Skipping.{IsRexOption}
use Rattle.asm_text.proofs.OperandBytes.{operands_alone}

abbrev pub IsAmong : List ℕ → List (List ℕ) → Type 0
IsAmong bytes [] = ⊥
IsAmong bytes (first ∷ others) = (first ≡ bytes) ⊎ IsAmong bytes others

among_left : (bytes : List ℕ) (some others : List (List ℕ)) → IsAmong bytes some → IsAmong bytes (some ++ others)
among_left bytes [] others h = absurd h
among_left bytes (first ∷ some) others (inl is) = inl is
among_left bytes (first ∷ some) others (inr h) = inr (among_left bytes some others h)

among_right : (bytes : List ℕ) (some others : List (List ℕ)) → IsAmong bytes others → IsAmong bytes (some ++ others)
among_right bytes [] others h = h
among_right bytes (first ∷ some) others h = inr (among_right bytes some others h)

among_from : (each : ℕ → List (List ℕ)) (bytes : List ℕ) (first count k : ℕ) → k < count → IsAmong bytes (each (first + k)) → IsAmong bytes (flat_map each (range_with_len first count))
among_from each bytes first zero k small h = absurd (omega arith)
among_from each bytes first (suc count) zero small h =
    let at : first + 0 ≡ first = omega arith in
    among_left bytes (each first) (flat_map each (range_with_len (first + 1) count)) (subst (λ (n : ℕ). IsAmong bytes (each n)) at h)
among_from each bytes first (suc count) (suc k) small h =
    let at : first + suc k ≡ first + 1 + k = omega arith in
    among_right bytes (each first) (flat_map each (range_with_len (first + 1) count))
    (among_from each bytes (first + 1) count k (omega arith) (subst (λ (n : ℕ). IsAmong bytes (each n)) at h))

-- one of the first numbers
among : (each : ℕ → List (List ℕ)) (bytes : List ℕ) (count k : ℕ) → k < count → IsAmong bytes (each k) → IsAmong bytes (flat_map each (range_with_len 0 count))
among each bytes count k small h =
    let at : k ≡ 0 + k = omega arith in
    among_from each bytes 0 count k small (subst (λ (n : ℕ). IsAmong bytes (each n)) at h)

-- where a test holds
among_where : (test : Bool) (bytes : List ℕ) (some : List (List ℕ)) → test ≡ true → IsAmong bytes some → IsAmong bytes (cond test some [])
among_where test bytes some holds h = subst (λ (b : Bool). IsAmong bytes (cond b some [])) (sym holds) h

scale_tried : (stem : List ℕ) (form : Form) (tail : List ℕ) (modrm scale sib : ℕ) (bytes : List ℕ) → 64 * scale + sib_low form.place ≡ sib → stem ++ (operand_bytes form.layout modrm sib (place_disp form.place) ++ tail) ≡ bytes → IsAmong bytes (by_scale stem form tail modrm scale)
unfolding by_scale
scale_tried stem form tail modrm scale sib bytes same is =
    inl (ap (λ s. stem ++ (operand_bytes form.layout modrm s (place_disp form.place) ++ tail)) same ∙ is)

scales_tried : (stem : List ℕ) (form : Form) (tail : List ℕ) (modrm sib : ℕ) (bytes : List ℕ) → sib < 256 → sib_low form.place ≡ sib % 64 → stem ++ (operand_bytes form.layout modrm sib (place_disp form.place) ++ tail) ≡ bytes → IsAmong bytes (by_scales stem form tail modrm)
unfolding by_scales
scales_tried stem form tail modrm sib bytes small low is =
    let same : 64 * (sib / 64) + sib_low form.place ≡ sib = omega arith in
    among (by_scale stem form tail modrm) bytes 4 (sib / 64) (omega arith) (scale_tried stem form tail modrm (sib / 64) sib bytes same is)

alone_tried : (stem : List ℕ) (form : Form) (tail : List ℕ) (modrm : ℕ) (bytes : List ℕ) → stem ++ (operand_bytes form.layout modrm 0 (place_disp form.place) ++ tail) ≡ bytes → IsAmong bytes (by_alone stem form tail modrm)
unfolding by_alone
alone_tried stem form tail modrm bytes is = inl is

-- a ModRM byte that fits, with the SIB byte that has the low bits of the operand
modrm_tried : (stem : List ℕ) (form : Form) (tail : List ℕ) (modrm sib : ℕ) (bytes : List ℕ) → sib < 256 → modrm_fits form modrm ≡ true → (asks_sib form.layout modrm ≡ true → sib_low form.place ≡ sib % 64) → stem ++ (operand_bytes form.layout modrm sib (place_disp form.place) ++ tail) ≡ bytes → IsAmong bytes (by_modrm stem form tail modrm)
unfolding by_modrm
modrm_tried stem form tail modrm sib bytes small fits low is =
    let P : Bool → Type 0 = λ b. IsAmong bytes (cond b (by_scales stem form tail modrm) (by_alone stem form tail modrm)) in
    among_where (modrm_fits form modrm) bytes (cond (asks_sib form.layout modrm) (by_scales stem form tail modrm) (by_alone stem form tail modrm)) fits
    (elim (cases_Bool (asks_sib form.layout modrm)) [
      | inl asks ↦ subst P (sym asks) (scales_tried stem form tail modrm sib bytes small (low asks) is)
      | inr none ↦ subst P (sym none) (alone_tried stem form tail modrm bytes
          (ap (λ o. stem ++ (o ++ tail)) (sym (operands_alone form.layout modrm sib (place_disp form.place) none)) ∙ is))
    ])

modrms_tried : (stem : List ℕ) (form : Form) (tail : List ℕ) (modrm : ℕ) (bytes : List ℕ) → modrm < 256 → IsAmong bytes (by_modrm stem form tail modrm) → IsAmong bytes (by_modrms stem form tail)
unfolding by_modrms
modrms_tried stem form tail modrm bytes small h = among (by_modrm stem form tail) bytes 256 modrm small h

pub stem_tried : (stem : List ℕ) (form : Form) (tail : List ℕ) (modrm sib : ℕ) (bytes : List ℕ) → is_plain_layout form.layout ≡ false → modrm < 256 → sib < 256 → modrm_fits form modrm ≡ true → (asks_sib form.layout modrm ≡ true → sib_low form.place ≡ sib % 64) → stem ++ (operand_bytes form.layout modrm sib (place_disp form.place) ++ tail) ≡ bytes → IsAmong bytes (by_stem stem form tail)
unfolding by_stem
stem_tried stem form tail modrm sib bytes behind byte small fits low is =
    subst (λ (b : Bool). IsAmong bytes (cond b (by_alone stem form tail 0) (by_modrms stem form tail))) (sym behind)
    (modrms_tried stem form tail modrm bytes byte (modrm_tried stem form tail modrm sib bytes small fits low is))

pub plain_tried : (stem : List ℕ) (form : Form) (tail : List ℕ) (bytes : List ℕ) → is_plain_layout form.layout ≡ true → stem ++ (operand_bytes form.layout 0 0 (place_disp form.place) ++ tail) ≡ bytes → IsAmong bytes (by_stem stem form tail)
unfolding by_stem
plain_tried stem form tail bytes plain is =
    subst (λ (b : Bool). IsAmong bytes (cond b (by_alone stem form tail 0) (by_modrms stem form tail))) (sym plain) (alone_tried stem form tail 0 bytes is)

front_tried : (instr : Instr) (map : Map) (opcode : ℕ) (row : TableRow) (narrow : Bool) (rex : Option ℕ) (bytes : List ℕ) → size_fits row.shape instr narrow rex ≡ true → IsAmong bytes (by_stem (stem_of instr map opcode narrow rex) (wanted_form row instr) (tail_of instr row)) → IsAmong bytes (by_front instr map opcode row narrow rex)
unfolding by_front
front_tried instr map opcode row narrow rex bytes fits h =
    among_where (size_fits row.shape instr narrow rex) bytes (by_stem (stem_of instr map opcode narrow rex) (wanted_form row instr) (tail_of instr row)) fits h

rex_tried : (instr : Instr) (map : Map) (opcode : ℕ) (row : TableRow) (narrow : Bool) (low rex : ℕ) (bytes : List ℕ) → 0x40 + low ≡ rex → IsAmong bytes (by_front instr map opcode row narrow (Some rex)) → IsAmong bytes (by_rex instr map opcode row narrow low)
unfolding by_rex
rex_tried instr map opcode row narrow low rex bytes is h = subst (λ (r : ℕ). IsAmong bytes (by_front instr map opcode row narrow (Some r))) (sym is) h

rexes_tried : (instr : Instr) (map : Map) (opcode : ℕ) (row : TableRow) (narrow : Bool) (rex : Option ℕ) (bytes : List ℕ) → IsRexOption rex → IsAmong bytes (by_front instr map opcode row narrow rex) → IsAmong bytes (by_rexes instr map opcode row narrow)
unfolding by_rexes
rexes_tried instr map opcode row narrow None bytes is h =
    among_left bytes (by_front instr map opcode row narrow None) (flat_map (by_rex instr map opcode row narrow) (range_with_len 0 16)) h
rexes_tried instr map opcode row narrow (Some rex) bytes is h =
    let low : 0x40 + (rex - 0x40) ≡ rex = omega (arith, is.0) in
    among_right bytes (by_front instr map opcode row narrow None) (flat_map (by_rex instr map opcode row narrow) (range_with_len 0 16))
    (among (by_rex instr map opcode row narrow) bytes 16 (rex - 0x40) (omega (arith, is.0, is.1)) (rex_tried instr map opcode row narrow (rex - 0x40) rex bytes low h))

row_tried : (instr : Instr) (map : Map) (opcode : ℕ) (row : TableRow) (narrow : Bool) (bytes : List ℕ) → IsAmong bytes (by_rexes instr map opcode row narrow) → IsAmong bytes (by_row instr map opcode row)
unfolding by_row
row_tried instr map opcode row false bytes h = among_left bytes (by_rexes instr map opcode row false) (by_rexes instr map opcode row true) h
row_tried instr map opcode row true bytes h = among_right bytes (by_rexes instr map opcode row false) (by_rexes instr map opcode row true) h

place_tried : (instr : Instr) (map : Map) (opcode place : ℕ) (row : TableRow) (bytes : List ℕ) → entry_row (entry_at map opcode) place ≡ Some row → row_fits instr opcode row ≡ true → IsAmong bytes (by_row instr map opcode row) → IsAmong bytes (by_place instr map opcode place)
unfolding by_place by_place_row
place_tried instr map opcode place row bytes is fits h =
    subst (λ (r : Option TableRow). IsAmong bytes (by_place_row instr map opcode r)) (sym is)
    (among_where (row_fits instr opcode row) bytes (by_row instr map opcode row) fits h)

opcode_tried : (instr : Instr) (map : Map) (opcode place : ℕ) (bytes : List ℕ) → place < places_of (entry_at map opcode) → IsAmong bytes (by_place instr map opcode place) → IsAmong bytes (by_opcode instr map opcode)
unfolding by_opcode
opcode_tried instr map opcode place bytes within h = among (by_place instr map opcode) bytes (places_of (entry_at map opcode)) place within h

map_tried : (instr : Instr) (map : Map) (opcode : ℕ) (bytes : List ℕ) → opcode < 256 → IsAmong bytes (by_opcode instr map opcode) → IsAmong bytes (by_map instr map)
unfolding by_map
map_tried instr map opcode bytes byte h = among (by_opcode instr map) bytes 256 opcode byte h

all_tried : (instr : Instr) (map : Map) (bytes : List ℕ) → IsAmong bytes (by_map instr map) → IsAmong bytes (candidates instr)
unfolding candidates
all_tried instr OneByte bytes h = among_left bytes (by_map instr OneByte) (by_map instr TwoByte) h
all_tried instr TwoByte bytes h = among_right bytes (by_map instr OneByte) (by_map instr TwoByte) h

-- a row at a place of its opcode, with prefixes that fit
pub tried_by_front : (instr : Instr) (map : Map) (opcode place : ℕ) (row : TableRow) (narrow : Bool) (rex : Option ℕ) (bytes : List ℕ) → opcode < 256 → place < places_of (entry_at map opcode) → entry_row (entry_at map opcode) place ≡ Some row → row_fits instr opcode row ≡ true → IsRexOption rex → size_fits row.shape instr narrow rex ≡ true → IsAmong bytes (by_stem (stem_of instr map opcode narrow rex) (wanted_form row instr) (tail_of instr row)) → IsAmong bytes (candidates instr)
tried_by_front instr map opcode place row narrow rex bytes byte within is fits known sizes h =
    all_tried instr map bytes (map_tried instr map opcode bytes byte (opcode_tried instr map opcode place bytes within
    (place_tried instr map opcode place row bytes is fits (row_tried instr map opcode row narrow bytes
    (rexes_tried instr map opcode row narrow rex bytes known (front_tried instr map opcode row narrow rex bytes sizes h))))))
