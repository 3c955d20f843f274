-- The byte strings that are tried, and what the best of them is.
use Rattle.std.specs.Prelude.{ℕ, ◌+◌, ◌*◌, ◌==◌, Bool, true, false, ◌&&◌, ◌||◌, not, nat_le, nat_lt, if◌then◌else◌, Option, Some, None, List, [], ◌∷◌, ◌++◌, length, fold}
use Rattle.std.specs.List.{flat_map, list_all, range_with_len}
use Rattle.x86_decode.specs.declared.instruction.Instr.{Instr}
use Rattle.x86_decode.specs.declared.reader.Map.{Map}
use Rattle.x86_decode.specs.declared.reader.Map.TheVariants.{OneByte, TwoByte}
use Rattle.x86_decode.specs.declared.row_list.TableRow.{TableRow}
use Rattle.x86_decode.specs.Grid.{entry_at}
use Rattle.x86_decode.specs.Meaning.{number_size}
use Rattle.x86_decode.specs.Reader.{decoded_of}
use Rattle.x86_decode.specs.RowList.{entry_row, places_of}
use Rattle.x86_decode.specs.Spelling.{opcode_bytes}
use Rattle.asm_text.specs.declared.fitting.Form.{Form}
use Rattle.asm_text.specs.Assembly.{front_of, number_bytes_of, operand_bytes}
use Rattle.asm_text.specs.Fitting.{asks_sib, wanted_form, is_plain_layout, modrm_fits, place_disp, row_fits, sib_low, size_fits}
use Rattle.asm_text.specs.LeastSpelling.{is_not_behind}
use Rattle.asm_text.specs.Sameness.{is_whole}

-- these are bytes, and spell the instruction, as the decoding says
unfoldable pub is_spelled : Instr → List ℕ → Bool
is_spelled instr bytes =
    list_all (λ byte. nat_lt byte 256) bytes
    && (nat_le (length bytes) 15 && is_whole instr (length bytes) (decoded_of bytes))

-- the bytes come before the best ones so far, of which there are none where they are empty
unfoldable pub improves : List ℕ → List ℕ → Bool
improves best bytes = length best == 0 || not (is_not_behind best bytes)

unfoldable pub better : Instr → List ℕ → List ℕ → List ℕ
better instr best bytes = if improves best bytes && is_spelled instr bytes then bytes else best

-- the best of what is tried, behind a best one so far
unfoldable pub best_of : Instr → List ℕ → List (List ℕ) → List ℕ
best_of instr best tried = fold (better instr) best tried

-- the bytes in front of ModRM, ModRM with SIB of this scale, and the bytes of the number
unfoldable pub by_scale : List ℕ → Form → List ℕ → ℕ → ℕ → List (List ℕ)
by_scale stem form tail modrm scale =
    (stem ++ (operand_bytes form.layout modrm (64 * scale + sib_low form.place) (place_disp form.place) ++ tail)) ∷ []

unfoldable pub by_scales : List ℕ → Form → List ℕ → ℕ → List (List ℕ)
by_scales stem form tail modrm = flat_map (by_scale stem form tail modrm) (range_with_len 0 4)

-- without SIB, or without ModRM at all
unfoldable pub by_alone : List ℕ → Form → List ℕ → ℕ → List (List ℕ)
by_alone stem form tail modrm = (stem ++ (operand_bytes form.layout modrm 0 (place_disp form.place) ++ tail)) ∷ []

unfoldable pub by_modrm : List ℕ → Form → List ℕ → ℕ → List (List ℕ)
by_modrm stem form tail modrm =
    if modrm_fits form modrm
    then (if asks_sib form.layout modrm then by_scales stem form tail modrm else by_alone stem form tail modrm)
    else []

unfoldable pub by_modrms : List ℕ → Form → List ℕ → List (List ℕ)
by_modrms stem form tail = flat_map (by_modrm stem form tail) (range_with_len 0 256)

unfoldable pub by_stem : List ℕ → Form → List ℕ → List (List ℕ)
by_stem stem form tail = if is_plain_layout form.layout then by_alone stem form tail 0 else by_modrms stem form tail

-- the bytes in front of ModRM
abbrev pub stem_of : Instr → Map → ℕ → Bool → Option ℕ → List ℕ
stem_of instr map opcode narrow rex = front_of narrow instr.lock instr.rep rex ++ opcode_bytes map opcode

-- the bytes of the number
abbrev pub tail_of : Instr → TableRow → List ℕ
tail_of instr row = number_bytes_of (number_size row.shape.number instr.width) instr.value

unfoldable pub by_front : Instr → Map → ℕ → TableRow → Bool → Option ℕ → List (List ℕ)
by_front instr map opcode row narrow rex =
    if size_fits row.shape instr narrow rex
    then by_stem (stem_of instr map opcode narrow rex) (wanted_form row instr) (tail_of instr row)
    else []

-- REX 40 to 4F
unfoldable pub by_rex : Instr → Map → ℕ → TableRow → Bool → ℕ → List (List ℕ)
by_rex instr map opcode row narrow low = by_front instr map opcode row narrow (Some (0x40 + low))

unfoldable pub by_rexes : Instr → Map → ℕ → TableRow → Bool → List (List ℕ)
by_rexes instr map opcode row narrow =
    by_front instr map opcode row narrow None ++ flat_map (by_rex instr map opcode row narrow) (range_with_len 0 16)

unfoldable pub by_row : Instr → Map → ℕ → TableRow → List (List ℕ)
by_row instr map opcode row = by_rexes instr map opcode row false ++ by_rexes instr map opcode row true

unfoldable pub by_place_row : Instr → Map → ℕ → Option TableRow → List (List ℕ)
by_place_row instr map opcode None = []
by_place_row instr map opcode (Some row) = if row_fits instr opcode row then by_row instr map opcode row else []

unfoldable pub by_place : Instr → Map → ℕ → ℕ → List (List ℕ)
by_place instr map opcode place = by_place_row instr map opcode (entry_row (entry_at map opcode) place)

unfoldable pub by_opcode : Instr → Map → ℕ → List (List ℕ)
by_opcode instr map opcode = flat_map (by_place instr map opcode) (range_with_len 0 (places_of (entry_at map opcode)))

unfoldable pub by_map : Instr → Map → List (List ℕ)
by_map instr map = flat_map (by_opcode instr map) (range_with_len 0 256)

-- all that is tried
unfoldable pub candidates : Instr → List (List ℕ)
candidates instr = by_map instr OneByte ++ by_map instr TwoByte
