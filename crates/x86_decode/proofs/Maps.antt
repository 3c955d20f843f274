-- The code's opcode maps and the table have the same rows at each opcode.
use Rattle.std.proofs.Common.{◌≡◌, ℕ, ◌<◌, [], get_or, refl, sym, ap, ◌∙◌, zero-add}
use Rattle.std.proofs.lemmas.List.FromFn.{get_or-map-range_with_len}
use Rattle.std.specs.Prelude.{map}
use Rattle.std.specs.List.{range_with_len}
use Rattle.x86_decode.specs.declared.reader.Map.{Map}
use Rattle.x86_decode.specs.declared.reader.Map.TheVariants.{OneByte, TwoByte}
use Rattle.x86_decode.specs.OpcodeTable.{rows_at, one_byte_table, two_byte_table}
use Rattle.x86_decode.specs.Grid.{entry_at, entry_rows, slots_from}

one_byte_same : map (λ opcode. rows_at OneByte opcode) (range_with_len 0 256) ≡ map (λ opcode. entry_rows (entry_at OneByte opcode)) (range_with_len 0 256)
unfolding entry_at slots_from one_byte_table
one_byte_same = refl

two_byte_same : map (λ opcode. rows_at TwoByte opcode) (range_with_len 0 256) ≡ map (λ opcode. entry_rows (entry_at TwoByte opcode)) (range_with_len 0 256)
unfolding entry_at slots_from two_byte_table
two_byte_same = refl

one_byte_at : (opcode : ℕ) → opcode < 256 → rows_at OneByte opcode ≡ entry_rows (entry_at OneByte opcode)
one_byte_at opcode byte =
    sym (get_or-map-range_with_len (λ o. rows_at OneByte o) 0 256 opcode opcode [] byte (zero-add opcode))
    ∙ (ap (λ l. get_or l opcode []) one_byte_same ∙ get_or-map-range_with_len (λ o. entry_rows (entry_at OneByte o)) 0 256 opcode opcode [] byte (zero-add opcode))

two_byte_at : (opcode : ℕ) → opcode < 256 → rows_at TwoByte opcode ≡ entry_rows (entry_at TwoByte opcode)
two_byte_at opcode byte =
    sym (get_or-map-range_with_len (λ o. rows_at TwoByte o) 0 256 opcode opcode [] byte (zero-add opcode))
    ∙ (ap (λ l. get_or l opcode []) two_byte_same ∙ get_or-map-range_with_len (λ o. entry_rows (entry_at TwoByte o)) 0 256 opcode opcode [] byte (zero-add opcode))

-- at each opcode the table has the rows of the code's entry
pub rows_same : (where_from : Map) (opcode : ℕ) → opcode < 256 → rows_at where_from opcode ≡ entry_rows (entry_at where_from opcode)
rows_same OneByte opcode byte = one_byte_at opcode byte
rows_same TwoByte opcode byte = two_byte_at opcode byte
