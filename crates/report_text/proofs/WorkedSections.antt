-- What has a line in the closing section, at worked values: a kind that is another, and an entry of another value.
use Rattle.std.proofs.Common.{◌≡◌, Bool, true, false, List, [], ◌∷◌, map, codes, refl}
use Rattle.std.specs.Fmt.{char_count, digits, padded_integral}
use Rattle.nk_bits.specs.declared.kind.Kind.{Kind}
use Rattle.nk_bits.specs.declared.kind.Kind.TheVariants.{Data, Code, Table, Fixed, Trap, Guarded, Hidden}
use Rattle.report_text.specs.ClosingSection.{is_same_kind, line_of_entry, line_of_kind}
use Rattle.report_text.specs.RunLines.{entry_line, hex_16, kind_line}

-- all kinds that a frame may have
abbrev kinds : List Kind
kinds = Data ∷ Code ∷ Table 1 ∷ Table 2 ∷ Table 3 ∷ Table 4 ∷ Fixed ∷ Trap ∷ Guarded ∷ Hidden ∷ []

-- each is itself and no other, page tables of two levels neither
abbrev row : Kind → List Bool
row one = map (is_same_kind one) kinds

same_kinds :
    (row Data ≡ true ∷ false ∷ false ∷ false ∷ false ∷ false ∷ false ∷ false ∷ false ∷ false ∷ []) ×
    (row Code ≡ false ∷ true ∷ false ∷ false ∷ false ∷ false ∷ false ∷ false ∷ false ∷ false ∷ []) ×
    (row (Table 1) ≡ false ∷ false ∷ true ∷ false ∷ false ∷ false ∷ false ∷ false ∷ false ∷ false ∷ []) ×
    (row (Table 2) ≡ false ∷ false ∷ false ∷ true ∷ false ∷ false ∷ false ∷ false ∷ false ∷ false ∷ []) ×
    (row (Table 3) ≡ false ∷ false ∷ false ∷ false ∷ true ∷ false ∷ false ∷ false ∷ false ∷ false ∷ []) ×
    (row (Table 4) ≡ false ∷ false ∷ false ∷ false ∷ false ∷ true ∷ false ∷ false ∷ false ∷ false ∷ []) ×
    (row Fixed ≡ false ∷ false ∷ false ∷ false ∷ false ∷ false ∷ true ∷ false ∷ false ∷ false ∷ []) ×
    (row Trap ≡ false ∷ false ∷ false ∷ false ∷ false ∷ false ∷ false ∷ true ∷ false ∷ false ∷ []) ×
    (row Guarded ≡ false ∷ false ∷ false ∷ false ∷ false ∷ false ∷ false ∷ false ∷ true ∷ false ∷ []) ×
    (row Hidden ≡ false ∷ false ∷ false ∷ false ∷ false ∷ false ∷ false ∷ false ∷ false ∷ true ∷ [])
same_kinds = (refl, refl, refl, refl, refl, refl, refl, refl, refl, refl)

-- so a frame that went from one to the other has its line, with the kind that it has now
lines_of_kinds :
    (line_of_kind (Table 1) (Table 2) 71 ≡ codes "f 71 table2\n") ×
    (line_of_kind (Table 2) (Table 1) 71 ≡ codes "f 71 table1\n") ×
    (line_of_kind (Table 4) (Table 4) 5 ≡ []) ×
    (line_of_kind Data (Table 1) 72 ≡ codes "f 72 table1\n") ×
    (line_of_kind (Table 4) Data 5 ≡ codes "f 5 data\n") ×
    (line_of_kind Data Guarded 72 ≡ codes "f 72 guarded\n") ×
    (line_of_kind Data Data 72 ≡ [])
unfolding kind_line digits
lines_of_kinds = (refl, refl, refl, refl, refl, refl, refl)

-- an entry whose value is another has its line with the new one, also where that is 0
lines_of_entries :
    (line_of_entry 0x8000000000047063 0x8000000000047021 70 71 ≡ codes "t 70 71 8000000000047021\n") ×
    (line_of_entry 0x8000000000047063 0 70 71 ≡ codes "t 70 71 0000000000000000\n") ×
    (line_of_entry 0 1 70 0 ≡ codes "t 70 0 0000000000000001\n") ×
    (line_of_entry 7 7 70 71 ≡ [])
unfolding entry_line hex_16 padded_integral char_count digits
lines_of_entries = (refl, refl, refl, refl)
