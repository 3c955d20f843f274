-- The definitions at worked values: which entries count, which frames hold the kernel slot's leaves, which entries are lawful.
use Rattle.std.proofs.Common.{◌≡◌, ◌==◌, ◌&&◌, ℕ, true, false, List, [], ◌∷◌, refl}
use Rattle.std.specs.Prelude.{if◌then◌else◌}
use Rattle.nk_bits.specs.declared.kind.Kind.{Kind}
use Rattle.nk_bits.specs.declared.kind.Kind.TheVariants.{Data, Fixed, Table, Trap}
use Rattle.nk_bits.specs.EntryForms.{has_leaf_form, has_table_form}
use Rattle.nk_bits.specs.Paging.{frame_of, grants_fetches, is_present, is_user, grants_writes, slot_value}
use Rattle.page_desc.specs.FrameCounts.{count_in, holds_leaves, holds_links, is_link_to, is_loose, is_loose_leaf, is_slot_leaf_table, sum_below}
use Rattle.page_desc.specs.SoundTables.{is_lawful}

-- 2063 and 2025 are loose leaves of frame 2, the one writable and the other user; 2021 is neither, and 2066 isn't present
loose_leaves :
    (is_loose_leaf 2 9223372036854784099 ≡ true) × (is_loose_leaf 2 8229 ≡ true) × (is_loose_leaf 3 8229 ≡ false) ×
    (is_loose 8225 ≡ false) × (is_loose 8294 ≡ false) × (is_link_to 2 8225 ≡ true) × (is_link_to 2 8294 ≡ false)
unfolding frame_of is_present is_user grants_writes
loose_leaves = (refl, refl, refl, refl, refl, refl, refl)

-- tables in which frame 9 names 10 by its last entry, and 11 by an entry that isn't present
tables : ℕ → ℕ → ℕ
tables f i = if f == 9 && i == 511 then 40999 else if f == 9 && i == 7 then 45094 else if f == 1 then 8229 else 0

kinds : List Kind
kinds = Data ∷ Table 1 ∷ Data ∷ Table 2 ∷ Trap ∷ Table 4 ∷ Fixed ∷ Table 3 ∷ []

slot_tables :
    (is_slot_leaf_table tables 8 ≡ true) × (is_slot_leaf_table tables 10 ≡ true) × (is_slot_leaf_table tables 11 ≡ false) ×
    (holds_leaves kinds tables 1 ≡ true) × (holds_leaves kinds tables 2 ≡ false) × (holds_leaves kinds tables 10 ≡ true) ×
    (holds_links kinds 3 ≡ true) × (holds_links kinds 1 ≡ false) × (holds_links kinds 5 ≡ true) × (holds_links kinds 6 ≡ false)
unfolding is_slot_leaf_table holds_leaves holds_links frame_of is_present tables kinds
slot_tables = (refl, refl, refl, refl, refl, refl, refl, refl, refl, refl)

-- a table whose entries all name frame 2, and nothing else
counts : (count_in 3 5 (λ f. f == 1) (is_loose_leaf 2) tables ≡ 5) × (count_in 3 5 (λ f. f == 2) (is_loose_leaf 2) tables ≡ 0) × (count_in 3 5 (λ f. f == 1) (is_loose_leaf 0) tables ≡ 0)
unfolding count_in sum_below frame_of is_present is_user grants_writes tables
counts = (refl, refl, refl)

-- a leaf of Data may be writable, one of the table in frame 1 may not; a link of level 2 names a table of level 1 with every
-- right; each has A, and a writable leaf D, none G, and no link PS; bits 9 to 11 are free; the last entry of a table of level 4
-- is the slot's
lawful :
    (is_lawful kinds 1 0 9223372036854784099 ≡ true) × (is_lawful kinds 1 511 9223372036854780003 ≡ false) × (is_lawful kinds 1 0 9223372036854779937 ≡ true) ×
    (is_lawful kinds 2 0 4135 ≡ true) × (is_lawful kinds 3 0 4135 ≡ false) × (is_lawful kinds 2 0 4133 ≡ false) × (is_lawful kinds 2 0 4134 ≡ true) ×
    (is_lawful kinds 4 511 24615 ≡ true) × (is_lawful kinds 4 511 0 ≡ false) × (is_lawful kinds 3 511 24615 ≡ false) × (is_lawful kinds 4 510 28711 ≡ true) ×
    (is_lawful kinds 1 0 9223372036854784067 ≡ false) × (is_lawful kinds 1 0 9223372036854784035 ≡ false) × (is_lawful kinds 1 0 9223372036854784355 ≡ false) ×
    (is_lawful kinds 2 0 4103 ≡ false) × (is_lawful kinds 2 0 4263 ≡ false) × (is_lawful kinds 1 0 9223372036854787683 ≡ true)
unfolding is_lawful slot_value has_leaf_form has_table_form frame_of is_present is_user grants_writes grants_fetches kinds
lawful = (refl, refl, refl, refl, refl, refl, refl, refl, refl, refl, refl, refl, refl, refl, refl, refl, refl)
