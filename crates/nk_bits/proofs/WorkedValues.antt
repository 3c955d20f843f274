-- The definitions at worked values.
use Rattle.std.proofs.Common.{◌≡◌, ℕ, ◌+◌, Bool, true, false, ◌==◌, ◌&&◌, refl}
use Rattle.std.specs.Prelude.{Ok, Err, if◌then◌else◌}
use Rattle.nk_bits.specs.declared.leaf.Rights.{Rights}
use Rattle.nk_bits.specs.declared.kind.Kind.TheVariants.{Data, Code, Table, Trap, Hidden}
use Rattle.nk_bits.specs.Paging.{page_of, page_index, is_canonical, is_present, grants_writes, is_user, grants_fetches, is_large, frame_of, is_missing, walk}
use Rattle.nk_bits.specs.EntryForms.{has_form, has_table_form, has_leaf_form}
use Rattle.nk_bits.specs.Kinds.{allows}
use Rattle.nk_bits.specs.AccessRights.{may}
use Rattle.nk_bits.specs.declared.access.Access.TheVariants.{Read, Write, Fetch}

-- the address of the gate's text, FFFFFF8000001000, and one of the direct map, FFFF800000047000
gate : ℕ
gate = 18446743523953741824

mapped : ℕ
mapped = 18446603336221487104

gate_indices : (page_index (page_of gate) 4 ≡ 511) × (page_index (page_of gate) 3 ≡ 0) × (page_index (page_of gate) 2 ≡ 0) × (page_index (page_of gate) 1 ≡ 1)
unfolding page_index gate
gate_indices = (refl, refl, refl, refl)

mapped_indices : (page_index (page_of mapped) 4 ≡ 256) × (page_index (page_of mapped) 3 ≡ 0) × (page_index (page_of mapped) 2 ≡ 0) × (page_index (page_of mapped) 1 ≡ 71)
unfolding page_index mapped
mapped_indices = (refl, refl, refl, refl)

-- the last and first canonical addresses of the two halves, and their neighbours
canonical_ends : (is_canonical 140737488355327 ≡ true) × (is_canonical 140737488355328 ≡ false) × (is_canonical 18446603336221196287 ≡ false) × (is_canonical 18446603336221196288 ≡ true)
canonical_ends = (refl, refl, refl, refl)

-- the entry 6027 names table 6 and grants all; 8000000000003063 is the leaf of a stack: writable, neither user nor executable
table_entry : (frame_of 24615 ≡ 6) × (is_present 24615 ≡ true) × (grants_writes 24615 ≡ true) × (is_user 24615 ≡ true) × (grants_fetches 24615 ≡ true) × (is_large 24615 ≡ false)
unfolding frame_of is_present grants_writes is_user grants_fetches is_large
table_entry = (refl, refl, refl, refl, refl, refl)

stack_entry : (frame_of 9223372036854788195 ≡ 3) × (is_present 9223372036854788195 ≡ true) × (grants_writes 9223372036854788195 ≡ true) × (is_user 9223372036854788195 ≡ false) × (grants_fetches 9223372036854788195 ≡ false)
unfolding frame_of is_present grants_writes is_user grants_fetches
stack_entry = (refl, refl, refl, refl, refl)

-- the tables of the nested area: 5 names 6 at 511, 6 names 7 at 0, 7 names 8 at 0, and 8 maps the gate's text at 1
nested_area : ℕ → ℕ → ℕ
nested_area f i =
    if f == 5 && i == 511 then 24615 else
    if f == 6 && i == 0 then 28711 else
    if f == 7 && i == 0 then 32807 else
    if f == 8 && i == 1 then 4129 else 0

gate_walk : walk nested_area 512 5 (page_of gate) ≡ Ok (record { frame = 1; rights = record { can_write = false; user = false; exec = true } })
unfolding walk nested_area gate page_index is_missing is_present frame_of is_large grants_writes is_user grants_fetches
gate_walk = refl

-- the page after it has no leaf, another slot has no table, and a frame outside memory counts as missing
missing_walks : (walk nested_area 512 5 (page_of gate + 1) ≡ Err 1) × (walk nested_area 512 5 0 ≡ Err 4) × (walk nested_area 8 5 (page_of gate) ≡ Err 2)
unfolding walk nested_area gate page_index is_missing is_present frame_of is_large grants_writes is_user grants_fetches
missing_walks = (refl, refl, refl)

-- what a leaf may grant: Data takes a user or a non-executable page, a stack a writable one alone, a table neither, Hidden none
rights : Bool → Bool → Bool → Rights
rights w u x = record { can_write = w; user = u; exec = x }

kinds_and_rights :
    (allows Data (rights true true true) ≡ true) × (allows Data (rights true false false) ≡ true) × (allows Data (rights false false true) ≡ false) ×
    (allows (Table 1) (rights false false false) ≡ true) × (allows (Table 1) (rights true false false) ≡ false) × (allows Code (rights false false true) ≡ false) ×
    (allows Trap (rights true false false) ≡ true) × (allows Trap (rights true true false) ≡ false) × (allows Hidden (rights false false false) ≡ false)
unfolding rights
kinds_and_rights = (refl, refl, refl, refl, refl, refl, refl, refl, refl)

-- the supervisor writes to a read-only page where WP is clear alone, and SMEP keeps it from executing a user page
judged :
    (may Write (rights false false false) 0 true true ≡ false) × (may Write (rights false false false) 0 false true ≡ true) ×
    (may Write (rights true false false) 3 true true ≡ false) × (may Read (rights false false false) 3 true true ≡ false) ×
    (may Fetch (rights false true true) 0 true true ≡ false) × (may Fetch (rights false true true) 0 true false ≡ true) × (may Fetch (rights false true true) 3 true true ≡ true)
unfolding rights
judged = (refl, refl, refl, refl, refl, refl, refl)

-- the values of the opening are in form; a writable leaf without D, a table without A, and XD in a table are not
forms :
    (has_form 4 24615 ≡ true) × (has_form 1 9223372036854788195 ≡ true) × (has_form 1 4129 ≡ true) × (has_form 1 9223372036854796325 ≡ true) ×
    (has_form 1 4131 ≡ false) × (has_form 2 24583 ≡ false) × (has_form 3 9223372036854800423 ≡ false) × (has_form 1 0 ≡ false)
unfolding has_table_form has_leaf_form is_present grants_writes
forms = (refl, refl, refl, refl, refl, refl, refl, refl)
