-- The calls on page tables at worked values: the rules in their order, the tables after each, and memory.
use Rattle.std.proofs.Common.{◌≡◌, ℕ, true, false, not, ◌==◌, ◌&&◌, ◌||◌, None, Some, List, [], ◌∷◌, replicate, ap, refl, ◌∙◌}
use Rattle.std.specs.Prelude.{if◌then◌else◌}
use Rattle.nk_bits.specs.declared.kind.Kind.{Kind}
use Rattle.nk_bits.specs.declared.kind.Kind.TheVariants.{Data, Guarded, Table, Trap}
use Rattle.nk_bits.specs.declared.rule.Rule.TheVariants.{BadBits, BadFrame, BadIndex, BadLevel, BadTarget, KernelSlot, NotData, NotEmpty, NotRoot, NotTable, StillLinked, StillLoose, TooFree}
use Rattle.nk_bits.specs.EntryForms.{has_leaf_form, has_table_form}
use Rattle.nk_bits.specs.Paging.{emptied, frame_of, grants_fetches, grants_writes, is_present, is_user, replaced, slot_value, zeroed}
use Rattle.page_desc.specs.PageTables.{Tables, links_of, loose_of}
use Rattle.phys_mem.specs.Memory.{byte_at, frame_zeroed, patched, stored, stores}
use Rattle.table_rules.specs.ValueRules.{broken, value_rule}
use Rattle.vmmu.specs.TableCalls.{declare_rule, declared, entry_rule, entry_written, is_filled, is_outside, level_at, memory_declared, memory_removed, memory_written, remove_rule, removed, root_loaded, root_rule}

-- eight frames: frame 1 holds a table of level 1, 2 one of level 2, 3 the root, 4 another table of level 4, 5 one of level 3
abbrev kinds : List Kind
kinds = Data ∷ Table 1 ∷ Table 2 ∷ Table 4 ∷ Table 4 ∷ Table 3 ∷ Guarded ∷ Trap ∷ []

-- frame 1 has a leaf at its entry 511, 2 a link at its entry 0, the tables of level 4 the kernel slot's entry alone, and 5 what
-- isn't present
entries : ℕ → ℕ → ℕ
entries f i =
    if f == 1 && i == 511 then 0x8000000000000021
    else if f == 2 && i == 0 then 0x1027
    else if (f == 3 || f == 4) && i == 511 then 0x6027
    else if f == 5 then 0x2026
    else 0

abbrev tables : Tables
tables = record { kinds = kinds; entries = entries; fixed = λ f i. 0; root = 3 }

-- memory has eight frames, and each frame's table the level of its kind
levels :
    (is_outside tables 7 ≡ false) × (is_outside tables 8 ≡ true) × (level_at tables 0 ≡ 0) × (level_at tables 1 ≡ 1) × (level_at tables 3 ≡ 4) ×
    (level_at tables 6 ≡ 0) × (level_at tables 8 ≡ 0)
levels = (refl, refl, refl, refl, refl, refl, refl)

-- declaring: the frame, the level and the kind in this order
declare_rules :
    (declare_rule tables 0 8 ≡ Some BadFrame) × (declare_rule tables 1 8 ≡ Some BadFrame) × (declare_rule tables 0 0 ≡ Some BadLevel) ×
    (declare_rule tables 5 0 ≡ Some BadLevel) × (declare_rule tables 5 1 ≡ Some BadLevel) × (declare_rule tables 1 1 ≡ Some NotData) ×
    (declare_rule tables 4 6 ≡ Some NotData) × (declare_rule tables 4 7 ≡ Some NotData)
unfolding declare_rule
declare_rules = (refl, refl, refl, refl, refl, refl, refl, refl)

-- whatever the entries are: a frame of data that no loose leaf names becomes a table of each level, and one with a loose leaf
-- of none; a table goes that no link names, that isn't the root, and that is empty
module _ (entries fixed : ℕ → ℕ → ℕ) where
  abbrev any : Tables
  any = record { kinds = kinds; entries = entries; fixed = fixed; root = 3 }

  declares : loose_of any 0 ≡ 0 → (declare_rule any 1 0 ≡ None) × (declare_rule any 4 0 ≡ None)
  unfolding declare_rule
  declares none = (ap (λ n. broken (not (n == 0)) StillLoose None) none, ap (λ n. broken (not (n == 0)) StillLoose None) none)

  keeps_data : loose_of any 0 ≡ 1 → (declare_rule any 1 0 ≡ Some StillLoose) × (declare_rule any 5 0 ≡ Some BadLevel)
  unfolding declare_rule
  keeps_data one = (ap (λ n. broken (not (n == 0)) StillLoose None) one, refl)

  removes : links_of any 1 ≡ 0 → is_filled any 1 ≡ false → remove_rule any 1 ≡ None
  unfolding remove_rule
  removes none empty =
      ap (λ n. broken (not (n == 0) || false) StillLinked (broken (is_filled any 1) NotEmpty None)) none
      ∙ ap (λ b. broken b NotEmpty None) empty

  keeps_filled : links_of any 1 ≡ 0 → is_filled any 1 ≡ true → remove_rule any 1 ≡ Some NotEmpty
  unfolding remove_rule
  keeps_filled none filled =
      ap (λ n. broken (not (n == 0) || false) StillLinked (broken (is_filled any 1) NotEmpty None)) none
      ∙ ap (λ b. broken b NotEmpty None) filled

  keeps_linked : links_of any 1 ≡ 1 → remove_rule any 1 ≡ Some StillLinked
  unfolding remove_rule
  keeps_linked one = ap (λ n. broken (not (n == 0) || false) StillLinked (broken (is_filled any 1) NotEmpty None)) one

  keeps_root : links_of any 3 ≡ 0 → remove_rule any 3 ≡ Some StillLinked
  unfolding remove_rule
  keeps_root none = ap (λ n. broken (not (n == 0) || true) StillLinked (broken (is_filled any 3) NotEmpty None)) none

  -- the frame and its kind come first
  others_stay : (remove_rule any 8 ≡ Some BadFrame) × (remove_rule any 0 ≡ Some NotTable) × (remove_rule any 7 ≡ Some NotTable)
  unfolding remove_rule
  others_stay = (refl, refl, refl)

-- tables with one entry more
abbrev with_entry : ℕ → ℕ → ℕ → Tables
with_entry f i e = record tables { entries = replaced entries f i e }

-- a table is filled by its first entry and by its last, but by the kernel slot's at level 4
filled :
    (is_filled tables 1 ≡ true) × (is_filled tables 2 ≡ true) × (is_filled tables 3 ≡ false) × (is_filled tables 5 ≡ false) ×
    (is_filled (with_entry 3 510 0x5027) 3 ≡ true) × (is_filled (with_entry 3 0 0x5027) 3 ≡ true) × (is_filled (with_entry 5 511 0x2027) 5 ≡ true) ×
    (is_filled (with_entry 4 512 0x5027) 4 ≡ false)
unfolding is_filled entries replaced is_present
filled = (refl, refl, refl, refl, refl, refl, refl, refl)

-- writing an entry: the frame, its kind, the index, the kernel slot's entry at level 4, and then the value
entry_rules :
    (entry_rule tables 8 512 1 ≡ Some BadFrame) × (entry_rule tables 0 512 1 ≡ Some NotTable) × (entry_rule tables 6 0 0 ≡ Some NotTable) ×
    (entry_rule tables 1 512 0 ≡ Some BadIndex) × (entry_rule tables 3 512 1 ≡ Some BadIndex) × (entry_rule tables 3 511 1 ≡ Some KernelSlot) ×
    (entry_rule tables 4 511 0x6027 ≡ Some KernelSlot) × (entry_rule tables 3 511 0 ≡ Some KernelSlot) × (entry_rule tables 3 510 0x5027 ≡ None) ×
    (entry_rule tables 5 511 0x2027 ≡ None) × (entry_rule tables 2 0 0x1027 ≡ None) × (entry_rule tables 2 0 0x2027 ≡ Some BadTarget) ×
    (entry_rule tables 1 511 0x8000000000000063 ≡ None) × (entry_rule tables 1 0 0x8000000000001063 ≡ Some TooFree) ×
    (entry_rule tables 1 0 0x8000000000000121 ≡ Some BadBits) × (entry_rule tables 1 0 0 ≡ None)
unfolding entry_rule value_rule has_leaf_form has_table_form frame_of is_present is_user grants_writes grants_fetches
entry_rules = (refl, refl, refl, refl, refl, refl, refl, refl, refl, refl, refl, refl, refl, refl, refl, refl)

-- a root is a table of level 4, the one that is loaded among them
root_rules :
    (root_rule tables 3 ≡ None) × (root_rule tables 4 ≡ None) × (root_rule tables 5 ≡ Some NotRoot) × (root_rule tables 1 ≡ Some NotRoot) ×
    (root_rule tables 0 ≡ Some NotRoot) × (root_rule tables 8 ≡ Some BadFrame)
unfolding root_rule
root_rules = (refl, refl, refl, refl, refl, refl)

-- a new table of level 4 has the kernel slot's entry, 6027, and else none; one of level 3 has none
tables_declared :
    ((declared tables 4 0).kinds ≡ Table 4 ∷ Table 1 ∷ Table 2 ∷ Table 4 ∷ Table 4 ∷ Table 3 ∷ Guarded ∷ Trap ∷ []) ×
    ((declared tables 4 0).entries 0 511 ≡ 0x6027) × ((declared tables 4 0).entries 0 510 ≡ 0) × ((declared tables 4 0).entries 0 0 ≡ 0) ×
    ((declared tables 4 0).entries 2 0 ≡ 0x1027) × ((declared tables 4 0).root ≡ 3) × ((declared tables 3 0).entries 0 511 ≡ 0) ×
    ((declared tables 1 1).entries 1 511 ≡ 0)
unfolding emptied slot_value entries
tables_declared = (refl, refl, refl, refl, refl, refl, refl, refl)

-- one entry is written; a removed table is data without entries; a root is loaded
tables_after :
    ((entry_written tables 1 511 7).entries 1 511 ≡ 7) × ((entry_written tables 1 511 7).entries 1 510 ≡ 0) ×
    ((entry_written tables 1 511 7).entries 2 0 ≡ 0x1027) × ((entry_written tables 1 511 7).kinds ≡ kinds) × ((entry_written tables 1 511 7).root ≡ 3) ×
    ((removed tables 4).kinds ≡ Data ∷ Table 1 ∷ Table 2 ∷ Table 4 ∷ Data ∷ Table 3 ∷ Guarded ∷ Trap ∷ []) ×
    ((removed tables 4).entries 4 511 ≡ 0) × ((removed tables 4).entries 3 511 ≡ 0x6027) × ((removed tables 4).root ≡ 3) ×
    ((root_loaded tables 4).root ≡ 4) × ((root_loaded tables 4).kinds ≡ kinds) × ((root_loaded tables 4).entries 1 511 ≡ 0x8000000000000021)
unfolding replaced zeroed entries
tables_after = (refl, refl, refl, refl, refl, refl, refl, refl, refl, refl, refl, refl)

-- memory of two frames, each byte 170
abbrev memory : List ℕ
memory = replicate 8192 170

-- the second frame is zeroed and ends with 6027, least byte first; at level 3 it ends with zeros; the first frame stays
memory_after_declaring :
    (byte_at (memory_declared memory 4 1) 4095 ≡ 170) × (byte_at (memory_declared memory 4 1) 4096 ≡ 0) × (byte_at (memory_declared memory 4 1) 8183 ≡ 0) ×
    (byte_at (memory_declared memory 4 1) 8184 ≡ 0x27) × (byte_at (memory_declared memory 4 1) 8185 ≡ 0x60) × (byte_at (memory_declared memory 4 1) 8191 ≡ 0) ×
    (byte_at (memory_declared memory 3 1) 8184 ≡ 0) × (byte_at (memory_declared memory 3 0) 4096 ≡ 170)
unfolding frame_zeroed patched stored stores slot_value
memory_after_declaring = (refl, refl, refl, refl, refl, refl, refl, refl)

-- eight bytes are written, least first; a frame is zeroed
memory_after_others :
    (byte_at (memory_written memory 1 1 0x8000000000002063) 4103 ≡ 170) × (byte_at (memory_written memory 1 1 0x8000000000002063) 4104 ≡ 0x63) ×
    (byte_at (memory_written memory 1 1 0x8000000000002063) 4105 ≡ 0x20) × (byte_at (memory_written memory 1 1 0x8000000000002063) 4111 ≡ 0x80) ×
    (byte_at (memory_written memory 1 1 0x8000000000002063) 4112 ≡ 170) × (byte_at (memory_written memory 0 511 7) 4088 ≡ 7) ×
    (byte_at (memory_removed memory 1) 4095 ≡ 170) × (byte_at (memory_removed memory 1) 4096 ≡ 0) × (byte_at (memory_removed memory 1) 8191 ≡ 0) ×
    (byte_at (memory_removed memory 0) 4096 ≡ 170)
unfolding frame_zeroed patched stored stores
memory_after_others = (refl, refl, refl, refl, refl, refl, refl, refl, refl, refl)
