-- The carried counts stay those of the tables where a frame of data becomes a new table, and where an empty one becomes
-- data: but for the kernel slot's entry of a table of level 4 nothing counts.
use Rattle.std.proofs.Common.{◌≡◌, ◌≢◌, ℕ, ◌<◌, ◌≤◌, true, false, ◌&&◌, ◌==◌, length, set, arith, refl, ap, ◌∙◌}
use Rattle.std.proofs.lemmas.List.{length-set}
use Rattle.std.proofs.lemmas.Bool.{and_from, and_right, both_ways, cond-false, cond-true, eq-eqb, ne_eqb}
use Rattle.nk_bits.specs.declared.kind.Kind.TheVariants.{Data, Table}
use Rattle.nk_bits.specs.Kinds.{kind_of, level_of}
use Rattle.nk_bits.specs.Paging.{emptied, is_present, is_slot_entry, slot_value, zeroed}
use Rattle.page_desc.specs.FrameCounts.{IsSlotFixed, is_link_level, is_link_to, is_loose_leaf, links_in, loose_in, count_if}
use Rattle.page_desc.specs.FrameDescriptors.{AreCounted, Descriptors, IsReplaced, last_value}
use Rattle.page_desc.proofs.KindChanges.{absent_zero, link_absent, loose_absent}
use Rattle.page_desc.proofs.NewTables.{last_link, leaf_row, links_emptied, links_zeroed, loose_emptied, loose_zeroed, not_lower}

pub last_slot : (level : ℕ) → level ≡ 4 → last_value level ≡ slot_value
last_slot level four = cond-true (level == 4) slot_value 0 (eq-eqb level 4 four)

last_absent : (level : ℕ) → level ≢ 4 → is_present (last_value level) ≡ false
last_absent level other = ap is_present (cond-false (level == 4) slot_value 0 (ne_eqb level 4 other)) ∙ absent_zero

-- the last entry's value counts for frame 6 alone, and at level 4 alone
last_leaf : (level frame : ℕ) → (level == 1 && is_loose_leaf frame (last_value level)) ≡ false
last_leaf level frame =
    leaf_row level 511 frame (last_value level) (λ other. last_absent level (λ four. both_ways (is_slot_entry level 511) other (and_from (level == 4) true (eq-eqb level 4 four) refl)))

-- a frame of data was made a table, and the last entry counted
pub counted_new_table : (before after : Descriptors) (t : ℕ → ℕ → ℕ) (a level : ℕ) → AreCounted before t
    → IsSlotFixed before.kinds t → a < length before.kinds → kind_of before.kinds a ≡ Data → level ≤ 4
    → IsReplaced level 0 (last_value level) (record before { kinds = set before.kinds a (Table level) }) after → AreCounted after (emptied t a level)
counted_new_table before after t a level counted fixed inside free most change =
    let size : length after.kinds ≡ length before.kinds =
    ap length change.kinds ∙ length-set before.kinds a (Table level) in
    record {
      loose = λ frame within.
          let same = ap (λ kinds. loose_in kinds (emptied t a level) frame) change.kinds in
          let old : count_if (level == 1 && is_loose_leaf frame 0) ≡ 0 =
          ap count_if (and_right (level == 1) _ (loose_absent frame 0 absent_zero)) in
          let new : count_if (level == 1 && is_loose_leaf frame (last_value level)) ≡ 0 =
          ap count_if (last_leaf level frame) in
          omega (
            arith,
            same,
            old,
            new,
            counted.loose frame (omega (arith, within, size)),
            change.loose frame (omega (arith, within, ap length change.kinds)),
            loose_emptied before.kinds t a level fixed inside free most frame,
          );
      links = λ frame within.
          let same = ap (λ kinds. links_in kinds (emptied t a level) frame) change.kinds in
          let old : count_if (is_link_level level && is_link_to frame 0) ≡ 0 =
          ap count_if (and_right (is_link_level level) _ (link_absent frame 0 absent_zero)) in
          let new : count_if (is_link_level level && is_link_to frame (last_value level)) ≡ count_if (level == 4 && frame == 6) =
          ap count_if (last_link level frame (last_value level) most (last_slot level) (last_absent level)) in
          omega (
            arith,
            same,
            old,
            new,
            counted.links frame (omega (arith, within, size)),
            change.links frame (omega (arith, within, ap length change.kinds)),
            links_emptied before.kinds t a level fixed inside free most frame,
          );
    }

-- the last entry of an empty table was counted no more, and the table made data
pub counted_old_table : (before after : Descriptors) (t : ℕ → ℕ → ℕ) (a : ℕ) → AreCounted before t
    → IsSlotFixed before.kinds t → a < length before.kinds
    → 1 ≤ level_of (kind_of before.kinds a) → level_of (kind_of before.kinds a) ≤ 4
    → ((i : ℕ) → i < 512 → is_slot_entry (level_of (kind_of before.kinds a)) i ≡ false → is_present (t a i) ≡ false) → (level_of (kind_of before.kinds a) ≡ 4 → t a 511 ≡ slot_value)
    → IsReplaced (level_of (kind_of before.kinds a)) (t a 511) 0 before after → AreCounted (record after { kinds = set after.kinds a Data }) (zeroed t a)
counted_old_table before after t a counted fixed inside least most empty slot change =
    let level : ℕ = level_of (kind_of before.kinds a) in
    let size : length (set after.kinds a Data) ≡ length before.kinds =
    length-set after.kinds a Data ∙ ap length change.kinds in
    record {
      loose = λ frame within.
          let same = ap (λ kinds. loose_in (set kinds a Data) (zeroed t a) frame) change.kinds in
          let old : count_if (level == 1 && is_loose_leaf frame (t a 511)) ≡ 0 =
          ap count_if (leaf_row level 511 frame (t a 511) (empty 511 (omega arith))) in
          let new : count_if (level == 1 && is_loose_leaf frame 0) ≡ 0 =
          ap count_if (and_right (level == 1) _ (loose_absent frame 0 absent_zero)) in
          omega (
            arith,
            same,
            old,
            new,
            counted.loose frame (omega (arith, within, size)),
            change.loose frame (omega (arith, within, size)),
            loose_zeroed before.kinds t a fixed inside least most empty slot frame,
          );
      links = λ frame within.
          let same = ap (λ kinds. links_in (set kinds a Data) (zeroed t a) frame) change.kinds in
          let old : count_if (is_link_level level && is_link_to frame (t a 511)) ≡ count_if (level == 4 && frame == 6) =
          ap count_if (last_link level frame (t a 511) most slot (λ other. empty 511 (omega arith) (not_lower level 511 other))) in
          let new : count_if (is_link_level level && is_link_to frame 0) ≡ 0 =
          ap count_if (and_right (is_link_level level) _ (link_absent frame 0 absent_zero)) in
          omega (
            arith,
            same,
            old,
            new,
            counted.links frame (omega (arith, within, size)),
            change.links frame (omega (arith, within, size)),
            links_zeroed before.kinds t a fixed inside least most empty slot frame,
          );
    }
