-- The entries of the kernel slot's own tables: the frames that the image's table names, and where a writable leaf of
-- the slot stands.
use Rattle.std.proofs.Common.{◌≡◌, ◌≢◌, ◌==◌, ◌&&◌, ◌⊎◌, ℕ, ◌+◌, ◌-◌, ◌^◌, ◌<◌, ◌≤◌, true, false, List, length, get_or, nat_le, nat_lt, Option, Some, None, refl, sym, ap, subst, ◌∙◌, arith, inl, inr}
use Rattle.std.specs.Prelude.{IfSome}
use Rattle.std.specs.Result.{result_ok}
use Rattle.std.proofs.lemmas.Bool.{cond_both, cond-true, cond-false, eqb-true, le-ltb, ltb-false, false≢true}
use Rattle.std.proofs.lemmas.List.Quantifiers.{position-Some}
use Rattle.std.specs.List.{position}
use Rattle.nk_bits.specs.declared.leaf.Leaf.{Leaf}
use Rattle.nk_bits.specs.declared.kind.Kind.TheVariants.{Fixed}
use Rattle.nk_bits.specs.Kinds.{kind_of}
use Rattle.nk_bits.specs.Paging.{frame_of, is_present, page_index}
use Rattle.nk_bits.specs.Paging.{grants_writes}
use Rattle.elf_image.specs.Pages.{IsPageList, is_executable, is_writable, pages_of}
use Rattle.nk_bits.specs.KernelLayout.{area_table, handler_slot, image_directory, opening_root, slot_table, trap_stack}
use Rattle.boot_map.specs.Division.{Division, IsLayout, division_of, free_start, page_in, pages_start, ranges_of, tables_start}
use Rattle.boot_map.specs.Parts.{part_at}
use Rattle.boot_map.specs.OpeningKinds.{kind_of_part, kinds}
use Rattle.boot_map.specs.OpeningEntries.{entry_of_part, link, opening_entry, placed_leaf, range_entry, range_link, write_leaf}
use Rattle.boot_map.specs.KernelSlot.{HoldsSlot, IsNamedIn, IsWrittenInSlot, area_leaf, image_leaf, is_slot_table, slot_leaf, slot_start, writable}
use Rattle.boot_map.proofs.EntryBits.{frame_of_leaf, link_present, none_present, rights_of_write, write_present}
use Rattle.boot_map.proofs.EntryKinds.{kind_inside}
use Rattle.boot_map.proofs.SlotLaws.{root_entry_511, slot_indices, slot_walk, step_link, step_none}
use Rattle.boot_map.proofs.WalkLaws.{entry_within, frame_of_link, index_small, range_table_part}
use Rattle.boot_map.proofs.WalkSchema.{walk_by_level}

-- the image's table of level 2, as the opening has it
image_entry : (b : List ℕ) (frames i : ℕ) → i < 512 →
    opening_entry b frames image_directory i ≡ range_entry (division_of b frames) i
unfolding part_at
image_entry b frames i small = entry_within b frames image_directory i small

-- and in any tables that hold the slot
pub held_image_entry : (b : List ℕ) (frames i : ℕ) (t : ℕ → ℕ → ℕ) → IsLayout b (division_of b frames) →
    HoldsSlot b frames t → i < 512 →
    t image_directory i ≡ range_entry (division_of b frames) i
unfolding part_at
held_image_entry b frames i t layout holds small =
    let least : 512 ≤ frames = layout.least in
    holds.entries image_directory i (omega arith) small refl ∙ image_entry b frames i small

-- an entry that is, if present, a link to a fixed frame past the common ones
abbrev NamesFixed : List ℕ → ℕ → ℕ → Type 0
NamesFixed b frames e = is_present e ≡ true → (kind_of (kinds b frames) (frame_of e) ≡ Fixed) ×
    (frame_of e ≢ handler_slot)

range_names : (b : List ℕ) (frames : ℕ) (o : Option ℕ) → IsLayout b (division_of b frames) →
    ((k : ℕ) → o ≡ Some k → k < length (ranges_of b)) →
    NamesFixed b frames (range_link (division_of b frames) o)
range_names b frames (Some k) layout within there =
    let d : Division = division_of b frames in
    let g : ℕ = tables_start d + k in
    let few : k < length (ranges_of b) = within k refl in
    let most : frames ≤ 65536 = layout.most in
    let room : free_start d ≤ frames = layout.room in
    let names : frame_of (link g) ≡ g = frame_of_link g (omega arith) in (
      ap (kind_of (kinds b frames)) names ∙ kind_inside b frames g (omega arith)
          ∙ ap (kind_of_part b) (range_table_part d k few),
      λ e. absurd (omega (arith, names, e)),
    )
range_names b frames None layout within there =
    none_present ((kind_of (kinds b frames) (frame_of 0) ≡ Fixed) × (frame_of 0 ≢ handler_slot)) there

pub image_names : (b : List ℕ) (frames i : ℕ) (t : ℕ → ℕ → ℕ) → IsLayout b (division_of b frames) →
    HoldsSlot b frames t → i < 512 →
    is_present (t image_directory i) ≡ true →
    (kind_of (kinds b frames) (frame_of (t image_directory i)) ≡ Fixed) ×
    (frame_of (t image_directory i) ≢ handler_slot)
image_names b frames i t layout holds small =
    subst (NamesFixed b frames) (sym (held_image_entry b frames i t layout holds small))
    (range_names b frames (position (λ r. r == i) (ranges_of b)) layout
    (λ k e. (position-Some (λ r. r == i) (ranges_of b) k 0 e).0))

-- a writable leaf that one of the slot's tables of level 1 has
written_at : (frames table index g : ℕ) (t : ℕ → ℕ → ℕ) → g < 2 ^ 40 → table < frames → index < 512 →
    (table ≡ area_table) ⊎ IsNamedIn t image_directory table → t table index ≡ write_leaf g → IsWrittenInSlot frames t g
written_at frames table index g t small within inside slots is = record {
  table = table;
  in_memory = within;
  slots = slots;
  index = index;
  inside = inside;
  present = ap is_present is ∙ write_present g;
  names = ap frame_of is ∙ frame_of_leaf g 99 true small (omega arith);
  written = ap grants_writes is ∙ ap (λ r. r.can_write) (rights_of_write g small);
}

-- the trap stack's, in the nested area's table
trap_written : (b : List ℕ) (frames : ℕ) (t : ℕ → ℕ → ℕ) → IsLayout b (division_of b frames) → HoldsSlot b frames t →
    IsWrittenInSlot frames t trap_stack
unfolding part_at opening_entry
trap_written b frames t layout holds =
    let least : 512 ≤ frames = layout.least in
    written_at frames area_table 3 trap_stack t (omega arith) (omega arith) (omega arith) (inl refl)
    (holds.entries area_table 3 (omega arith) (omega arith) refl)

-- the slot's entry for the image's 1 GiB
third_link : (b : List ℕ) (frames : ℕ) → opening_entry b frames slot_table 510 ≡ link image_directory
unfolding part_at opening_entry
third_link b frames = refl

-- a page of the image's home has a leaf only where the image touches its range
untouched_leaf : (b : List ℕ) (frames page : ℕ) → IsLayout b (division_of b frames) → IsPageList b (pages_of b) →
    slot_start ≤ page → page < 2 ^ 52 →
    page_index page 3 ≡ 510 → position (λ r. r == page_index page 2) (ranges_of b) ≡ None →
    slot_leaf b frames page ≡ None
untouched_leaf b frames page layout list low high home none =
    let t : ℕ → ℕ → ℕ = opening_entry b frames in
    let least : 512 ≤ frames = layout.least in
    let r : ℕ = page_index page 2 in
    let fourth : t opening_root (page_index page 4) ≡ link slot_table =
    ap (t opening_root) (slot_indices page low high).0 ∙ root_entry_511 b frames in
    let third : t slot_table (page_index page 3) ≡ link image_directory = ap (t slot_table) home
    ∙ third_link b frames in
    let second : t image_directory r ≡ 0 = image_entry b frames r (index_small page 2)
    ∙ ap (range_link (division_of b frames)) none in
    sym (slot_walk b frames page layout list low high)
    ∙ ap result_ok (walk_by_level t frames opening_root page
    ∙ step_link t frames page 3 opening_root slot_table fourth (omega arith) (omega arith)
    ∙ step_link t frames page 2 slot_table image_directory third (omega arith) (omega arith))
    ∙ step_none t frames page 1 image_directory second

touched_range : (b : List ℕ) (frames page : ℕ) (leaf : Leaf) → IsLayout b (division_of b frames) →
    IsPageList b (pages_of b) → slot_start ≤ page → page < 2 ^ 52 →
    page_index page 3 ≡ 510 → slot_leaf b frames page ≡ Some leaf → (o : Option ℕ) →
    position (λ r. r == page_index page 2) (ranges_of b) ≡ o →
    (j : ℕ) × (position (λ r. r == page_index page 2) (ranges_of b) ≡ Some j)
touched_range b frames page leaf layout list low high home is (Some j) at = (j, at)
touched_range b frames page leaf layout list low high home is None at =
    let none : slot_leaf b frames page ≡ None = untouched_leaf b frames page layout list low high home at in
    absurd (cc)

-- a writable page of the image, in the table of its range
page_written : (b : List ℕ) (frames page k : ℕ) (t : ℕ → ℕ → ℕ) → IsLayout b (division_of b frames) →
    IsPageList b (pages_of b) → HoldsSlot b frames t →
    slot_start ≤ page → page < 2 ^ 52 → slot_start + 32 ≤ page → position (λ m. m == page) (pages_of b) ≡ Some k →
    is_executable b page ≡ false → is_writable b page ≡ true →
    IsWrittenInSlot frames t (pages_start (division_of b frames) + k)
unfolding slot_leaf
page_written b frames page k t layout list holds low high past at closed written =
    let d : Division = division_of b frames in
    let r : ℕ = page_index page 2 in
    let i : ℕ = page_index page 1 in
    let g : ℕ = pages_start d + k in
    let most : frames ≤ 65536 = layout.most in
    let least : 512 ≤ frames = layout.least in
    let room : free_start d ≤ frames = layout.room in
    let found = position-Some (λ m. m == page) (pages_of b) k 0 at in
    let page_is : get_or (pages_of b) k 0 ≡ page = eqb-true _ _ found.1 in
    let home = list.home k found.0 in
    let index = slot_indices page low high in
    let third : page_index page 3 ≡ 510 = omega (arith, index.1, home.0, home.1, page_is) in
    let shown : slot_leaf b frames page ≡ Some (writable g) =
    cond-false (nat_lt page (slot_start + 32)) _ _ (le-ltb page (slot_start + 32) past)
    ∙ ap (image_leaf b (pages_start d) page) at
    ∙ cond-false (is_executable b page) _ _ closed ∙ cond-true (is_writable b page) _ _ written in
    let range = touched_range b frames page (writable g) layout list low high third shown
    (position (λ x. x == r) (ranges_of b)) refl in
    let j : ℕ = range.0 in
    let table : ℕ = tables_start d + j in
    let there = position-Some (λ x. x == r) (ranges_of b) j 0 range.1 in
    let few : j < length (ranges_of b) = there.0 in
    let place : page_in (get_or (ranges_of b) j 0) i ≡ page =
    ap (λ x. page_in x i) (eqb-true (get_or (ranges_of b) j 0) r there.1)
    ∙ omega (arith, index.1, index.2, index.3, third) in
    let links : t image_directory r ≡ link table = held_image_entry b frames r t layout holds (index_small page 2)
    ∙ ap (range_link d) range.1 in
    let named : IsNamedIn t image_directory table = record {
      at = r;
      inside = index_small page 2;
      present = ap is_present links ∙ link_present table;
      names = ap frame_of links ∙ frame_of_link table (omega arith);
    } in
    let part = range_table_part d j few in
    let entry : t table i ≡ write_leaf g =
    holds.entries table i (omega arith) (index_small page 1) (ap is_slot_table part)
    ∙ entry_within b frames table i (index_small page 1) ∙ ap (λ p. entry_of_part b d p i) part
    ∙ ap (λ n. placed_leaf b d n (position (λ m. m == n) (pages_of b))) place ∙ ap (placed_leaf b d page) at
    ∙ cond-false (is_executable b page) _ _ closed ∙ cond-true (is_writable b page) _ _ written in
    written_at frames table i g t (omega (arith, found.0)) (omega arith) (index_small page 1) (inr named) entry

-- a leaf, if there is one, that is writable only where one of the slot's tables of level 1 has it
abbrev Written : ℕ → (ℕ → ℕ → ℕ) → Option Leaf → Type 0
Written frames t o = IfSome o (λ leaf. leaf.rights.can_write ≡ true → IsWrittenInSlot frames t leaf.frame)

area_written : (frames n : ℕ) (t : ℕ → ℕ → ℕ) → IsWrittenInSlot frames t trap_stack → Written frames t (area_leaf n)
area_written frames n t trap =
    cond_both (n == 0) _ _ (Written frames t) (λ u w. absurd (false≢true w)) (λ u.
    cond_both (n == 1) _ _ (Written frames t) (λ u w. absurd (false≢true w)) (λ u.
    cond_both (n == 2) _ _ (Written frames t) (λ u w. absurd (false≢true w)) (λ u.
    cond_both (n == 3) _ _ (Written frames t) (λ u w. trap) (λ u.
    cond_both (n == 4) _ _ (Written frames t) (λ u w. absurd (false≢true w)) (λ u.
    cond_both (nat_le 16 n && nat_lt n 32) _ _ (Written frames t) (λ u w. absurd (false≢true w)) (λ u. tt))))))

image_written : (b : List ℕ) (frames first n : ℕ) (t : ℕ → ℕ → ℕ) (o : Option ℕ) →
    ((k : ℕ) → o ≡ Some k → is_executable b n ≡ false → is_writable b n ≡ true → IsWrittenInSlot frames t (first + k)) →
    Written frames t (image_leaf b first n o)
image_written b frames first n t (Some k) page =
    cond_both (is_executable b n) _ _ (Written frames t) (λ u w. absurd (false≢true w)) (λ closed.
    cond_both (is_writable b n) _ _ (Written frames t) (λ written w. page k refl closed written)
    (λ u w. absurd (false≢true w)))
image_written b frames first n t None page = tt

pub slot_written : (b : List ℕ) (frames page : ℕ) (t : ℕ → ℕ → ℕ) → IsLayout b (division_of b frames) →
    IsPageList b (pages_of b) → HoldsSlot b frames t →
    slot_start ≤ page → page < 2 ^ 52 → IfSome (slot_leaf b frames page) (λ leaf. leaf.rights.can_write ≡ true →
    IsWrittenInSlot frames t leaf.frame)
unfolding slot_leaf
slot_written b frames page t layout list holds low high =
    cond_both (nat_lt page (slot_start + 32)) _ _ (Written frames t)
    (λ u. area_written frames (page - slot_start) t (trap_written b frames t layout holds))
    (λ u. image_written b frames (pages_start (division_of b frames)) page t (position (λ m. m == page) (pages_of b))
    (λ k at closed written.
    page_written b frames page k t layout list holds low high (ltb-false page (slot_start + 32) u) at closed written))
