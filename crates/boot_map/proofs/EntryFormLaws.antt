-- Each present entry of the opening's tables has the form of its table's level, in the tables that calls may change and in the
-- kernel slot's own.
use Rattle.std.proofs.Common.{◌≡◌, ◌==◌, ◌⊎◌, ℕ, ◌+◌, ◌-◌, ◌*◌, ◌/◌, ◌%◌, ◌^◌, ◌<◌, ◌≤◌, Bool, true, false, not, ◌&&◌, ◌||◌, List, length, get_or, nat_le, nat_lt, Option, Some, None, refl, sym, ap, subst, ◌∙◌, arith, inl, inr}
use Rattle.std.proofs.lemmas.Bool.{and_from, and_parts, cond_both, eq-eqb, ltb-true, ne_eqb, or_left, or_right}
use Rattle.std.proofs.lemmas.List.Quantifiers.{position-Some}
use Rattle.std.specs.Prelude.{if◌then◌else◌}
use Rattle.std.specs.List.{position}
use Rattle.nk_bits.specs.EntryForms.{has_form, has_leaf_form, has_table_form}
use Rattle.nk_bits.specs.Kinds.{kind_of, level_of}
use Rattle.nk_bits.specs.Paging.{frame_of, is_present}
use Rattle.nk_bits.specs.Paging.{grants_writes}
use Rattle.elf_image.specs.Pages.{is_executable, is_writable, pages_of}
use Rattle.boot_map.specs.declared.part.Part.{Part}
use Rattle.boot_map.specs.declared.part.Part.TheVariants.{Root, SlotTable, AreaDirectory, AreaTable, ImageDirectory, WriteLog, WrittenBits, RegionBook, Descriptors, RangeTable, ImagePage, MapRoot, MapDirectory, MapTable, Free}
use Rattle.nk_bits.specs.KernelLayout.{area_directory, area_table, gate_text, handler_slot, idt_and_tss, image_directory, nested_stack, slot_table, trap_stack}
use Rattle.boot_map.specs.Division.{Division, IsLayout, division_of, free_start, map_start, map_tables, page_in, pages_start, ranges_of, tables_start}
use Rattle.boot_map.specs.Parts.{part_at}
use Rattle.boot_map.specs.OpeningKinds.{kind_of_part, kinds}
use Rattle.boot_map.specs.OpeningEntries.{area_entry, entry_of_part, fetch_leaf, leaf, link, mapped_leaf, page_leaf, placed_leaf, range_link, read_leaf, table_level, write_leaf}
use Rattle.boot_map.specs.KernelSlot.{HoldsSlot, HoldsOpeningTables, IsNamedIn, is_slot_table}
use Rattle.boot_map.proofs.EntryBits.{none_present}
use Rattle.boot_map.proofs.EntryKinds.{held_entry, image_level, kind_inside, table_inside}
use Rattle.boot_map.proofs.SlotEntries.{held_image_entry}
use Rattle.boot_map.proofs.WalkLaws.{entry_within, frame_of_link, range_table_part}

-- a link has the form of a table's entry, and the three leaves that of a leaf
link_form : (g : ℕ) → g < 2 ^ 40 → has_table_form (link g) ≡ true
unfolding has_table_form link
link_form g small =
    let e : ℕ = 4096 * g + 39 in
    and_from (e % 64 == 39 && e / 128 % 4 == 0) (e / 2 ^ 52 % 2 ^ 12 == 0)
    (and_from (e % 64 == 39) (e / 128 % 4 == 0) (eq-eqb (e % 64) 39 (omega arith)) (eq-eqb (e / 128 % 4) 0 (omega arith)))
    (eq-eqb (e / 2 ^ 52 % 2 ^ 12) 0 (omega arith))

leaf_form : (e : ℕ) → e % 2 ≡ 1 → e / 8 % 8 ≡ 4 → (e / 2 % 2 ≡ 0) ⊎ (e / 64 % 2 ≡ 1) → e / 128 % 4 ≡ 0
    → e / 2 ^ 52 % 2 ^ 11 ≡ 0 → has_leaf_form e ≡ true
unfolding has_leaf_form is_present grants_writes
leaf_form e present accessed dirty low high =
    and_from _ _ (and_from _ _ (and_from _ _ (and_from _ _ (eq-eqb _ _ present) (eq-eqb _ _ accessed)) written) (eq-eqb _ _ low)) (eq-eqb _ _ high)
  where
    written : (not (e / 2 % 2 == 1) || e / 64 % 2 == 1) ≡ true
    written = elim dirty [
      | inl reads ↦ or_left (not (e / 2 % 2 == 1)) (e / 64 % 2 == 1) (λ j. not (ne_eqb (e / 2 % 2) 1 (λ is. absurd (omega (arith, reads, is))) j))
      | inr is ↦ or_right (not (e / 2 % 2 == 1)) (e / 64 % 2 == 1) (eq-eqb _ _ is)
    ]

-- an entry that has, if it is present, the form of this level
abbrev HasForm : ℕ → ℕ → Type 0
HasForm level e = is_present e ≡ true → has_form level e ≡ true

none_form : (level : ℕ) → HasForm level 0
none_form level = none_present (has_form level 0 ≡ true)

read_form : (g : ℕ) → g < 2 ^ 40 → HasForm 1 (read_leaf g)
unfolding leaf
read_form g small there = leaf_form _ (omega arith) (omega arith) (inl (omega arith)) (omega arith) (omega arith)

write_form : (g : ℕ) → g < 2 ^ 40 → HasForm 1 (write_leaf g)
unfolding leaf
write_form g small there = leaf_form _ (omega arith) (omega arith) (inr (omega arith)) (omega arith) (omega arith)

fetch_form : (g : ℕ) → g < 2 ^ 40 → HasForm 1 (fetch_leaf g)
unfolding leaf
fetch_form g small there = leaf_form _ (omega arith) (omega arith) (inl (omega arith)) (omega arith) (omega arith)

-- the entries of the parts, in the order of the definitions
area_form : (i : ℕ) → HasForm 1 (area_entry i)
area_form i =
    cond_both (i == 0) _ _ (HasForm 1) (λ u. read_form idt_and_tss (omega arith)) (λ u.
    cond_both (i == 1) _ _ (HasForm 1) (λ u. fetch_form gate_text (omega arith)) (λ u.
    cond_both (i == 2) _ _ (HasForm 1) (λ u. read_form handler_slot (omega arith)) (λ u.
    cond_both (i == 3) _ _ (HasForm 1) (λ u. write_form trap_stack (omega arith)) (λ u.
    cond_both (i == 4) _ _ (HasForm 1) (λ u. read_form nested_stack (omega arith)) (λ u.
    cond_both (nat_le 16 i && nat_lt i 32) _ _ (HasForm 1)
    (λ pool. read_form (10 + (i - 16)) (omega (arith, ltb-true i 32 (and_parts (nat_le 16 i) (nat_lt i 32) pool).1)))
    (λ u. none_form 1))))))

range_form : (d : Division) (o : Option ℕ) → ((k : ℕ) → o ≡ Some k → tables_start d + k < 2 ^ 40)
    → HasForm 2 (range_link d o)
range_form d (Some k) small there = link_form (tables_start d + k) (small k refl)
range_form d None small there = none_form 2 there

page_form : (x w : Bool) (f : ℕ) → f < 2 ^ 40 → HasForm 1 (page_leaf x w f)
page_form true w f small = fetch_form f small
page_form false true f small = write_form f small
page_form false false f small = read_form f small

placed_form : (b : List ℕ) (d : Division) (n : ℕ) (o : Option ℕ)
    → ((k : ℕ) → o ≡ Some k → pages_start d + k < 2 ^ 40) → HasForm 1 (placed_leaf b d n o)
placed_form b d n (Some k) small = page_form (is_executable b n) (is_writable b n) (pages_start d + k) (small k refl)
placed_form b d n None small = none_form 1

image_form : (w : Bool) (f : ℕ) → f < 2 ^ 40 → HasForm 1 (if w then write_leaf f else read_leaf f)
image_form true f small = write_form f small
image_form false f small = read_form f small

mapped_form : (b : List ℕ) (f : ℕ) (part : Part) → f < 2 ^ 40 → HasForm 1 (mapped_leaf b f part)
mapped_form b f WriteLog small = none_form 1
mapped_form b f WrittenBits small = none_form 1
mapped_form b f RegionBook small = none_form 1
mapped_form b f Descriptors small = none_form 1
mapped_form b f (ImagePage k) small = image_form (is_writable b (get_or (pages_of b) k 0)) f small
mapped_form b f Free small = write_form f small
mapped_form b f _ small = read_form f small

-- a table's entries have the form of its level
part_form : (b : List ℕ) (frames i : ℕ) (part : Part) → IsLayout b (division_of b frames)
    → HasForm (table_level part) (entry_of_part b (division_of b frames) part i)
part_form b frames i Root layout =
    let d : Division = division_of b frames in
    let most : frames ≤ 65536 = layout.most in
    let room : free_start d ≤ frames = layout.room in
    cond_both (i == 256) _ _ (HasForm 4) (λ u there. link_form (map_start d) (omega arith))
    (λ u. cond_both (i == 511) _ _ (HasForm 4) (λ u there. link_form slot_table (omega arith)) (λ u. none_form 4))
part_form b frames i SlotTable layout =
    cond_both (i == 0) _ _ (HasForm 3) (λ u there. link_form area_directory (omega arith))
    (λ u. cond_both (i == 510) _ _ (HasForm 3) (λ u there. link_form image_directory (omega arith)) (λ u. none_form 3))
part_form b frames i AreaDirectory layout =
    cond_both (i == 0) _ _ (HasForm 2) (λ u there. link_form area_table (omega arith)) (λ u. none_form 2)
part_form b frames i AreaTable layout = area_form i
part_form b frames i ImageDirectory layout =
    let d : Division = division_of b frames in
    let most : frames ≤ 65536 = layout.most in
    let room : free_start d ≤ frames = layout.room in
    range_form d (position (λ r. r == i) (ranges_of b))
    (λ k at. omega (arith, (position-Some (λ r. r == i) (ranges_of b) k 0 at).0))
part_form b frames i (RangeTable k) layout =
    let d : Division = division_of b frames in
    let most : frames ≤ 65536 = layout.most in
    let room : free_start d ≤ frames = layout.room in
    let n : ℕ = page_in (get_or (ranges_of b) k 0) i in
    placed_form b d n (position (λ m. m == n) (pages_of b))
    (λ j at. omega (arith, (position-Some (λ m. m == n) (pages_of b) j 0 at).0))
part_form b frames i MapRoot layout =
    let d : Division = division_of b frames in
    let most : frames ≤ 65536 = layout.most in
    let room : free_start d ≤ frames = layout.room in
    cond_both (i == 0) _ _ (HasForm 3) (λ u there. link_form (map_start d + 1) (omega arith)) (λ u. none_form 3)
part_form b frames i MapDirectory layout =
    let d : Division = division_of b frames in
    let most : frames ≤ 65536 = layout.most in
    let room : free_start d ≤ frames = layout.room in
    cond_both (nat_lt i (map_tables d)) _ _ (HasForm 2)
    (λ few there. link_form (map_start d + 2 + i) (omega (arith, ltb-true i (map_tables d) few))) (λ u. none_form 2)
part_form b frames i (MapTable k) layout =
    let most : frames ≤ 65536 = layout.most in
    cond_both (nat_lt (512 * k + i) frames) _ _ (HasForm 1)
    (λ inside. mapped_form b (512 * k + i) (part_at (division_of b frames) (512 * k + i)) (omega (arith, ltb-true (512 * k + i) frames inside)))
    (λ u. none_form 1)
part_form b frames i part layout = none_form (table_level part)

-- the level of a frame's kind is that of its table
kind_level : (b : List ℕ) (part : Part) → 1 ≤ level_of (kind_of_part b part)
    → table_level part ≡ level_of (kind_of_part b part)
kind_level b Root is = refl
kind_level b MapRoot is = refl
kind_level b MapDirectory is = refl
kind_level b (MapTable k) is = refl
kind_level b (ImagePage k) is = absurd (omega (arith, is, image_level (is_executable b (get_or (pages_of b) k 0))))
kind_level b _ is = absurd (omega (arith, is))

-- tables that hold the opening's, but for the kernel slot's own
pub table_form : (b : List ℕ) (frames f i : ℕ) (t : ℕ → ℕ → ℕ) → IsLayout b (division_of b frames)
    → HoldsOpeningTables b frames t → i < 512 → 1 ≤ level_of (kind_of (kinds b frames) f) → is_present (t f i) ≡ true
    → has_form (level_of (kind_of (kinds b frames) f)) (t f i) ≡ true
table_form b frames f i t layout holds small least =
    let part : Part = part_at (division_of b frames) f in
    let inside : f < frames = table_inside b frames f least in
    let same : level_of (kind_of_part b part) ≡ level_of (kind_of (kinds b frames) f) =
    ap level_of (sym (kind_inside b frames f inside)) in
    let table : 1 ≤ level_of (kind_of_part b part) = omega (arith, same, least) in
    subst (λ level. HasForm level (t f i)) (kind_level b part table ∙ same)
    (subst (HasForm (table_level part)) (sym (held_entry b frames f i t holds small inside table)) (part_form b frames i part layout))

-- the kernel slot's own tables
module _ (b : List ℕ) (frames f i : ℕ) (t : ℕ → ℕ → ℕ) (layout : IsLayout b (division_of b frames))
    (holds : HoldsSlot b frames t) (small : i < 512) where
  own_form : (part : Part) → f < frames → part_at (division_of b frames) f ≡ part → is_slot_table part ≡ true
      → HasForm (table_level part) (t f i)
  own_form part inside is own =
      subst (HasForm (table_level part))
      (sym (holds.entries f i inside small (ap is_slot_table is ∙ own) ∙ entry_within b frames f i small ∙ ap (λ p. entry_of_part b (division_of b frames) p i) is))
      (part_form b frames i part layout)

  pub slot_link_form : (f ≡ slot_table) ⊎ ((f ≡ area_directory) ⊎ (f ≡ image_directory)) → is_present (t f i) ≡ true
      → has_table_form (t f i) ≡ true
  unfolding part_at
  slot_link_form table =
      let least : 512 ≤ frames = layout.least in
      let d : Division = division_of b frames in
      elim table [
        | inl third ↦ own_form SlotTable (omega (arith, third)) (ap (part_at d) third) refl
        | inr (inl area) ↦ own_form AreaDirectory (omega (arith, area)) (ap (part_at d) area) refl
        | inr (inr image) ↦ own_form ImageDirectory (omega (arith, image)) (ap (part_at d) image) refl
      ]

  -- a frame that the image's table of level 2 names holds the table of a range
  range_named : (named : IsNamedIn t image_directory f) (o : Option ℕ)
      → position (λ r. r == named.at) (ranges_of b) ≡ o
      → (k : ℕ) × (k < length (ranges_of b)) × (f ≡ tables_start (division_of b frames) + k)
  range_named named (Some k) at =
      let d : Division = division_of b frames in
      let most : frames ≤ 65536 = layout.most in
      let room : free_start d ≤ frames = layout.room in
      let few : k < length (ranges_of b) = (position-Some (λ r. r == named.at) (ranges_of b) k 0 at).0 in
      let links : t image_directory named.at ≡ link (tables_start d + k) =
      held_image_entry b frames named.at t layout holds named.inside ∙ ap (range_link d) at in
      (k, few, sym named.names ∙ ap frame_of links ∙ frame_of_link (tables_start d + k) (omega arith))
  range_named named None at =
      let absent : t image_directory named.at ≡ 0 =
      held_image_entry b frames named.at t layout holds named.inside ∙ ap (range_link (division_of b frames)) at in
      none_present ((k : ℕ) × (k < length (ranges_of b)) × (f ≡ tables_start (division_of b frames) + k))
      (ap is_present (sym absent) ∙ named.present)

  pub slot_leaf_form : (f ≡ area_table) ⊎ IsNamedIn t image_directory f → is_present (t f i) ≡ true
      → has_leaf_form (t f i) ≡ true
  unfolding part_at
  slot_leaf_form (inl table) =
      let least : 512 ≤ frames = layout.least in
      own_form AreaTable (omega (arith, table)) (ap (part_at (division_of b frames)) table) refl
  slot_leaf_form (inr named) =
      let at = range_named named (position (λ r. r == named.at) (ranges_of b)) refl in
      let most : frames ≤ 65536 = layout.most in
      let room : free_start (division_of b frames) ≤ frames = layout.room in
      own_form (RangeTable at.0) (omega (arith, at.1, at.2)) (ap (part_at (division_of b frames)) at.2 ∙ range_table_part (division_of b frames) at.0 at.1) refl
