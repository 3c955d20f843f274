-- The walk from the opening's root: over the entries and over memory it is one.
use Rattle.std.proofs.Common.{◌≡◌, ◌==◌, ◌⊎◌, ℕ, zero, suc, ◌+◌, ◌-◌, ◌^◌, ◌<◌, ◌≤◌, Bool, true, false, cond, List, length, nat_lt, Option, Some, None, refl, sym, ap, subst, ◌∙◌, arith, inl, inr}
use Rattle.std.proofs.lemmas.Bool.{false≢true, cond_both, cond-true, cond-false, ltb-true, leb-false, lt-ltb, le-ltb, eq-eqb, ne_eqb, or_parts, both_ways}
use Rattle.std.proofs.lemmas.List.Quantifiers.{position-Some}
use Rattle.std.specs.List.{position}
use Rattle.nk_bits.specs.declared.leaf.Rights.{Rights}
use Rattle.phys_mem.specs.Memory.{entry_in}
use Rattle.nk_bits.specs.Paging.{all_rights, common, frame_of, is_missing, is_present, page_index, rights_of, walk}
use Rattle.boot_map.specs.declared.part.Part.{Part}
use Rattle.boot_map.specs.declared.part.Part.TheVariants.{Root, SlotTable, AreaDirectory, AreaTable, ImageDirectory, RangeTable, MapRoot, MapDirectory, MapTable, Free}
use Rattle.boot_map.specs.Division.{Division, IsLayout, division_of, free_start, map_start, map_tables, pages_start, tables_start}
use Rattle.boot_map.specs.Parts.{part_at, sized_part}
use Rattle.boot_map.specs.OpeningEntries.{opening_entry, entry_of_part, link, map_directory_entry, range_entry, range_link, table_level}
use Rattle.boot_map.specs.Opening.{IsOpening}
use Rattle.nk_bits.specs.KernelLayout.{opening_root}
use Rattle.boot_map.specs.KernelSlot.{HoldsSlot, HoldsOpeningTables, is_slot_table}
use Rattle.boot_map.specs.OpeningKinds.{kind_at, kind_of_part}
use Rattle.nk_bits.specs.Kinds.{is_storable}
use Rattle.boot_map.proofs.EntryLaws.{entry_stands}
use Rattle.boot_map.proofs.WalkSchema.{walk_alike, walk_by_level}

-- an entry that is 0, or a link to a table of this level
abbrev pub Leads : Division → ℕ → ℕ → Type 0
Leads d level e = (e ≡ 0) ⊎ ((f : ℕ) × (e ≡ link f) × (f < 2 ^ 40) × (table_level (part_at d f) ≡ level))

nowhere : (d : Division) (level : ℕ) → Leads d level 0
nowhere d level = inl refl

leads_to : (d : Division) (level f : ℕ) → f < 2 ^ 40 → table_level (part_at d f) ≡ level → Leads d level (link f)
leads_to d level f small is = inr (f, refl, small, is)

choice_leads : (d : Division) (level : ℕ) (t : Bool) (x y : ℕ) → Leads d level x → Leads d level y → Leads d level (cond t x y)
choice_leads d level true x y h g = h
choice_leads d level false x y h g = g

-- which part some frames belong to
pub sized_at : (d : Division) (f : ℕ) → 64 ≤ f → part_at d f ≡ sized_part d f
unfolding part_at
sized_at d f from = cond-false (nat_lt f 64) _ _ (le-ltb f 64 from)

pub range_table_part : (d : Division) (k : ℕ) → k < length d.ranges → part_at d (tables_start d + k) ≡ RangeTable k
range_table_part d k small =
    let place : tables_start d + k - tables_start d ≡ k = omega arith in
    sized_at d (tables_start d + k) (omega arith)
    ∙ cond-false (nat_lt (tables_start d + k) (tables_start d)) _ _ (le-ltb _ _ (omega arith))
    ∙ cond-true (nat_lt (tables_start d + k) (pages_start d)) _ _ (lt-ltb _ _ (omega arith)) ∙ ap RangeTable place

-- the frames from the direct map's first one on
mapped_at : (d : Division) (f : ℕ) → map_start d ≤ f → part_at d f ≡ cond (f == map_start d) MapRoot (cond (f == map_start d + 1) MapDirectory (cond (nat_lt f (free_start d)) (MapTable (f - (map_start d + 2))) Free))
mapped_at d f from =
    sized_at d f (omega arith) ∙ cond-false (nat_lt f (tables_start d)) _ _ (le-ltb _ _ (omega arith))
    ∙ cond-false (nat_lt f (pages_start d)) _ _ (le-ltb _ _ (omega arith)) ∙ cond-false (nat_lt f (map_start d)) _ _ (le-ltb _ _ from)

pub map_root_part : (d : Division) → part_at d (map_start d) ≡ MapRoot
map_root_part d = mapped_at d (map_start d) (omega arith) ∙ cond-true (map_start d == map_start d) _ _ (eq-eqb _ _ refl)

pub map_directory_part : (d : Division) → part_at d (map_start d + 1) ≡ MapDirectory
map_directory_part d =
    mapped_at d (map_start d + 1) (omega arith) ∙ cond-false (map_start d + 1 == map_start d) _ _ (ne_eqb _ _ (λ e. absurd (omega (arith, e))))
    ∙ cond-true (map_start d + 1 == map_start d + 1) _ _ (eq-eqb _ _ refl)

pub map_table_part : (d : Division) (i : ℕ) → i < map_tables d → part_at d (map_start d + 2 + i) ≡ MapTable i
map_table_part d i small =
    let place : map_start d + 2 + i - (map_start d + 2) ≡ i = omega arith in
    mapped_at d (map_start d + 2 + i) (omega arith) ∙ cond-false (map_start d + 2 + i == map_start d) _ _ (ne_eqb _ _ (λ e. absurd (omega (arith, e))))
    ∙ cond-false (map_start d + 2 + i == map_start d + 1) _ _ (ne_eqb _ _ (λ e. absurd (omega (arith, e))))
    ∙ cond-true (nat_lt (map_start d + 2 + i) (free_start d)) _ _ (lt-ltb _ _ (omega arith)) ∙ ap MapTable place

map_root_at : (d : Division) → table_level (part_at d (map_start d)) ≡ 3
map_root_at d = ap table_level (map_root_part d)

map_directory_at : (d : Division) → table_level (part_at d (map_start d + 1)) ≡ 2
map_directory_at d = ap table_level (map_directory_part d)

map_table_at : (d : Division) (i : ℕ) → i < map_tables d → table_level (part_at d (map_start d + 2 + i)) ≡ 1
map_table_at d i small = ap table_level (map_table_part d i small)

low_at : (d : Division) → (table_level (part_at d 6) ≡ 3) × (table_level (part_at d 7) ≡ 2) × (table_level (part_at d 8) ≡ 1) × (table_level (part_at d 9) ≡ 2)
unfolding part_at
low_at d = (refl, refl, refl, refl)

range_leads : (d : Division) (o : Option ℕ) → free_start d ≤ 2 ^ 40 → ((k : ℕ) → o ≡ Some k → k < length d.ranges) → Leads d 1 (range_link d o)
range_leads d (Some k) most small = leads_to d 1 (tables_start d + k) (omega (arith, small k refl)) (ap table_level (range_table_part d k (small k refl)))
range_leads d None most small = nowhere d 1

map_directory_leads : (d : Division) (i : ℕ) → free_start d ≤ 2 ^ 40 → Leads d 1 (map_directory_entry d i)
map_directory_leads d i most =
    cond_both (nat_lt i (map_tables d)) _ _ (Leads d 1)
    (λ t. leads_to d 1 (map_start d + 2 + i) (omega (arith, ltb-true i (map_tables d) t)) (map_table_at d i (ltb-true i (map_tables d) t))) (λ t. nowhere d 1)

-- the entries of a table of level 2 or more lead to tables one level down
entry_leads : (b : List ℕ) (d : Division) (part : Part) (level i : ℕ) → free_start d ≤ 2 ^ 40 → table_level part ≡ suc (suc level) → Leads d (suc level) (entry_of_part b d part i)
entry_leads b d Root level i most is =
    let at : 3 ≡ suc level = omega arith in
    choice_leads d (suc level) _ _ _ (leads_to d (suc level) (map_start d) (omega arith) (map_root_at d ∙ at)) (choice_leads d (suc level) _ _ _ (leads_to d (suc level) 6 (omega arith) ((low_at d).0 ∙ at)) (nowhere d (suc level)))
entry_leads b d SlotTable level i most is =
    let at : 2 ≡ suc level = omega arith in
    choice_leads d (suc level) _ _ _ (leads_to d (suc level) 7 (omega arith) ((low_at d).1 ∙ at)) (choice_leads d (suc level) _ _ _ (leads_to d (suc level) 9 (omega arith) ((low_at d).3 ∙ at)) (nowhere d (suc level)))
entry_leads b d AreaDirectory level i most is =
    let at : 1 ≡ suc level = omega arith in
    choice_leads d (suc level) _ _ _ (leads_to d (suc level) 8 (omega arith) ((low_at d).2 ∙ at)) (nowhere d (suc level))
entry_leads b d ImageDirectory level i most is =
    let at : 1 ≡ suc level = omega arith in
    subst (λ l. Leads d l (range_entry d i)) at (range_leads d (position (λ r. r == i) d.ranges) most (λ k e. (position-Some (λ r. r == i) d.ranges k 0 e).0))
entry_leads b d MapRoot level i most is =
    let at : 2 ≡ suc level = omega arith in
    choice_leads d (suc level) _ _ _ (leads_to d (suc level) (map_start d + 1) (omega arith) (map_directory_at d ∙ at)) (nowhere d (suc level))
entry_leads b d MapDirectory level i most is =
    let at : 1 ≡ suc level = omega arith in
    subst (λ l. Leads d l (map_directory_entry d i)) at (map_directory_leads d i most)
entry_leads b d _ level i most is = absurd (omega (arith, is))

-- what an entry that isn't missing is
pub missing_zero : (frames level : ℕ) → is_missing frames level 0 ≡ true
unfolding is_missing is_present
missing_zero frames level = refl

pub frame_of_link : (f : ℕ) → f < 2 ^ 40 → frame_of (link f) ≡ f
unfolding frame_of link
frame_of_link f small = omega arith

pub frame_in_memory : (frames level e : ℕ) → is_missing frames level e ≡ false → frame_of e < frames
unfolding is_missing
frame_in_memory frames level e there = leb-false frames (frame_of e) (or_parts _ _ (or_parts _ _ there).0).1

led : (d : Division) (frames above level e : ℕ) → Leads d level e → is_missing frames above e ≡ false → table_level (part_at d (frame_of e)) ≡ level
led d frames above level e (inl none) there = absurd (both_ways true (sym (missing_zero frames above) ∙ subst (λ x. is_missing frames above x ≡ false) none there) refl)
led d frames above level e (inr (f, is, small, at)) there = ap (λ x. table_level (part_at d (frame_of x))) is ∙ ap (λ g. table_level (part_at d g)) (frame_of_link f small) ∙ at

-- a table of the opening, of this level; at level 0 any frame
abbrev pub IsTableAt : Division → ℕ → ℕ → Rights → Type 0
IsTableAt d zero f r = Unit {0}
IsTableAt d (suc level) f r = (f < d.frames) × (table_level (part_at d f) ≡ suc level)

pub index_small : (page level : ℕ) → page_index page level < 512
unfolding page_index
index_small page level = omega arith

pub entry_within : (b : List ℕ) (frames f i : ℕ) → i < 512 → opening_entry b frames f i ≡ entry_of_part b (division_of b frames) (part_at (division_of b frames) f) i
unfolding opening_entry
entry_within b frames f i small = cond-true (nat_lt i 512) _ _ (lt-ltb i 512 small)

pub carries : (b : List ℕ) (frames page : ℕ) → free_start (division_of b frames) ≤ 2 ^ 40 → (level f : ℕ) (r : Rights) → IsTableAt (division_of b frames) (suc level) f r →
    is_missing frames (suc level) (opening_entry b frames f (page_index page (suc level))) ≡ false →
    IsTableAt (division_of b frames) level (frame_of (opening_entry b frames f (page_index page (suc level)))) (common r (rights_of (opening_entry b frames f (page_index page (suc level)))))
carries b frames page most zero f r table there = tt
carries b frames page most (suc level) f r table there =
    let d : Division = division_of b frames in
    let i : ℕ = page_index page (suc (suc level)) in
    let leads : Leads d (suc level) (opening_entry b frames f i) =
    subst (Leads d (suc level)) (sym (entry_within b frames f i (index_small page (suc (suc level))))) (entry_leads b d (part_at d f) level i most table.1) in
    (frame_in_memory frames (suc (suc level)) (opening_entry b frames f i) there, led d frames (suc (suc level)) (suc level) (opening_entry b frames f i) leads there)

pub root_at : (d : Division) → table_level (part_at d opening_root) ≡ 4
unfolding part_at
root_at d = refl

-- the opening memory holds the opening's tables
pub opening_tables : (b m : List ℕ) (frames : ℕ) → IsOpening b frames m → IsLayout b (division_of b frames) → HoldsOpeningTables b frames (entry_in m)
opening_tables b m frames opening layout =
    record { entries = λ f i within small table. entry_stands b m frames f i opening layout within small table }

-- the walk over tables that hold the opening's is that over the opening's entries
pub held_walk : (b : List ℕ) (frames page : ℕ) (t : ℕ → ℕ → ℕ) → HoldsOpeningTables b frames t → IsLayout b (division_of b frames) → walk t frames opening_root page ≡ walk (opening_entry b frames) frames opening_root page
held_walk b frames page t holds layout =
    let d : Division = division_of b frames in
    let least : 512 ≤ frames = layout.least in
    let most : frames ≤ 65536 = layout.most in
    let room : free_start d ≤ frames = layout.room in
    let small : free_start d ≤ 2 ^ 40 = omega arith in
    walk_by_level t frames opening_root page
    ∙ walk_alike (opening_entry b frames) frames page (IsTableAt d) (carries b frames page small) t
    (λ level f r table. holds.entries f (page_index page (suc level)) table.0 (index_small page (suc level)) (omega (arith, table.1)))
    4 opening_root all_rights (omega arith, root_at d)
    ∙ sym (walk_by_level (opening_entry b frames) frames opening_root page)

pub same_walk : (b m : List ℕ) (frames page : ℕ) → IsOpening b frames m → IsLayout b (division_of b frames) → walk (entry_in m) frames opening_root page ≡ walk (opening_entry b frames) frames opening_root page
same_walk b m frames page opening layout = held_walk b frames page (entry_in m) (opening_tables b m frames opening layout) layout

-- the slot's own tables are among them, and the opening's root
slot_table_level : (part : Part) → is_slot_table part ≡ true → 0 < table_level part
slot_table_level SlotTable is = omega arith
slot_table_level AreaDirectory is = omega arith
slot_table_level AreaTable is = omega arith
slot_table_level ImageDirectory is = omega arith
slot_table_level (RangeTable k) is = omega arith
slot_table_level _ is = absurd (false≢true is)

pub held_slot : (b : List ℕ) (frames : ℕ) (t : ℕ → ℕ → ℕ) → HoldsOpeningTables b frames t → HoldsSlot b frames t
held_slot b frames t holds =
    record { entries = λ f i within small is. holds.entries f i within small (slot_table_level (part_at (division_of b frames) f) is) }

pub held_root : (b : List ℕ) (frames : ℕ) (t : ℕ → ℕ → ℕ) → IsLayout b (division_of b frames) → HoldsOpeningTables b frames t → t opening_root 511 ≡ opening_entry b frames opening_root 511
held_root b frames t layout holds =
    let least : 512 ≤ frames = layout.least in
    holds.entries opening_root 511 (omega arith) (omega arith) (omega (arith, root_at (division_of b frames)))

-- no page table may be stored to
tables_unstorable : (b : List ℕ) (part : Part) → 0 < table_level part → is_storable (kind_of_part b part) ≡ false
tables_unstorable b Root is = refl
tables_unstorable b SlotTable is = refl
tables_unstorable b AreaDirectory is = refl
tables_unstorable b AreaTable is = refl
tables_unstorable b ImageDirectory is = refl
tables_unstorable b (RangeTable k) is = refl
tables_unstorable b MapRoot is = refl
tables_unstorable b MapDirectory is = refl
tables_unstorable b (MapTable k) is = refl
tables_unstorable b _ is = absurd (omega arith)

pub table_kept : (b : List ℕ) (frames frame : ℕ) → 0 < table_level (part_at (division_of b frames) frame) → is_storable (kind_at b frames frame) ≡ false
unfolding kind_at
table_kept b frames frame is = tables_unstorable b (part_at (division_of b frames) frame) is
