-- The kernel slot's own tables: walks of its pages stay in them, so any tables that hold them walk alike, whatever the root.
use Rattle.std.proofs.Common.{◌≡◌, ◌==◌, ◌⊎◌, ℕ, zero, suc, ◌+◌, ◌^◌, ◌<◌, ◌≤◌, Bool, true, false, cond, List, length, Option, Some, None, refl, sym, ap, subst, ◌∙◌, arith, inl, inr}
use Rattle.std.proofs.lemmas.Bool.{both_ways, false≢true}
use Rattle.std.proofs.lemmas.List.Quantifiers.{position-Some}
use Rattle.std.specs.List.{position}
use Rattle.std.specs.Result.{result_ok}
use Rattle.phys_mem.specs.Memory.{entry_in}
use Rattle.nk_bits.specs.declared.leaf.Rights.{Rights}
use Rattle.nk_bits.specs.Paging.{all_rights, common, frame_of, is_missing, page_index, rights_of, slot_value, walk}
use Rattle.elf_image.specs.Pages.{IsPageList, pages_of}
use Rattle.boot_map.specs.declared.part.Part.{Part}
use Rattle.boot_map.specs.declared.part.Part.TheVariants.{SlotTable, AreaDirectory, AreaTable, ImageDirectory, RangeTable}
use Rattle.nk_bits.specs.KernelLayout.{area_directory, area_table, image_directory, opening_root, slot_table}
use Rattle.boot_map.specs.Division.{Division, IsLayout, division_of, free_start, tables_start}
use Rattle.boot_map.specs.Parts.{part_at}
use Rattle.boot_map.specs.OpeningEntries.{opening_entry, entry_of_part, link, range_link, table_level}
use Rattle.boot_map.specs.Opening.{IsOpening}
use Rattle.boot_map.specs.KernelSlot.{HoldsSlot, is_slot_table, slot_leaf, slot_start}
use Rattle.boot_map.proofs.EntryLaws.{entry_stands}
use Rattle.boot_map.proofs.SlotLaws.{root_entry_511, slot_indices, slot_walk, step_link}
use Rattle.boot_map.proofs.WalkLaws.{IsTableAt, carries, entry_within, frame_of_link, index_small, missing_zero, range_table_part}
use Rattle.boot_map.proofs.WalkSchema.{walk_alike, walk_by_level}

-- the slot's entry of every root is a link to its table of level 3
pub slot_link : link slot_table ≡ slot_value
unfolding link slot_value
slot_link = refl

-- an entry that is 0, or a link to one of the slot's own tables
abbrev LeadsOn : Division → ℕ → Type 0
LeadsOn d e = (e ≡ 0) ⊎ ((f : ℕ) × (e ≡ link f) × (f < 2 ^ 40) × (is_slot_table (part_at d f) ≡ true))

choice_leads_on : (d : Division) (t : Bool) (x y : ℕ) → LeadsOn d x → LeadsOn d y → LeadsOn d (cond t x y)
choice_leads_on d true x y h g = h
choice_leads_on d false x y h g = g

low_tables : (d : Division) → (is_slot_table (part_at d area_directory) ≡ true) × (is_slot_table (part_at d area_table) ≡ true) × (is_slot_table (part_at d image_directory) ≡ true) × (is_slot_table (part_at d slot_table) ≡ true)
unfolding part_at
low_tables d = (refl, refl, refl, refl)

range_leads_on : (d : Division) (o : Option ℕ) → free_start d ≤ 2 ^ 40 → ((k : ℕ) → o ≡ Some k → k < length d.ranges) → LeadsOn d (range_link d o)
range_leads_on d (Some k) most small = inr (tables_start d + k, refl, omega (arith, small k refl), ap is_slot_table (range_table_part d k (small k refl)))
range_leads_on d None most small = inl refl

-- the entries of the slot's tables of level 2 or more lead to its tables
entry_leads_on : (b : List ℕ) (d : Division) (part : Part) (level i : ℕ) → free_start d ≤ 2 ^ 40 → table_level part ≡ suc (suc level) → is_slot_table part ≡ true → LeadsOn d (entry_of_part b d part i)
entry_leads_on b d SlotTable level i most is own =
    choice_leads_on d (i == 0) _ _ (inr (area_directory, refl, omega arith, (low_tables d).0)) (choice_leads_on d (i == 510) _ _ (inr (image_directory, refl, omega arith, (low_tables d).2)) (inl refl))
entry_leads_on b d AreaDirectory level i most is own =
    choice_leads_on d (i == 0) _ _ (inr (area_table, refl, omega arith, (low_tables d).1)) (inl refl)
entry_leads_on b d ImageDirectory level i most is own =
    range_leads_on d (position (λ r. r == i) d.ranges) most (λ k e. (position-Some (λ r. r == i) d.ranges k 0 e).0)
entry_leads_on b d AreaTable level i most is own = absurd (omega (arith, is))
entry_leads_on b d (RangeTable k) level i most is own = absurd (omega (arith, is))
entry_leads_on b d _ level i most is own = absurd (false≢true own)

led_on : (d : Division) (frames above e : ℕ) → LeadsOn d e → is_missing frames above e ≡ false → is_slot_table (part_at d (frame_of e)) ≡ true
led_on d frames above e (inl none) there = absurd (both_ways true (sym (missing_zero frames above) ∙ subst (λ x. is_missing frames above x ≡ false) none there) refl)
led_on d frames above e (inr (f, is, small, own)) there = ap (λ x. is_slot_table (part_at d (frame_of x))) is ∙ ap (λ g. is_slot_table (part_at d g)) (frame_of_link f small) ∙ own

-- a table of this level of the slot; at level 0 any frame
abbrev pub IsSlotTableAt : Division → ℕ → ℕ → Rights → Type 0
IsSlotTableAt d zero f r = Unit {0}
IsSlotTableAt d (suc level) f r = IsTableAt d (suc level) f r × (is_slot_table (part_at d f) ≡ true)

pub stays : (b : List ℕ) (frames page : ℕ) → free_start (division_of b frames) ≤ 2 ^ 40 → (level f : ℕ) (r : Rights) → IsSlotTableAt (division_of b frames) (suc level) f r →
    is_missing frames (suc level) (opening_entry b frames f (page_index page (suc level))) ≡ false →
    IsSlotTableAt (division_of b frames) level (frame_of (opening_entry b frames f (page_index page (suc level)))) (common r (rights_of (opening_entry b frames f (page_index page (suc level)))))
stays b frames page most zero f r table there = tt
stays b frames page most (suc level) f r table there =
    let d : Division = division_of b frames in
    let i : ℕ = page_index page (suc (suc level)) in
    let leads : LeadsOn d (opening_entry b frames f i) =
    subst (LeadsOn d) (sym (entry_within b frames f i (index_small page (suc (suc level))))) (entry_leads_on b d (part_at d f) level i most (table.0).1 table.1) in
    (carries b frames page most (suc level) f r table.0 there, led_on d frames (suc (suc level)) (opening_entry b frames f i) leads there)

slot_table_level : (d : Division) → table_level (part_at d slot_table) ≡ 3
unfolding part_at
slot_table_level d = refl

pub at_slot_table : (b : List ℕ) (frames : ℕ) → IsLayout b (division_of b frames) → IsSlotTableAt (division_of b frames) 3 slot_table all_rights
at_slot_table b frames layout =
    let least : 512 ≤ frames = layout.least in ((omega arith, slot_table_level (division_of b frames)), (low_tables (division_of b frames)).3)

-- the whole slot, from any root that has its entry, over any tables that hold it
pub slot_walk_any : (b : List ℕ) (frames root page : ℕ) (t : ℕ → ℕ → ℕ) → IsLayout b (division_of b frames) → IsPageList b (pages_of b) → HoldsSlot b frames t →
    t root 511 ≡ slot_value → slot_start ≤ page → page < 2 ^ 52 → result_ok (walk t frames root page) ≡ slot_leaf b frames page
slot_walk_any b frames root page t layout list holds entry low high =
    let d : Division = division_of b frames in
    let least : 512 ≤ frames = layout.least in
    let most : frames ≤ 65536 = layout.most in
    let room : free_start d ≤ frames = layout.room in
    let small : free_start d ≤ 2 ^ 40 = omega arith in
    let index = slot_indices page low high in
    let first : t root (page_index page 4) ≡ link slot_table = ap (t root) index.0 ∙ entry ∙ sym slot_link in
    let opening_first : opening_entry b frames opening_root (page_index page 4) ≡ link slot_table = ap (opening_entry b frames opening_root) index.0 ∙ root_entry_511 b frames in
    let same : walk t frames root page ≡ walk (opening_entry b frames) frames opening_root page =
    walk_by_level t frames root page
    ∙ step_link t frames page 3 root slot_table first (omega arith) (omega arith)
    ∙ walk_alike (opening_entry b frames) frames page (IsSlotTableAt d) (stays b frames page small) t
    (λ level f r table. holds.entries f (page_index page (suc level)) (table.0).0 (index_small page (suc level)) table.1)
    3 slot_table all_rights (at_slot_table b frames layout)
    ∙ sym (step_link (opening_entry b frames) frames page 3 opening_root slot_table opening_first (omega arith) (omega arith))
    ∙ sym (walk_by_level (opening_entry b frames) frames opening_root page) in
    ap result_ok same ∙ slot_walk b frames page layout list low high

-- a table of the slot is a table
own_level : (part : Part) → is_slot_table part ≡ true → 0 < table_level part
own_level SlotTable own = omega arith
own_level AreaDirectory own = omega arith
own_level AreaTable own = omega arith
own_level ImageDirectory own = omega arith
own_level (RangeTable k) own = omega arith
own_level _ own = absurd (false≢true own)

-- the opening's memory holds the slot
pub opening_holds : (b m : List ℕ) (frames : ℕ) → IsOpening b frames m → IsLayout b (division_of b frames) → HoldsSlot b frames (entry_in m)
opening_holds b m frames opening layout = record {
  entries = λ f i inside small own. entry_stands b m frames f i opening layout inside small (own_level (part_at (division_of b frames) f) own);
}
