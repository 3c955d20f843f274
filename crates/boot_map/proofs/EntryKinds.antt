-- The entries of the opening's tables that calls may change, by the kind of the frame that each stands in: the levels,
-- what a leaf of the direct map grants, and the frame that a link names.
use Rattle.std.proofs.Common.{◌≡◌, ◌==◌, ℕ, ◌+◌, ◌*◌, ◌^◌, ◌<◌, ◌≤◌, Bool, true, false, cond, List, get_or, nat_lt, refl, sym, ap, subst, ◌∙◌, arith, inl, inr}
use Rattle.std.proofs.lemmas.Bool.{cases_lt, cond_both, false≢true, both_ways, ltb-true}
use Rattle.std.proofs.lemmas.List.{get_or_past}
use Rattle.nk_bits.specs.declared.leaf.Rights.{Rights}
use Rattle.nk_bits.specs.declared.kind.Kind.{Kind}
use Rattle.nk_bits.specs.declared.kind.Kind.TheVariants.{Data, Code, Hidden}
use Rattle.nk_bits.specs.Kinds.{allows, kind_of, level_of}
use Rattle.nk_bits.specs.Paging.{grants_fetches}
use Rattle.nk_bits.specs.Paging.{frame_of, is_present, is_slot_entry, is_user, rights_of, slot_value}
use Rattle.nk_bits.specs.Paging.{grants_writes}
use Rattle.elf_image.specs.Pages.{IsPageList, is_executable, is_writable, pages_of}
use Rattle.boot_map.specs.declared.part.Part.{Part}
use Rattle.boot_map.specs.declared.part.Part.TheVariants.{Root, WriteLog, WrittenBits, RegionBook, Descriptors, ImagePage, MapRoot, MapDirectory, MapTable, Free}
use Rattle.boot_map.specs.Division.{Division, IsLayout, division_of, free_start, map_start, map_tables}
use Rattle.boot_map.specs.Parts.{part_at}
use Rattle.boot_map.specs.OpeningKinds.{kind_of_part, kinds}
use Rattle.boot_map.specs.OpeningEntries.{entry_of_part, link, map_entry, mapped_leaf, read_leaf, table_level, write_leaf}
use Rattle.boot_map.specs.KernelSlot.{HoldsOpeningTables, readable, writable}
use Rattle.boot_map.proofs.EntryBits.{frame_of_leaf, link_grants, none_present, rights_of_read, rights_of_write}
use Rattle.boot_map.proofs.OpeningLaws.{kind_at_part, kinds_each, kinds_length}
use Rattle.boot_map.proofs.SlotTables.{slot_link}
use Rattle.boot_map.proofs.WalkLaws.{entry_within, frame_of_link, map_directory_part, map_root_part, map_table_part}

-- the kind of a frame in memory, by its part; past the end of memory it is hidden
pub kind_inside : (b : List ℕ) (frames f : ℕ) → f < frames →
    kind_of (kinds b frames) f ≡ kind_of_part b (part_at (division_of b frames) f)
kind_inside b frames f inside = kinds_each b frames f inside ∙ kind_at_part b frames f

kind_past : (b : List ℕ) (frames f : ℕ) → frames ≤ f → kind_of (kinds b frames) f ≡ Hidden
kind_past b frames f past = get_or_past (kinds b frames) f Hidden (omega (arith, kinds_length b frames))

-- a page of the image is no table
pub image_level : (x : Bool) → level_of (cond x Code Data) ≡ 0
image_level true = refl
image_level false = refl

part_level : (b : List ℕ) (part : Part) → level_of (kind_of_part b part) ≤ 4
part_level b (ImagePage k) = omega (arith, image_level (is_executable b (get_or (pages_of b) k 0)))
part_level b _ = omega arith

pub level_most : (b : List ℕ) (frames f : ℕ) → level_of (kind_of (kinds b frames) f) ≤ 4
level_most b frames f = elim (cases_lt f frames) [
  | inl inside ↦
      subst (λ k. level_of k ≤ 4) (sym (kind_inside b frames f inside))
      (part_level b (part_at (division_of b frames) f))
  | inr past ↦ subst (λ k. level_of k ≤ 4) (sym (kind_past b frames f past)) (omega arith)
]

-- a frame of a kind that is a table lies in memory
pub table_inside : (b : List ℕ) (frames f : ℕ) → 1 ≤ level_of (kind_of (kinds b frames) f) → f < frames
table_inside b frames f table = elim (cases_lt f frames) [
  | inl inside ↦ inside
  | inr past ↦ absurd (omega (arith, table, ap level_of (kind_past b frames f past)))
]

-- and its part is one of the opening's tables
kind_table : (b : List ℕ) (part : Part) → 1 ≤ level_of (kind_of_part b part) → 0 < table_level part
kind_table b Root is = omega arith
kind_table b MapRoot is = omega arith
kind_table b MapDirectory is = omega arith
kind_table b (MapTable k) is = omega arith
kind_table b (ImagePage k) is = absurd (omega (arith, is, image_level (is_executable b (get_or (pages_of b) k 0))))
kind_table b _ is = absurd (omega (arith, is))

pub held_entry : (b : List ℕ) (frames f i : ℕ) (t : ℕ → ℕ → ℕ) → HoldsOpeningTables b frames t → i < 512 → f < frames →
    1 ≤ level_of (kind_of_part b (part_at (division_of b frames) f)) →
    t f i ≡ entry_of_part b (division_of b frames) (part_at (division_of b frames) f) i
held_entry b frames f i t holds small inside table =
    holds.entries f i inside small (kind_table b (part_at (division_of b frames) f) table)
    ∙ entry_within b frames f i small

-- an entry grants, if it is present, what the kind of the frame that it names allows
abbrev Grants : List Kind → ℕ → Type 0
Grants ks e = is_present e ≡ true → allows (kind_of ks (frame_of e)) (rights_of e) ≡ true

grants_none : (ks : List Kind) → Grants ks 0
grants_none ks there = none_present (allows (kind_of ks (frame_of 0)) (rights_of 0) ≡ true) there

grants_leaf : (ks : List Kind) (e g : ℕ) (r : Rights) → frame_of e ≡ g → rights_of e ≡ r →
    allows (kind_of ks g) r ≡ true → Grants ks e
grants_leaf ks e g r names rights holds there = (λ j. allows (kind_of ks (names j)) (rights j)) ∙ holds

grants_read : (ks : List Kind) (g : ℕ) → g < 2 ^ 40 → allows (kind_of ks g) (readable g).rights ≡ true →
    Grants ks (read_leaf g)
grants_read ks g small = grants_leaf ks (read_leaf g) g (readable g).rights
    (frame_of_leaf g 33 true small (omega arith)) (rights_of_read g small)

grants_write : (ks : List Kind) (g : ℕ) → g < 2 ^ 40 → allows (kind_of ks g) (writable g).rights ≡ true →
    Grants ks (write_leaf g)
grants_write ks g small = grants_leaf ks (write_leaf g) g (writable g).rights
    (frame_of_leaf g 99 true small (omega arith)) (rights_of_write g small)

-- an image page isn't both executable and writable
image_grants : (ks : List Kind) (f : ℕ) (x w : Bool) → f < 2 ^ 40 → (x ≡ true → w ≡ false) →
    kind_of ks f ≡ cond x Code Data →
    Grants ks (cond w (write_leaf f) (read_leaf f))
image_grants ks f true true small apart kind = absurd (false≢true (sym (apart refl)))
image_grants ks f true false small apart kind = grants_read ks f small (ap (λ k. allows k (readable f).rights) kind)
image_grants ks f false true small apart kind = grants_write ks f small (ap (λ k. allows k (writable f).rights) kind)
image_grants ks f false false small apart kind = grants_read ks f small (ap (λ k. allows k (readable f).rights) kind)

-- the direct map's leaf of a frame
mapped_grants : (b : List ℕ) (ks : List Kind) (f : ℕ) (part : Part) → IsPageList b (pages_of b) → f < 2 ^ 40 →
    kind_of ks f ≡ kind_of_part b part → Grants ks (mapped_leaf b f part)
mapped_grants b ks f WriteLog list small kind = grants_none ks
mapped_grants b ks f WrittenBits list small kind = grants_none ks
mapped_grants b ks f RegionBook list small kind = grants_none ks
mapped_grants b ks f Descriptors list small kind = grants_none ks
mapped_grants b ks f (ImagePage k) list small kind =
    let page : ℕ = get_or (pages_of b) k 0 in
    image_grants ks f (is_executable b page) (is_writable b page) small (list.unwritable page) kind
mapped_grants b ks f Free list small kind = grants_write ks f small (ap (λ k. allows k (writable f).rights) kind)
mapped_grants b ks f _ list small kind = grants_read ks f small (ap (λ k. allows k (readable f).rights) kind)

map_grants : (b : List ℕ) (frames g : ℕ) → IsLayout b (division_of b frames) → IsPageList b (pages_of b) →
    Grants (kinds b frames) (map_entry b (division_of b frames) g)
map_grants b frames g layout list =
    let most : frames ≤ 65536 = layout.most in
    cond_both (nat_lt g frames) _ _ (Grants (kinds b frames))
    (λ t. let inside : g < frames = ltb-true g frames t in
    mapped_grants b (kinds b frames) g (part_at (division_of b frames) g) list (omega arith)
    (kind_inside b frames g inside))
    (λ t. grants_none (kinds b frames))

-- a table of level 1 is one of the direct map's
part_grants : (b : List ℕ) (frames i : ℕ) (part : Part) → IsLayout b (division_of b frames) →
    IsPageList b (pages_of b) →
    level_of (kind_of_part b part) ≡ 1 → Grants (kinds b frames) (entry_of_part b (division_of b frames) part i)
part_grants b frames i (MapTable k) layout list is = map_grants b frames (512 * k + i) layout list
part_grants b frames i (ImagePage k) layout list is =
    absurd (omega (arith, is, image_level (is_executable b (get_or (pages_of b) k 0))))
part_grants b frames i _ layout list is = absurd (omega (arith, is))

pub leaf_allowed : (b : List ℕ) (frames f i : ℕ) (t : ℕ → ℕ → ℕ) → IsLayout b (division_of b frames) →
    IsPageList b (pages_of b) →
    HoldsOpeningTables b frames t → i < 512 → level_of (kind_of (kinds b frames) f) ≡ 1 → is_present (t f i) ≡ true →
    allows (kind_of (kinds b frames) (frame_of (t f i))) (rights_of (t f i)) ≡ true
leaf_allowed b frames f i t layout list holds small is =
    let inside : f < frames = table_inside b frames f (omega arith) in
    let level : level_of (kind_of_part b (part_at (division_of b frames) f)) ≡ 1 =
    ap level_of (sym (kind_inside b frames f inside)) ∙ is in
    subst (Grants (kinds b frames)) (sym (held_entry b frames f i t holds small inside (omega arith)))
    (part_grants b frames i (part_at (division_of b frames) f) layout list level)

-- an entry of a table of this level is, if it is present, a link to a table one level down
abbrev Links : List Kind → ℕ → ℕ → Type 0
Links ks level e = is_present e ≡ true →
    (level_of (kind_of ks (frame_of e)) + 1 ≡ level) × (grants_writes e ≡ true) × (is_user e ≡ true) ×
    (grants_fetches e ≡ true)

links_none : (ks : List Kind) (level : ℕ) → Links ks level 0
links_none ks level there =
    none_present ((level_of (kind_of ks (frame_of 0)) + 1 ≡ level) × (grants_writes 0 ≡ true) × (is_user 0 ≡ true) ×
    (grants_fetches 0 ≡ true)) there

-- a link to a frame in memory, by its part
links_to : (b : List ℕ) (frames level g : ℕ) (part : Part) → g < frames → g < 2 ^ 40 →
    part_at (division_of b frames) g ≡ part →
    level_of (kind_of_part b part) + 1 ≡ level → Links (kinds b frames) level (link g)
links_to b frames level g part inside small is below there =
    let kind : kind_of (kinds b frames) (frame_of (link g)) ≡ kind_of_part b part =
    ap (kind_of (kinds b frames)) (frame_of_link g small) ∙ kind_inside b frames g inside ∙ ap (kind_of_part b) is in
    let grants = link_grants g small in
    (ap (λ k. level_of k + 1) kind ∙ below, grants.0, grants.1, grants.2)

part_links : (b : List ℕ) (frames i : ℕ) (part : Part) → IsLayout b (division_of b frames) →
    2 ≤ level_of (kind_of_part b part) → is_slot_entry (level_of (kind_of_part b part)) i ≡ false →
    Links (kinds b frames) (level_of (kind_of_part b part)) (entry_of_part b (division_of b frames) part i)
part_links b frames i Root layout is other =
    let d : Division = division_of b frames in
    let most : frames ≤ 65536 = layout.most in
    let room : free_start d ≤ frames = layout.room in
    cond_both (i == 256) _ _ (Links (kinds b frames) 4)
    (λ t. links_to b frames 4 (map_start d) MapRoot (omega arith) (omega arith) (map_root_part d) refl)
    (λ u. cond_both (i == 511) _ _ (Links (kinds b frames) 4) (λ t. absurd (both_ways (i == 511) other t))
    (λ t. links_none (kinds b frames) 4))
part_links b frames i MapRoot layout is other =
    let d : Division = division_of b frames in
    let most : frames ≤ 65536 = layout.most in
    let room : free_start d ≤ frames = layout.room in
    cond_both (i == 0) _ _ (Links (kinds b frames) 3)
    (λ t. links_to b frames 3 (map_start d + 1) MapDirectory (omega arith) (omega arith) (map_directory_part d) refl)
    (λ t. links_none (kinds b frames) 3)
part_links b frames i MapDirectory layout is other =
    let d : Division = division_of b frames in
    let most : frames ≤ 65536 = layout.most in
    let room : free_start d ≤ frames = layout.room in
    cond_both (nat_lt i (map_tables d)) _ _ (Links (kinds b frames) 2)
    (λ t. let few : i < map_tables d = ltb-true i (map_tables d) t in
    links_to b frames 2 (map_start d + 2 + i) (MapTable i) (omega arith) (omega arith) (map_table_part d i few) refl)
    (λ t. links_none (kinds b frames) 2)
part_links b frames i (ImagePage k) layout is other =
    absurd (omega (arith, is, image_level (is_executable b (get_or (pages_of b) k 0))))
part_links b frames i _ layout is other = absurd (omega (arith, is))

pub link_named : (b : List ℕ) (frames f i : ℕ) (t : ℕ → ℕ → ℕ) → IsLayout b (division_of b frames) →
    HoldsOpeningTables b frames t →
    i < 512 → 2 ≤ level_of (kind_of (kinds b frames) f) →
    is_slot_entry (level_of (kind_of (kinds b frames) f)) i ≡ false →
    is_present (t f i) ≡ true →
    (level_of (kind_of (kinds b frames) (frame_of (t f i))) + 1 ≡ level_of (kind_of (kinds b frames) f))
    × (grants_writes (t f i) ≡ true) × (is_user (t f i) ≡ true) × (grants_fetches (t f i) ≡ true)
link_named b frames f i t layout holds small is other =
    let part : Part = part_at (division_of b frames) f in
    let inside : f < frames = table_inside b frames f (omega arith) in
    let same : level_of (kind_of_part b part) ≡ level_of (kind_of (kinds b frames) f) =
    ap level_of (sym (kind_inside b frames f inside)) in
    subst (λ level. Links (kinds b frames) level (t f i)) same
    (subst (Links (kinds b frames) (level_of (kind_of_part b part)))
    (sym (held_entry b frames f i t holds small inside (omega arith)))
    (part_links b frames i part layout (omega arith) (ap (λ level. is_slot_entry level i) same ∙ other)))

-- entry 511 of a table of level 4, which is the root
part_slot : (b : List ℕ) (d : Division) (part : Part) → level_of (kind_of_part b part) ≡ 4 →
    entry_of_part b d part 511 ≡ slot_value
part_slot b d Root is = slot_link
part_slot b d (ImagePage k) is = absurd (omega (arith, is, image_level (is_executable b (get_or (pages_of b) k 0))))
part_slot b d _ is = absurd (omega (arith, is))

pub slot_entry_kept : (b : List ℕ) (frames f : ℕ) (t : ℕ → ℕ → ℕ) → IsLayout b (division_of b frames) →
    HoldsOpeningTables b frames t →
    level_of (kind_of (kinds b frames) f) ≡ 4 → t f 511 ≡ slot_value
slot_entry_kept b frames f t layout holds is =
    let part : Part = part_at (division_of b frames) f in
    let inside : f < frames = table_inside b frames f (omega arith) in
    let level : level_of (kind_of_part b part) ≡ 4 = ap level_of (sym (kind_inside b frames f inside)) ∙ is in
    held_entry b frames f 511 t holds (omega arith) inside (omega arith) ∙ part_slot b (division_of b frames) part level
