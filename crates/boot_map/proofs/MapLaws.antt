-- The opening's direct map: what its leaves grant, the kinds of the frames allow.
use Rattle.std.proofs.Common.{◌≡◌, ◌≢◌, ◌==◌, ◌||◌, ◌⊎◌, ℕ, ◌+◌, ◌*◌, ◌-◌, ◌/◌, ◌^◌, ◌<◌, ◌≤◌, Bool, true, false, cond, List, get_or, nat_lt, Option, Some, None, refl, sym, ap, subst, ◌∙◌, arith, inl, inr}
use Rattle.std.specs.Prelude.{IfOk, IfSome, Ok, Err, Result}
use Rattle.std.specs.Result.{result_ok}
use Rattle.std.proofs.lemmas.Bool.{cases_eq, cases_lt, cond-true, cond-false, eq-eqb, eqb-true, false≢true, le-ltb, lt-ltb, ne_eqb}
use Rattle.nk_bits.specs.declared.leaf.Leaf.{Leaf}
use Rattle.nk_bits.specs.declared.kind.Kind.{Kind}
use Rattle.nk_bits.specs.declared.kind.Kind.TheVariants.{Data, Code}
use Rattle.nk_bits.specs.Kinds.{allows, kind_of}
use Rattle.nk_bits.specs.Paging.{all_rights, is_canonical_page, page_index, walk, walk_from}
use Rattle.elf_image.specs.Pages.{IsPageList, is_executable, is_writable, pages_of}
use Rattle.boot_map.specs.declared.part.Part.{Part}
use Rattle.boot_map.specs.declared.part.Part.TheVariants.{WriteLog, WrittenBits, RegionBook, Descriptors, ImagePage, Free}
use Rattle.nk_bits.specs.KernelLayout.{opening_root}
use Rattle.boot_map.specs.Division.{Division, IsLayout, division_of, free_start, map_start, map_tables}
use Rattle.boot_map.specs.Parts.{part_at}
use Rattle.boot_map.specs.OpeningKinds.{kind_of_part, kinds}
use Rattle.boot_map.specs.OpeningEntries.{opening_entry, entry_of_part, link, map_directory_entry, map_entry, mapped_leaf, read_leaf, root_entry, write_leaf}
use Rattle.boot_map.specs.KernelSlot.{readable, slot_start, writable}
use Rattle.boot_map.proofs.OpeningLaws.{kind_at_part, kinds_each}
use Rattle.boot_map.proofs.SlotLaws.{Shows, shows_choice, shows_none, shows_read, shows_write, step_link, step_none}
use Rattle.boot_map.proofs.WalkLaws.{entry_within, index_small, map_directory_part, map_root_part, map_table_part}
use Rattle.boot_map.proofs.WalkSchema.{walk_by_level}

-- the leaf that the direct map has for a frame of this part
abbrev map_leaf : List ℕ → ℕ → Part → Option Leaf
map_leaf b f WriteLog = None
map_leaf b f WrittenBits = None
map_leaf b f RegionBook = None
map_leaf b f Descriptors = None
map_leaf b f (ImagePage k) = cond (is_writable b (get_or (pages_of b) k 0)) (Some (writable f)) (Some (readable f))
map_leaf b f Free = Some (writable f)
map_leaf b f _ = Some (readable f)

mapped_shows : (b : List ℕ) (frames f : ℕ) (part : Part) → f < frames → f < 2 ^ 40 → Shows frames (mapped_leaf b f part) (map_leaf b f part)
mapped_shows b frames f WriteLog inside small = shows_none frames
mapped_shows b frames f WrittenBits inside small = shows_none frames
mapped_shows b frames f RegionBook inside small = shows_none frames
mapped_shows b frames f Descriptors inside small = shows_none frames
mapped_shows b frames f (ImagePage k) inside small = shows_choice frames (is_writable b (get_or (pages_of b) k 0)) (write_leaf f) (read_leaf f) (Some (writable f)) (Some (readable f)) (shows_write frames f inside small) (shows_read frames f inside small)
mapped_shows b frames f Free inside small = shows_write frames f inside small
mapped_shows b frames f _ inside small = shows_read frames f inside small

-- an image page isn't both executable and writable
image_allows : (ks : List Kind) (f : ℕ) (x w : Bool) → (x ≡ true → w ≡ false) → kind_of ks f ≡ cond x Code Data → IfSome (cond w (Some (writable f)) (Some (readable f))) (λ leaf. allows (kind_of ks leaf.frame) leaf.rights ≡ true)
image_allows ks f true true apart kind = absurd (false≢true (sym (apart refl)))
image_allows ks f true false apart kind = ap (λ k. allows k (readable f).rights) kind
image_allows ks f false true apart kind = ap (λ k. allows k (writable f).rights) kind
image_allows ks f false false apart kind = ap (λ k. allows k (readable f).rights) kind

-- what the direct map grants to a frame, the kind of its part allows
map_allows : (b : List ℕ) (ks : List Kind) (f : ℕ) (part : Part) → IsPageList b (pages_of b) → kind_of ks f ≡ kind_of_part b part → IfSome (map_leaf b f part) (λ leaf. allows (kind_of ks leaf.frame) leaf.rights ≡ true)
map_allows b ks f WriteLog list kind = tt
map_allows b ks f WrittenBits list kind = tt
map_allows b ks f RegionBook list kind = tt
map_allows b ks f Descriptors list kind = tt
map_allows b ks f (ImagePage k) list kind =
    image_allows ks f (is_executable b (get_or (pages_of b) k 0)) (is_writable b (get_or (pages_of b) k 0)) (list.unwritable (get_or (pages_of b) k 0)) kind
map_allows b ks f Free list kind = ap (λ k. allows k (writable f).rights) kind
map_allows b ks f _ list kind = ap (λ k. allows k (readable f).rights) kind

-- what holds of the leaf that a result shows, if any
ok_shown : (r : Result Leaf ℕ) (o : Option Leaf) (P : Leaf → Type 0) → result_ok r ≡ o → IfSome o P → IfOk r P
ok_shown (Ok leaf) o P shown holds = subst (λ x. IfSome x P) (sym shown) holds
ok_shown (Err level) o P shown holds = tt

or_either : (x y : Bool) → (x || y) ≡ true → (x ≡ true) ⊎ (y ≡ true)
or_either true y t = inl refl
or_either false y t = inr t

-- the first digit of a canonical page below the slot isn't the slot's
first_digit : (page : ℕ) → is_canonical_page page ≡ true → page < slot_start → page_index page 4 ≢ 511
unfolding page_index
first_digit page canonical below same = elim (or_either _ _ canonical) [
  | inl low ↦ let bound : 4096 * page / 2 ^ 47 ≡ 0 = eqb-true _ _ low in absurd (omega (arith, bound, same))
  | inr high ↦ let bound : 4096 * page / 2 ^ 47 ≡ 2 ^ 17 - 1 = eqb-true _ _ high in absurd (omega (arith, bound, same))
]

root_entries : (b : List ℕ) (frames i : ℕ) → i < 512 → opening_entry b frames opening_root i ≡ root_entry (division_of b frames) i
unfolding part_at
root_entries b frames i small = entry_within b frames opening_root i small

abbrev Respected : List ℕ → ℕ → Leaf → Type 0
Respected b frames leaf = allows (kind_of (kinds b frames) leaf.frame) leaf.rights ≡ true

-- a level 1 table of the direct map
map_table_walk : (b : List ℕ) (frames page k : ℕ) → IsLayout b (division_of b frames) → IsPageList b (pages_of b) → k < map_tables (division_of b frames) →
    IfOk (walk_from (opening_entry b frames) frames page 1 (map_start (division_of b frames) + 2 + k) all_rights) (Respected b frames)
unfolding Shows
map_table_walk b frames page k layout list small =
    let d : Division = division_of b frames in
    let most : frames ≤ 65536 = layout.most in
    let i : ℕ = page_index page 1 in
    let g : ℕ = 512 * k + i in
    let table : ℕ = map_start d + 2 + k in
    let entry : opening_entry b frames table i ≡ map_entry b d g =
    entry_within b frames table i (index_small page 1) ∙ ap (λ part. entry_of_part b d part i) (map_table_part d k small) in
    elim (cases_lt g frames) [
      | inl inside ↦
          let leaf : opening_entry b frames table i ≡ mapped_leaf b g (part_at d g) = entry ∙ cond-true (nat_lt g frames) _ _ (lt-ltb g frames inside) in
          ok_shown (walk_from (opening_entry b frames) frames page 1 table all_rights) (map_leaf b g (part_at d g)) (Respected b frames)
          (mapped_shows b frames g (part_at d g) inside (omega arith) (opening_entry b frames) page table leaf)
          (map_allows b (kinds b frames) g (part_at d g) list (kinds_each b frames g inside ∙ kind_at_part b frames g))
      | inr past ↦
          ok_shown (walk_from (opening_entry b frames) frames page 1 table all_rights) None (Respected b frames)
          (step_none (opening_entry b frames) frames page 0 table (entry ∙ cond-false (nat_lt g frames) _ _ (le-ltb g frames past))) tt
    ]

-- its level 2 table
map_directory_walk : (b : List ℕ) (frames page : ℕ) → IsLayout b (division_of b frames) → IsPageList b (pages_of b) →
    IfOk (walk_from (opening_entry b frames) frames page 2 (map_start (division_of b frames) + 1) all_rights) (Respected b frames)
map_directory_walk b frames page layout list =
    let d : Division = division_of b frames in
    let most : frames ≤ 65536 = layout.most in
    let room : free_start d ≤ frames = layout.room in
    let i : ℕ = page_index page 2 in
    let f : ℕ = map_start d + 1 in
    let entry : opening_entry b frames f i ≡ map_directory_entry d i =
    entry_within b frames f i (index_small page 2) ∙ ap (λ part. entry_of_part b d part i) (map_directory_part d) in
    elim (cases_lt i (map_tables d)) [
      | inl some ↦
          let links : opening_entry b frames f i ≡ link (map_start d + 2 + i) = entry ∙ cond-true (nat_lt i (map_tables d)) _ _ (lt-ltb i (map_tables d) some) in
          subst (λ r. IfOk r (Respected b frames)) (sym (step_link (opening_entry b frames) frames page 1 f (map_start d + 2 + i) links (omega arith) (omega arith)))
          (map_table_walk b frames page i layout list some)
      | inr past ↦
          ok_shown (walk_from (opening_entry b frames) frames page 2 f all_rights) None (Respected b frames)
          (step_none (opening_entry b frames) frames page 1 f (entry ∙ cond-false (nat_lt i (map_tables d)) _ _ (le-ltb i (map_tables d) past))) tt
    ]

-- its level 3 table
map_root_walk : (b : List ℕ) (frames page : ℕ) → IsLayout b (division_of b frames) → IsPageList b (pages_of b) →
    IfOk (walk_from (opening_entry b frames) frames page 3 (map_start (division_of b frames)) all_rights) (Respected b frames)
map_root_walk b frames page layout list =
    let d : Division = division_of b frames in
    let most : frames ≤ 65536 = layout.most in
    let room : free_start d ≤ frames = layout.room in
    let i : ℕ = page_index page 3 in
    let f : ℕ = map_start d in
    let entry : opening_entry b frames f i ≡ cond (i == 0) (link (map_start d + 1)) 0 =
    entry_within b frames f i (index_small page 3) ∙ ap (λ part. entry_of_part b d part i) (map_root_part d) in
    elim (cases_eq i 0) [
      | inl first ↦
          let links : opening_entry b frames f i ≡ link (map_start d + 1) = entry ∙ cond-true (i == 0) _ _ (eq-eqb i 0 first) in
          subst (λ r. IfOk r (Respected b frames)) (sym (step_link (opening_entry b frames) frames page 2 f (map_start d + 1) links (omega arith) (omega arith)))
          (map_directory_walk b frames page layout list)
      | inr other ↦
          ok_shown (walk_from (opening_entry b frames) frames page 3 f all_rights) None (Respected b frames)
          (step_none (opening_entry b frames) frames page 2 f (entry ∙ cond-false (i == 0) _ _ (ne_eqb i 0 other))) tt
    ]

-- outside the slot the opening grants only what the kinds of its frames allow
pub opening_respects : (b : List ℕ) (frames page : ℕ) → IsLayout b (division_of b frames) → IsPageList b (pages_of b) → is_canonical_page page ≡ true → page < slot_start →
    IfOk (walk (opening_entry b frames) frames opening_root page) (λ leaf. allows (kind_of (kinds b frames) leaf.frame) leaf.rights ≡ true)
opening_respects b frames page layout list canonical below =
    let d : Division = division_of b frames in
    let most : frames ≤ 65536 = layout.most in
    let room : free_start d ≤ frames = layout.room in
    let i : ℕ = page_index page 4 in
    let entry : opening_entry b frames opening_root i ≡ root_entry d i = root_entries b frames i (index_small page 4) in
    subst (λ r. IfOk r (Respected b frames)) (sym (walk_by_level (opening_entry b frames) frames opening_root page))
    (elim (cases_eq i 256) [
      | inl map ↦
          let links : opening_entry b frames opening_root i ≡ link (map_start d) = entry ∙ cond-true (i == 256) _ _ (eq-eqb i 256 map) in
          subst (λ r. IfOk r (Respected b frames)) (sym (step_link (opening_entry b frames) frames page 3 opening_root (map_start d) links (omega arith) (omega arith)))
          (map_root_walk b frames page layout list)
      | inr other ↦
          ok_shown (walk_from (opening_entry b frames) frames page 4 opening_root all_rights) None (Respected b frames)
          (step_none (opening_entry b frames) frames page 3 opening_root
          (entry ∙ cond-false (i == 256) _ _ (ne_eqb i 256 other) ∙ cond-false (i == 511) _ _ (ne_eqb i 511 (first_digit page canonical below)))) tt
    ])
