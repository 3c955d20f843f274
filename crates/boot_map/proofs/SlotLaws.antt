-- The walk of a page of the kernel slot finds the slot's linear layout.
use Rattle.std.proofs.Common.{◌≡◌, ◌≢◌, ◌==◌, ◌&&◌, ◌⊎◌, ℕ, zero, suc, ◌+◌, ◌*◌, ◌-◌, ◌/◌, ◌%◌, ◌^◌, ◌<◌, ◌≤◌, Bool, true, false, cond, not, List, length, get_or, nat_lt, nat_le, Option, Some, None, refl, sym, ap, subst, ◌∙◌, arith, inl, inr, ◌∷◌}
use Rattle.std.specs.Prelude.{Ok, Err, filter, if◌then◌else◌}
use Rattle.std.specs.Result.{result_ok}
use Rattle.std.proofs.lemmas.Bool.{and_parts, cases_lt, cases_eq, cond-true, cond-false, lt-ltb, le-ltb, lt-leb, eq-eqb, ne_eqb, or_from, not_from_true, eqb-true, both_ways, ltb-false, ltb-true, and_right}
use Rattle.std.proofs.lemmas.List.Sums.{position_or_len_is, fails_before_first}
use Rattle.std.proofs.lemmas.List.Quantifiers.{position-Some}
use Rattle.std.proofs.lemmas.List.Folds.{list_any_at}
use Rattle.std.proofs.lemmas.List.FromFn.{length-range_with_len, get_or-range_with_len}
use Rattle.std.specs.List.{position, position_or_len, range_with_len}
use Rattle.nk_bits.specs.declared.leaf.Rights.{Rights}
use Rattle.nk_bits.specs.declared.leaf.Leaf.{Leaf}
use Rattle.nk_bits.specs.Paging.{all_rights, common, frame_of, grants_fetches, is_large, is_missing, is_present, is_user, grants_writes, page_index, rights_of, upper_from, walk, walk_from}
use Rattle.elf_image.specs.Pages.{IsPageList, is_page, pages_of}
use Rattle.boot_map.specs.Division.{Division, IsLayout, division_of, free_start, is_touched, page_in, pages_start, ranges_of, tables_start}
use Rattle.boot_map.specs.Parts.{part_at}
use Rattle.boot_map.specs.OpeningEntries.{area_entry, opening_entry, entry_of_part, fetch_leaf, leaf, link, page_entry, placed_leaf, range_entry, range_link, read_leaf, slot_entry, write_leaf}
use Rattle.nk_bits.specs.KernelLayout.{opening_root, slot_table}
use Rattle.boot_map.specs.KernelSlot.{area_leaf, fetchable, image_leaf, readable, slot_leaf, slot_start, writable}
use Rattle.boot_map.proofs.WalkSchema.{walk_by_level}
use Rattle.boot_map.proofs.WalkLaws.{entry_within, frame_of_link, missing_zero, index_small, range_table_part}

-- what a look-up makes of a link
link_there : (frames level g : ℕ) → g < frames → g < 2 ^ 40 → is_missing frames level (link g) ≡ false
unfolding is_missing is_present is_large link
link_there frames level g inside small =
    let present : (4096 * g + 39) % 2 ≡ 1 = omega arith in
    let large : (4096 * g + 39) / 128 % 2 ≡ 1 → ⊥ = λ e. absurd (omega (arith, e)) in
    or_from _ _ (or_from _ _ (not_from_true _ (eq-eqb _ _ present)) (lt-leb frames (frame_of (link g)) (subst (λ x. x < frames) (sym (frame_of_link g small)) inside)))
    (and_right _ _ (ne_eqb _ _ large))

rights_of_link : (g : ℕ) → g < 2 ^ 40 → rights_of (link g) ≡ all_rights
unfolding grants_writes is_user grants_fetches link
rights_of_link g small =
    let write : ((4096 * g + 39) / 2 % 2 == 1) ≡ true = eq-eqb _ _ (omega arith) in
    let user : ((4096 * g + 39) / 4 % 2 == 1) ≡ true = eq-eqb _ _ (omega arith) in
    let exec : ((4096 * g + 39) / 2 ^ 63 % 2 == 1) ≡ false = ne_eqb _ _ (λ e. absurd (omega (arith, e))) in
    λ j. record { can_write = write j; user = user j; exec = not (exec j) }

-- a look-up that finds a link goes on in the table that it names
pub step_link : (t : ℕ → ℕ → ℕ) (frames page level f g : ℕ) → t f (page_index page (suc level)) ≡ link g → g < frames → g < 2 ^ 40 →
    walk_from t frames page (suc level) f all_rights ≡ walk_from t frames page level g all_rights
unfolding walk_from
step_link t frames page level f g is inside small =
    ap (λ e. if is_missing frames (suc level) e then Err (suc level) else walk_from t frames page level (frame_of e) (common all_rights (rights_of e))) is
    ∙ cond-false _ _ _ (link_there frames (suc level) g inside small)
    ∙ (λ j. walk_from t frames page level (frame_of_link g small j) (common all_rights (rights_of_link g small j)))

pub upper_step_link : (t : ℕ → ℕ → ℕ) (frames page left level f g : ℕ) → t f (page_index page (suc level)) ≡ link g → g < frames → g < 2 ^ 40 →
    upper_from t frames page (suc left) (suc level) f all_rights ≡ upper_from t frames page left level g all_rights
unfolding upper_from
upper_step_link t frames page left level f g is inside small =
    ap (λ e. if is_missing frames (suc level) e then None else upper_from t frames page left level (frame_of e) (common all_rights (rights_of e))) is
    ∙ cond-false _ _ _ (link_there frames (suc level) g inside small)
    ∙ (λ j. upper_from t frames page left level (frame_of_link g small j) (common all_rights (rights_of_link g small j)))

-- a look-up that finds 0 ends the walk
pub step_none : (t : ℕ → ℕ → ℕ) (frames page level f : ℕ) → t f (page_index page (suc level)) ≡ 0 → result_ok (walk_from t frames page (suc level) f all_rights) ≡ None
unfolding walk_from
step_none t frames page level f is =
    ap (λ e. result_ok (if is_missing frames (suc level) e then Err (suc level) else walk_from t frames page level (frame_of e) (common all_rights (rights_of e)))) is
    ∙ ap result_ok (cond-true _ _ _ (missing_zero frames (suc level)))

-- a level 1 entry shows as this leaf, or as none
unfoldable pub Shows : ℕ → ℕ → Option Leaf → Type 0
Shows frames e o = (t : ℕ → ℕ → ℕ) (page f : ℕ) → t f (page_index page 1) ≡ e → result_ok (walk_from t frames page 1 f all_rights) ≡ o

pub shows_none : (frames : ℕ) → Shows frames 0 None
unfolding Shows
shows_none frames t page f is = step_none t frames page 0 f is

shows_leaf : (frames e g : ℕ) (r : Rights) → is_present e ≡ true → frame_of e ≡ g → g < frames → rights_of e ≡ r → Shows frames e (Some (record { frame = g; rights = r }))
unfolding Shows walk_from is_missing
shows_leaf frames e g r present names inside rights t page f is =
    let there : is_missing frames 1 e ≡ false = or_from _ _ (or_from _ _ (not_from_true _ present) (lt-leb frames (frame_of e) (subst (λ x. x < frames) (sym names) inside))) refl in
    ap (λ x. result_ok {E = ℕ} (if is_missing frames 1 x then Err 1 else Ok (record { frame = frame_of x; rights = common all_rights (rights_of x) }))) is
    ∙ ap result_ok (cond-false _ _ _ there)
    ∙ (λ j. Some (record { frame = names j; rights = common all_rights (rights j) }))

pub shows_read : (frames g : ℕ) → g < frames → g < 2 ^ 40 → Shows frames (read_leaf g) (Some (readable g))
unfolding leaf is_present frame_of grants_writes is_user grants_fetches
shows_read frames g inside small =
    let present : ((2 ^ 63 + 4096 * g + 33) % 2 == 1) ≡ true = eq-eqb _ _ (omega arith) in
    let names : (2 ^ 63 + 4096 * g + 33) / 4096 % 2 ^ 40 ≡ g = omega arith in
    let write : ((2 ^ 63 + 4096 * g + 33) / 2 % 2 == 1) ≡ false = ne_eqb _ _ (λ e. absurd (omega (arith, e))) in
    let user : ((2 ^ 63 + 4096 * g + 33) / 4 % 2 == 1) ≡ false = ne_eqb _ _ (λ e. absurd (omega (arith, e))) in
    let exec : ((2 ^ 63 + 4096 * g + 33) / 2 ^ 63 % 2 == 1) ≡ true = eq-eqb _ _ (omega arith) in
    shows_leaf frames (read_leaf g) g _ present names inside (λ j. record { can_write = write j; user = user j; exec = not (exec j) })

pub shows_write : (frames g : ℕ) → g < frames → g < 2 ^ 40 → Shows frames (write_leaf g) (Some (writable g))
unfolding leaf is_present frame_of grants_writes is_user grants_fetches
shows_write frames g inside small =
    let present : ((2 ^ 63 + 4096 * g + 99) % 2 == 1) ≡ true = eq-eqb _ _ (omega arith) in
    let names : (2 ^ 63 + 4096 * g + 99) / 4096 % 2 ^ 40 ≡ g = omega arith in
    let write : ((2 ^ 63 + 4096 * g + 99) / 2 % 2 == 1) ≡ true = eq-eqb _ _ (omega arith) in
    let user : ((2 ^ 63 + 4096 * g + 99) / 4 % 2 == 1) ≡ false = ne_eqb _ _ (λ e. absurd (omega (arith, e))) in
    let exec : ((2 ^ 63 + 4096 * g + 99) / 2 ^ 63 % 2 == 1) ≡ true = eq-eqb _ _ (omega arith) in
    shows_leaf frames (write_leaf g) g _ present names inside (λ j. record { can_write = write j; user = user j; exec = not (exec j) })

shows_fetch : (frames g : ℕ) → g < frames → g < 2 ^ 40 → Shows frames (fetch_leaf g) (Some (fetchable g))
unfolding leaf is_present frame_of grants_writes is_user grants_fetches
shows_fetch frames g inside small =
    let present : ((0 + 4096 * g + 33) % 2 == 1) ≡ true = eq-eqb _ _ (omega arith) in
    let names : (0 + 4096 * g + 33) / 4096 % 2 ^ 40 ≡ g = omega arith in
    let write : ((0 + 4096 * g + 33) / 2 % 2 == 1) ≡ false = ne_eqb _ _ (λ e. absurd (omega (arith, e))) in
    let user : ((0 + 4096 * g + 33) / 4 % 2 == 1) ≡ false = ne_eqb _ _ (λ e. absurd (omega (arith, e))) in
    let exec : ((0 + 4096 * g + 33) / 2 ^ 63 % 2 == 1) ≡ false = ne_eqb _ _ (λ e. absurd (omega (arith, e))) in
    shows_leaf frames (fetch_leaf g) g _ present names inside (λ j. record { can_write = write j; user = user j; exec = not (exec j) })

-- a choice among entries shows as the choice among leaves
pub shows_choice : (frames : ℕ) (c : Bool) (e h : ℕ) (o p : Option Leaf) → Shows frames e o → Shows frames h p → Shows frames (cond c e h) (cond c o p)
shows_choice frames true e h o p first second = first
shows_choice frames false e h o p first second = second

shows_where : (frames : ℕ) (c : Bool) (e h : ℕ) (o p : Option Leaf) → (c ≡ true → Shows frames e o) → Shows frames h p → Shows frames (cond c e h) (cond c o p)
shows_where frames true e h o p first second = first refl
shows_where frames false e h o p first second = second

pool_shows : (frames i : ℕ) → 512 ≤ frames → Shows frames (cond (nat_le 16 i && nat_lt i 32) (read_leaf (10 + (i - 16))) 0) (cond (nat_le 16 i && nat_lt i 32) (Some (readable (10 + (i - 16)))) None)
pool_shows frames i least =
    shows_where frames (nat_le 16 i && nat_lt i 32) (read_leaf (10 + (i - 16))) 0 (Some (readable (10 + (i - 16)))) None (λ t.
    let below : i < 32 = ltb-true i 32 (and_parts (nat_le 16 i) (nat_lt i 32) t).1 in
    shows_read frames (10 + (i - 16)) (omega arith) (omega arith))
    (shows_none frames)

area_shows : (frames i : ℕ) → 512 ≤ frames → Shows frames (area_entry i) (area_leaf i)
area_shows frames i least =
    shows_choice frames _ _ _ _ _ (shows_read frames 0 (omega arith) (omega arith)) (
    shows_choice frames _ _ _ _ _ (shows_fetch frames 1 (omega arith) (omega arith)) (
    shows_choice frames _ _ _ _ _ (shows_read frames 2 (omega arith) (omega arith)) (
    shows_choice frames _ _ _ _ _ (shows_write frames 3 (omega arith) (omega arith)) (
    shows_choice frames _ _ _ _ _ (shows_read frames 4 (omega arith) (omega arith)) (pool_shows frames i least)))))

-- a page of the image, by its place
placed_shows : (b : List ℕ) (d : Division) (frames n : ℕ) (o : Option ℕ) → frames ≤ 2 ^ 40 → ((k : ℕ) → o ≡ Some k → pages_start d + k < frames) → Shows frames (placed_leaf b d n o) (image_leaf b (pages_start d) n o)
placed_shows b d frames n (Some k) most inside =
    let there : pages_start d + k < frames = inside k refl in
    shows_choice frames _ _ _ _ _ (shows_fetch frames (pages_start d + k) there (omega arith)) (
    shows_choice frames _ _ _ _ _ (shows_write frames (pages_start d + k) there (omega arith)) (shows_read frames (pages_start d + k) there (omega arith)))
placed_shows b d frames n None most inside = shows_none frames

-- a number that is nowhere in a list, and what a place that isn't found means
absent : (xs : List ℕ) (n : ℕ) → ((i : ℕ) → i < length xs → get_or xs i 0 ≢ n) → position (λ m. m == n) xs ≡ None
absent xs n differs =
    let place : position_or_len (λ m. m == n) xs ≡ length xs =
    position_or_len_is (λ m. m == n) xs (length xs) 0 (omega arith) (λ i h. ne_eqb (get_or xs i 0) n (differs i h)) (λ h. absurd (omega (arith, h))) in
    ap (λ p. cond (nat_lt p (length xs)) (Some p) None) place ∙ cond-false _ _ _ (le-ltb (length xs) (length xs) (omega arith))

none_after : (c : Bool) (k : ℕ) → cond c (Some k) None ≡ None → c ≡ false
none_after true k e = cc
none_after false k e = refl

nowhere_at : (xs : List ℕ) (n : ℕ) → position (λ m. m == n) xs ≡ None → (k : ℕ) → k < length xs → get_or xs k 0 ≢ n
nowhere_at xs n none k small same =
    let all : length xs ≤ position_or_len (λ m. m == n) xs = ltb-false _ _ (none_after _ _ none) in
    both_ways (get_or xs k 0 == n) (fails_before_first (λ m. m == n) xs k 0 (omega arith)) (eq-eqb _ _ same)

-- a list has this number at some place
abbrev pub Stands : List ℕ → ℕ → Type 0
Stands xs i = (k : ℕ) × (k < length xs) × (get_or xs k 0 ≡ i)

stands_next : (p : ℕ → Bool) (a i : ℕ) (xs : List ℕ) (c : Bool) → p a ≡ c → p i ≡ true → (a ≢ i → Stands xs i) → Stands (cond c (a ∷ xs) xs) i
stands_next p a i xs true is passes rest = elim (cases_eq a i) [
  | inl same ↦ (0, omega arith, same)
  | inr other ↦ let later = rest other in (suc later.0, omega (arith, later.1), later.2)
]
stands_next p a i xs false is passes rest = rest (λ same. both_ways (p a) is (ap p same ∙ passes))

-- each number of a range that passes a test stands among those that do
kept_at : (p : ℕ → Bool) (a n i : ℕ) → a ≤ i → i < a + n → p i ≡ true → Stands (filter p (range_with_len a n)) i
kept_at p a zero i low high passes = absurd (omega (arith, low, high))
kept_at p a (suc n) i low high passes =
    stands_next p a i (filter p (range_with_len (a + 1) n)) (p a) refl passes (λ other. kept_at p (a + 1) n i (omega arith) (omega arith) passes)

-- what the opening's tables hold for the kernel slot
table_entries : (b : List ℕ) (frames i : ℕ) → i < 512 →
    (opening_entry b frames 6 i ≡ slot_entry i) × (opening_entry b frames 7 i ≡ cond (i == 0) (link 8) 0) × (opening_entry b frames 8 i ≡ area_entry i) × (opening_entry b frames 9 i ≡ range_entry (division_of b frames) i)
unfolding part_at
table_entries b frames i small = (entry_within b frames 6 i small, entry_within b frames 7 i small, entry_within b frames 8 i small, entry_within b frames 9 i small)

pub root_entry_511 : (b : List ℕ) (frames : ℕ) → opening_entry b frames opening_root 511 ≡ link slot_table
unfolding opening_entry part_at
root_entry_511 b frames = refl

range_table_entry : (b : List ℕ) (frames k i : ℕ) → k < length (ranges_of b) → i < 512 → opening_entry b frames (tables_start (division_of b frames) + k) i ≡ page_entry b (division_of b frames) k i
range_table_entry b frames k i within small =
    let d : Division = division_of b frames in
    entry_within b frames (tables_start d + k) i small ∙ ap (λ part. entry_of_part b d part i) (range_table_part d k within)

-- a page outside the area's 32 and the image's home has no leaf
no_leaf : (b : List ℕ) (frames page : ℕ) → slot_start + 32 ≤ page → position (λ m. m == page) (pages_of b) ≡ None → slot_leaf b frames page ≡ None
unfolding slot_leaf
no_leaf b frames page past none =
    cond-false (nat_lt page (slot_start + 32)) _ _ (le-ltb page (slot_start + 32) past) ∙ ap (image_leaf b (pages_start (division_of b frames)) page) none

outside_home : (b : List ℕ) (page : ℕ) → IsPageList b (pages_of b) → (page < page_in 0 0) ⊎ (page_in 512 0 ≤ page) → position (λ m. m == page) (pages_of b) ≡ None
outside_home b page list outside =
    absent (pages_of b) page (λ i h same. let home = list.home i h in elim outside [ inl before ↦ absurd (omega (arith, home.0, same, before)) | inr after ↦ absurd (omega (arith, home.1, same, after)) ])

-- a page whose range the image doesn't touch is none of its pages
untouched : (b : List ℕ) (r i page : ℕ) → IsPageList b (pages_of b) → r < 512 → i < 512 → page ≡ page_in r i → position (λ m. m == r) (ranges_of b) ≡ None → position (λ m. m == page) (pages_of b) ≡ None
unfolding ranges_of is_touched
untouched b r i page list small within is none =
    absent (pages_of b) page (λ j h same.
    let there : get_or (range_with_len 0 512) i 0 ≡ i = get_or-range_with_len 0 512 i 0 within ∙ omega arith in
    let page_there : is_page b (page_in r (get_or (range_with_len 0 512) i 0)) ≡ true = ap (λ x. is_page b (page_in r x)) there ∙ ap (is_page b) (sym is ∙ sym same) ∙ list.touched j h in
    let touched : is_touched b r ≡ true = list_any_at (λ index. is_page b (page_in r index)) (range_with_len 0 512) i 0 (omega (arith, length-range_with_len 0 512)) page_there in
    let kept = kept_at (is_touched b) 0 512 r (omega arith) small touched in
    absurd (nowhere_at (ranges_of b) r none kept.0 kept.1 kept.2))

-- the digits in base 512 of a page of the slot
pub slot_indices : (page : ℕ) → slot_start ≤ page → page < 2 ^ 52 →
    (page_index page 4 ≡ 511) × (page_index page 3 ≡ (page - slot_start) / 262144) × (page_index page 2 ≡ (page - slot_start) / 512 % 512) × (page_index page 1 ≡ (page - slot_start) % 512)
unfolding page_index
slot_indices page low high = (omega arith, omega arith, omega arith, omega arith)

-- past the area's pages there is no leaf
area_past : (i : ℕ) → 32 ≤ i → area_leaf i ≡ None
area_past i past =
    cond-false (i == 0) _ _ (ne_eqb i 0 (λ e. absurd (omega (arith, e)))) ∙ cond-false (i == 1) _ _ (ne_eqb i 1 (λ e. absurd (omega (arith, e))))
    ∙ cond-false (i == 2) _ _ (ne_eqb i 2 (λ e. absurd (omega (arith, e)))) ∙ cond-false (i == 3) _ _ (ne_eqb i 3 (λ e. absurd (omega (arith, e))))
    ∙ cond-false (i == 4) _ _ (ne_eqb i 4 (λ e. absurd (omega (arith, e)))) ∙ cond-false (nat_le 16 i && nat_lt i 32) _ _ (and_right _ _ (le-ltb i 32 past))

-- a page whose third digit isn't the home's is outside the home
outside_third : (page : ℕ) → slot_start ≤ page → (page - slot_start) / 262144 ≢ 510 → (page < page_in 0 0) ⊎ (page_in 512 0 ≤ page)
outside_third page low other = elim (cases_lt page (page_in 0 0)) [ inl before ↦ inl before | inr after ↦ inr (omega (arith, after, other)) ]

-- the nested area: the first of its ranges, page by page
area_walk : (b : List ℕ) (frames page : ℕ) → IsPageList b (pages_of b) → 512 ≤ frames → slot_start ≤ page → page < slot_start + 512 →
    result_ok (walk_from (opening_entry b frames) frames page 1 8 all_rights) ≡ slot_leaf b frames page
unfolding slot_leaf Shows
area_walk b frames page list least low high =
    let i : ℕ = page - slot_start in
    let index : page_index page 1 ≡ i = (slot_indices page low (omega arith)).3 ∙ omega arith in
    let entry : opening_entry b frames 8 (page_index page 1) ≡ area_entry i = (table_entries b frames (page_index page 1) (index_small page 1)).2 ∙ ap area_entry index in
    let shown : result_ok (walk_from (opening_entry b frames) frames page 1 8 all_rights) ≡ area_leaf i = area_shows frames i least (opening_entry b frames) page 8 entry in
    elim (cases_lt page (slot_start + 32)) [
      | inl area ↦ shown ∙ sym (cond-true (nat_lt page (slot_start + 32)) _ _ (lt-ltb page (slot_start + 32) area))
      | inr past ↦ shown ∙ area_past i (omega arith) ∙ sym (no_leaf b frames page past (outside_home b page list (inl (omega arith))))
    ]

-- the image: a level 2 table, and a level 1 table for each range that it touches
image_walk : (b : List ℕ) (frames page : ℕ) → IsPageList b (pages_of b) → IsLayout b (division_of b frames) → slot_start ≤ page → page < 2 ^ 52 → (page - slot_start) / 262144 ≡ 510 →
    (o : Option ℕ) → position (λ x. x == page_index page 2) (ranges_of b) ≡ o → result_ok (walk_from (opening_entry b frames) frames page 2 9 all_rights) ≡ slot_leaf b frames page
unfolding slot_leaf Shows
image_walk b frames page list layout low high home None at =
    let d : Division = division_of b frames in
    let r : ℕ = page_index page 2 in
    let place : page ≡ page_in r (page_index page 1) = omega (arith, (slot_indices page low high).2, (slot_indices page low high).3) in
    let entry : opening_entry b frames 9 r ≡ 0 = (table_entries b frames r (index_small page 2)).3 ∙ ap (range_link d) at in
    step_none (opening_entry b frames) frames page 1 9 entry
    ∙ sym (no_leaf b frames page (omega arith) (untouched b r (page_index page 1) page list (index_small page 2) (index_small page 1) place at))
image_walk b frames page list layout low high home (Some k) at =
    let d : Division = division_of b frames in
    let r : ℕ = page_index page 2 in
    let i : ℕ = page_index page 1 in
    let g : ℕ = tables_start d + k in
    let most : frames ≤ 65536 = layout.most in
    let room : free_start d ≤ frames = layout.room in
    let found = position-Some (λ x. x == r) (ranges_of b) k 0 at in
    let range : get_or (ranges_of b) k 0 ≡ r = eqb-true _ _ found.1 in
    let place : page_in (get_or (ranges_of b) k 0) i ≡ page = ap (λ x. page_in x i) range ∙ omega (arith, (slot_indices page low high).2, (slot_indices page low high).3) in
    let link_entry : opening_entry b frames 9 r ≡ link g = (table_entries b frames r (index_small page 2)).3 ∙ ap (range_link d) at in
    let leaf_entry : opening_entry b frames g i ≡ placed_leaf b d page (position (λ m. m == page) (pages_of b)) =
    range_table_entry b frames k i found.0 (index_small page 1) ∙ ap (λ n. placed_leaf b d n (position (λ m. m == n) (pages_of b))) place in
    ap result_ok (step_link (opening_entry b frames) frames page 1 9 g link_entry (omega (arith, found.0)) (omega (arith, found.0)))
    ∙ placed_shows b d frames page (position (λ m. m == page) (pages_of b)) (omega arith)
    (λ j e. omega (arith, (position-Some (λ m. m == page) (pages_of b) j 0 e).0)) (opening_entry b frames) page g leaf_entry
    ∙ sym (cond-false (nat_lt page (slot_start + 32)) _ _ (le-ltb page (slot_start + 32) (omega arith)))

-- the whole slot
pub slot_walk : (b : List ℕ) (frames page : ℕ) → IsLayout b (division_of b frames) → IsPageList b (pages_of b) → slot_start ≤ page → page < 2 ^ 52 →
    result_ok (walk (opening_entry b frames) frames opening_root page) ≡ slot_leaf b frames page
slot_walk b frames page layout list low high =
    let t : ℕ → ℕ → ℕ = opening_entry b frames in
    let least : 512 ≤ frames = layout.least in
    let index = slot_indices page low high in
    let third : ℕ = (page - slot_start) / 262144 in
    let second : ℕ = (page - slot_start) / 512 % 512 in
    let root : t 5 (page_index page 4) ≡ link 6 = ap (t 5) index.0 ∙ root_entry_511 b frames in
    let slot : t 6 (page_index page 3) ≡ slot_entry third = (table_entries b frames (page_index page 3) (index_small page 3)).0 ∙ ap slot_entry index.1 in
    let area : t 7 (page_index page 2) ≡ cond (second == 0) (link 8) 0 = (table_entries b frames (page_index page 2) (index_small page 2)).1 ∙ ap (λ i. cond (i == 0) (link 8) 0) index.2 in
    ap result_ok (walk_by_level t frames opening_root page ∙ step_link t frames page 3 5 6 root (omega arith) (omega arith))
    ∙ elim (cases_eq third 0) [
      | inl first ↦
          ap result_ok (step_link t frames page 2 6 7 (slot ∙ ap slot_entry first) (omega arith) (omega arith))
          ∙ elim (cases_eq second 0) [
            | inl near ↦
                ap result_ok (step_link t frames page 1 7 8 (area ∙ ap (λ i. cond (i == 0) (link 8) 0) near) (omega arith) (omega arith))
                ∙ area_walk b frames page list least low (omega arith)
            | inr far ↦
                step_none t frames page 1 7 (area ∙ cond-false _ _ _ (ne_eqb second 0 far))
                ∙ sym (no_leaf b frames page (omega arith) (outside_home b page list (inl (omega arith))))
          ]
      | inr later ↦ elim (cases_eq third 510) [
        | inl home ↦
            ap result_ok (step_link t frames page 2 6 9 (slot ∙ ap slot_entry home) (omega arith) (omega arith))
            ∙ image_walk b frames page list layout low high home (position (λ x. x == page_index page 2) (ranges_of b)) refl
        | inr other ↦
            step_none t frames page 2 6 (slot ∙ cond-false _ _ _ (ne_eqb third 0 later) ∙ cond-false _ _ _ (ne_eqb third 510 other))
            ∙ sym (no_leaf b frames page (omega arith) (outside_home b page list (outside_third page low other)))
      ]
    ]
