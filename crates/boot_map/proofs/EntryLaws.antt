-- The entries of the opening's tables: each fits in eight bytes, and stands in memory as these.
use Rattle.std.proofs.Common.{◌≡◌, ◌==◌, ◌&&◌, ℕ, zero, suc, ◌+◌, ◌*◌, ◌/◌, ◌%◌, ◌^◌, ◌<◌, ◌≤◌, Bool, true, false, cond, List, get_or, nat_lt, nat_le, Option, Some, None, refl, sym, ap, ◌∙◌, arith}
use Rattle.std.proofs.lemmas.Bool.{and_parts, cond_both, ltb-true, lt-ltb, cond-true}
use Rattle.std.proofs.lemmas.List.Quantifiers.{position-Some}
use Rattle.std.proofs.Math.Nat.{pow-suc, pow-succ', div-div-eq-div-mul, div-one, mod-one, one-le-pow, mod-eq_of_lt}
use Rattle.std.proofs.Math.Arith.{mod-mul}
use Rattle.std.specs.List.{position}
use Rattle.phys_mem.specs.Memory.{byte_at, number_at, entry_in}
use Rattle.elf_image.specs.Pages.{pages_of, page_count}
use Rattle.boot_map.specs.declared.part.Part.{Part}
use Rattle.boot_map.specs.declared.part.Part.TheVariants.{Root, SlotTable, AreaDirectory, AreaTable, ImageDirectory, WriteLog, WrittenBits, RegionBook, Descriptors, RangeTable, ImagePage, MapRoot, MapDirectory, MapTable, Free}
use Rattle.boot_map.specs.Division.{Division, IsLayout, division_of, free_start, map_start, map_tables, pages_start, tables_start, page_in}
use Rattle.boot_map.specs.Parts.{part_at}
use Rattle.boot_map.specs.OpeningEntries.{area_entry, opening_entry, entry_of_part, leaf, link, map_directory_entry, map_entry, mapped_leaf, page_leaf, placed_leaf, range_link, read_leaf, write_leaf, fetch_leaf, table_level}
use Rattle.boot_map.specs.Opening.{IsOpening, division_byte, byte_of_number, byte_of_part, entry_byte}
use Rattle.boot_map.proofs.FillLaws.{byte_of_frame}

-- a number is spelled by its bytes
number_of_bytes : (m : List ℕ) (n p v : ℕ) → ((k : ℕ) → k < n → byte_at m (p + k) ≡ byte_of_number v k) → number_at m n p ≡ v % 256 ^ n
unfolding number_at byte_of_number
number_of_bytes m zero p v bytes = sym (mod-one v)
number_of_bytes m (suc n) p v bytes =
    let place : p ≡ p + 0 = omega arith in
    let first : byte_at m p ≡ v % 256 = ap (byte_at m) place ∙ bytes 0 (omega arith) ∙ ap (λ x. x % 256) (div-one v) in
    let rest : number_at m n (p + 1) ≡ v / 256 % 256 ^ n = number_of_bytes m n (p + 1) (v / 256) (λ k h.
    let next : p + 1 + k ≡ p + suc k = omega arith in
    let power : v / 256 ^ suc k ≡ v / 256 / 256 ^ k = ap (λ x. v / x) (pow-succ' 256 k) ∙ sym (div-div-eq-div-mul v 256 (256 ^ k)) in
    ap (byte_at m) next ∙ bytes (suc k) (omega arith) ∙ ap (λ x. x % 256) power) in
    let split : v % 256 ^ suc n ≡ (v / 256 % 256 ^ n) * 256 + v % 256 = ap (λ x. v % x) (pow-suc 256 n) ∙ mod-mul v (one-le-pow n 256 (omega arith)) (omega arith) in
    omega (arith, first, rest, split)

-- links and leaves of frames below 2 ^ 40 fit
abbrev Fits64 : ℕ → Type 0
Fits64 e = e < 2 ^ 64

link_fits : (f : ℕ) → f < 2 ^ 40 → Fits64 (link f)
unfolding link
link_fits f small = omega arith

leaf_fits : (f low : ℕ) (xd : Bool) → f < 2 ^ 40 → low < 4096 → Fits64 (leaf f low xd)
unfolding leaf
leaf_fits f low true small bits = omega arith
leaf_fits f low false small bits = omega arith

zero_fits : Fits64 0
zero_fits = omega arith

-- a choice of two that fit fits
choice_fits : (t : Bool) (x y : ℕ) → Fits64 x → Fits64 y → Fits64 (cond t x y)
choice_fits true x y h g = h
choice_fits false x y h g = g

page_leaf_fits : (executable writable : Bool) (f : ℕ) → f < 2 ^ 40 → Fits64 (page_leaf executable writable f)
page_leaf_fits executable writable f small =
    choice_fits executable _ _ (leaf_fits f 33 false small (omega arith)) (choice_fits writable _ _ (leaf_fits f 99 true small (omega arith)) (leaf_fits f 33 true small (omega arith)))

range_link_fits : (d : Division) (o : Option ℕ) → ((k : ℕ) → o ≡ Some k → tables_start d + k < 2 ^ 40) → Fits64 (range_link d o)
range_link_fits d (Some k) small = link_fits (tables_start d + k) (small k refl)
range_link_fits d None small = zero_fits

placed_leaf_fits : (b : List ℕ) (d : Division) (n : ℕ) (o : Option ℕ) → ((k : ℕ) → o ≡ Some k → pages_start d + k < 2 ^ 40) → Fits64 (placed_leaf b d n o)
placed_leaf_fits b d n (Some k) small = page_leaf_fits _ _ (pages_start d + k) (small k refl)
placed_leaf_fits b d n None small = zero_fits

read_fits : (f : ℕ) → f < 2 ^ 40 → Fits64 (read_leaf f)
read_fits f small = leaf_fits f 33 true small (omega arith)

write_fits : (f : ℕ) → f < 2 ^ 40 → Fits64 (write_leaf f)
write_fits f small = leaf_fits f 99 true small (omega arith)

fetch_fits : (f : ℕ) → f < 2 ^ 40 → Fits64 (fetch_leaf f)
fetch_fits f small = leaf_fits f 33 false small (omega arith)

mapped_leaf_fits : (b : List ℕ) (f : ℕ) (part : Part) → f < 2 ^ 40 → Fits64 (mapped_leaf b f part)
mapped_leaf_fits b f WriteLog small = zero_fits
mapped_leaf_fits b f WrittenBits small = zero_fits
mapped_leaf_fits b f RegionBook small = zero_fits
mapped_leaf_fits b f Descriptors small = zero_fits
mapped_leaf_fits b f (ImagePage k) small = choice_fits _ _ _ (write_fits f small) (read_fits f small)
mapped_leaf_fits b f Free small = write_fits f small
mapped_leaf_fits b f _ small = read_fits f small

map_entry_fits : (b : List ℕ) (d : Division) (f : ℕ) → d.frames ≤ 2 ^ 40 → Fits64 (map_entry b d f)
map_entry_fits b d f most =
    cond_both (nat_lt f d.frames) _ _ Fits64 (λ t. mapped_leaf_fits b f _ (omega (arith, ltb-true f d.frames t))) (λ t. zero_fits)

map_directory_entry_fits : (d : Division) (i : ℕ) → free_start d ≤ 2 ^ 40 → Fits64 (map_directory_entry d i)
map_directory_entry_fits d i most =
    cond_both (nat_lt i (map_tables d)) _ _ Fits64 (λ t. link_fits _ (omega (arith, ltb-true i (map_tables d) t))) (λ t. zero_fits)

area_entry_fits : (i : ℕ) → Fits64 (area_entry i)
area_entry_fits i =
    choice_fits _ _ _ (read_fits 0 (omega arith)) (choice_fits _ _ _ (fetch_fits 1 (omega arith)) (choice_fits _ _ _ (read_fits 2 (omega arith)) (
    choice_fits _ _ _ (write_fits 3 (omega arith)) (choice_fits _ _ _ (read_fits 4 (omega arith)) (
    cond_both (nat_le 16 i && nat_lt i 32) _ _ Fits64 (λ t. read_fits _ (omega (arith, ltb-true i 32 (and_parts _ _ t).1))) (λ t. zero_fits))))))

-- each entry of the opening fits
entry_fits : (b : List ℕ) (d : Division) (part : Part) (i : ℕ) → d.frames ≤ 2 ^ 40 → free_start d ≤ 2 ^ 40 → d.pages ≡ page_count b → Fits64 (entry_of_part b d part i)
entry_fits b d Root i frames most pages = choice_fits _ _ _ (link_fits (map_start d) (omega arith)) (choice_fits _ _ _ (link_fits 6 (omega arith)) zero_fits)
entry_fits b d SlotTable i frames most pages = choice_fits _ _ _ (link_fits 7 (omega arith)) (choice_fits _ _ _ (link_fits 9 (omega arith)) zero_fits)
entry_fits b d AreaDirectory i frames most pages = choice_fits _ _ _ (link_fits 8 (omega arith)) zero_fits
entry_fits b d AreaTable i frames most pages = area_entry_fits i
entry_fits b d ImageDirectory i frames most pages =
    range_link_fits d (position (λ r. r == i) d.ranges) (λ k e. omega (arith, (position-Some (λ r. r == i) d.ranges k 0 e).0))
entry_fits b d (RangeTable t) i frames most pages =
    let n : ℕ = page_in (get_or d.ranges t 0) i in
    placed_leaf_fits b d n (position (λ m. m == n) (pages_of b)) (λ k e. omega (arith, pages, (position-Some (λ m. m == n) (pages_of b) k 0 e).0))
entry_fits b d MapRoot i frames most pages = choice_fits _ _ _ (link_fits (map_start d + 1) (omega arith)) zero_fits
entry_fits b d MapDirectory i frames most pages = map_directory_entry_fits d i most
entry_fits b d (MapTable k) i frames most pages = map_entry_fits b d (512 * k + i) frames
entry_fits b d _ i frames most pages = zero_fits

-- the bytes of a table are those of its entries
table_byte : (b : List ℕ) (d : Division) (part : Part) (o : ℕ) → 0 < table_level part → byte_of_part b d part o ≡ entry_byte (entry_of_part b d part) o
table_byte b d Root o is = refl
table_byte b d SlotTable o is = refl
table_byte b d AreaDirectory o is = refl
table_byte b d AreaTable o is = refl
table_byte b d ImageDirectory o is = refl
table_byte b d (RangeTable k) o is = refl
table_byte b d MapRoot o is = refl
table_byte b d MapDirectory o is = refl
table_byte b d (MapTable k) o is = refl
table_byte b d _ o is = absurd (omega (arith, is))

-- in an opening memory each entry of a table stands as eight bytes
pub entry_stands : (b m : List ℕ) (frames f i : ℕ) → IsOpening b frames m → IsLayout b (division_of b frames) → f < frames → i < 512 → 0 < table_level (part_at (division_of b frames) f) → entry_in m f i ≡ opening_entry b frames f i
unfolding entry_in opening_entry
entry_stands b m frames f i opening layout in_memory small table =
    let d : Division = division_of b frames in
    let part : Part = part_at d f in
    let v : ℕ = entry_of_part b d part i in
    let most : frames ≤ 65536 = layout.most in
    let room : free_start d ≤ frames = layout.room in
    let fits : v < 256 ^ 8 = entry_fits b d part i (omega arith) (omega arith) refl in
    let each : (k : ℕ) → k < 8 → byte_at m (4096 * f + 8 * i + k) ≡ byte_of_number v k = λ k h.
    let place : 4096 * f + 8 * i + k ≡ 4096 * f + (8 * i + k) = omega arith in
    let index : (8 * i + k) / 8 ≡ i = omega arith in
    let offset : (8 * i + k) % 8 ≡ k = omega arith in
    opening.bytes (4096 * f + 8 * i + k) (omega arith) ∙ ap (division_byte b frames) place ∙ sym (byte_of_frame b d frames f (8 * i + k) refl (omega arith))
    ∙ table_byte b d part (8 * i + k) table ∙ ap (λ j. byte_of_number (entry_of_part b d part j) ((8 * i + k) % 8)) index ∙ ap (byte_of_number v) offset in
    number_of_bytes m 8 (4096 * f + 8 * i) v each ∙ mod-eq_of_lt fits ∙ sym (cond-true (nat_lt i 512) v 0 (lt-ltb i 512 small))
