-- The first bytes of a file and its program header table say what the file says.
use Rattle.std.proofs.Common.{◌≡◌, ℕ, ◌+◌, ◌*◌, ◌-◌, ◌<◌, ◌≤◌, List, map, take, drop, length, slice_index, get_or-take, Option, Some, None, refl, sym, ap, ◌∙◌, arith, zero, suc, drop-drop}
use Rattle.std.proofs.lemmas.List.{drop-take}
use Rattle.std.proofs.lemmas.List.Elements.{filter_agree}
use Rattle.std.specs.Prelude.{filter, find, option_map}
use Rattle.std.specs.List.{range_with_len}
use Rattle.byteorder.specs.Endian.{little_from}
use Rattle.byteorder.specs.Numbers.{little_from-take}
use Rattle.elf_image.specs.declared.program_header.ProgramHeader.{ProgramHeader}
use Rattle.elf_image.specs.Elf.{e_entry, e_machine, e_phnum, e_phoff, e_type, field_at, header_at, is_segment, phdr_size, program_header_at, segments}
use Rattle.elf_image.specs.Rows.{file_fault, first_fault, has_magic, or_later, wrong_class}
use Rattle.elf_image.specs.Segments.{loads}
use Rattle.elf_image.specs.HeaderRows.{head_fault, later_fault, segments_in, shape_of, table_fault, table_of, wrong_table_of}
use Rattle.elf_image.specs.Pages.{byte_from, byte_of, home_pages, is_executable, is_page, is_writable, pages_of}
use Rattle.elf_image.specs.SegmentPages.{byte_in, is_executable_of, is_page_of, is_writable_of, pages_in, file_place, loaded_place}
use Rattle.elf_image.specs.FileParts.{IsReadInParts}

-- a field that lies in the first m bytes
field_in_front : (b : List ℕ) (m n p : ℕ) → p + n ≤ m → field_at (take m b) n p ≡ field_at b n p
unfolding field_at
field_in_front b m n p h =
    let whole : p + (m - p) ≡ m = omega arith in
    let cut : drop p (take m b) ≡ take (m - p) (drop p b) = ap (λ (k : ℕ). drop p (take k b)) (sym whole) ∙ drop-take p (m - p) b in
    ap (λ (xs : List ℕ). little_from 0 n xs) cut ∙ little_from-take 0 n (m - p) (drop p b) (omega arith)

-- a field from a place on
field_behind : (b : List ℕ) (p n q r : ℕ) → p + q ≡ r → field_at (drop p b) n q ≡ field_at b n r
unfolding field_at
field_behind b p n q r e = ap (λ (xs : List ℕ). little_from 0 n xs) (drop-drop q p b ∙ ap (λ (k : ℕ). drop k b) e)

-- a field in m bytes from a place on
field_in_run : (b : List ℕ) (p m n q r : ℕ) → q + n ≤ m → p + q ≡ r → field_at (take m (drop p b)) n q ≡ field_at b n r
field_in_run b p m n q r h e = field_in_front (drop p b) m n q h ∙ field_behind b p n q r e

-- a byte in the first m
byte_in_front : (b : List ℕ) (m k : ℕ) → k < m → slice_index (take m b) k ≡ slice_index b k
byte_in_front b m k h = get_or-take m b k 0 h

front_shape : (b : List ℕ) (n : ℕ) → shape_of n (take 64 b) ≡ shape_of n b
front_shape b n = rw (field_in_front b 64 8 24 (omega arith), field_in_front b 64 8 32 (omega arith), field_in_front b 64 2 56 (omega arith)) refl

front_magic : (b : List ℕ) → has_magic (take 64 b) ≡ has_magic b
front_magic b = rw (byte_in_front b 64 0 (omega arith), byte_in_front b 64 1 (omega arith), byte_in_front b 64 2 (omega arith), byte_in_front b 64 3 (omega arith)) refl

front_class : (b : List ℕ) → wrong_class (take 64 b) ≡ wrong_class b
front_class b = rw (byte_in_front b 64 4 (omega arith), byte_in_front b 64 5 (omega arith), byte_in_front b 64 6 (omega arith)) refl

front_table : (b : List ℕ) (n : ℕ) → wrong_table_of n (take 64 b) ≡ wrong_table_of n b
front_table b n = rw (field_in_front b 64 2 54 (omega arith), field_in_front b 64 2 56 (omega arith), field_in_front b 64 8 32 (omega arith)) refl

front_type : (b : List ℕ) → e_type (take 64 b) ≡ e_type b
front_type b = field_in_front b 64 2 16 (omega arith)

front_machine : (b : List ℕ) → e_machine (take 64 b) ≡ e_machine b
front_machine b = field_in_front b 64 2 18 (omega arith)

front_fault : (b : List ℕ) → head_fault (length b) (take 64 b) ≡ file_fault b
unfolding head_fault file_fault
front_fault b = rw (front_magic b, front_class b, front_type b, front_machine b, front_table b (length b)) refl

-- two readings of a program header are one where their fields are
same_header : (t b : List ℕ) (q r i : ℕ) → field_at t 4 q ≡ field_at b 4 r → ((n o : ℕ) → o + n ≤ 56 → field_at t n (q + o) ≡ field_at b n (r + o)) → program_header_at t q i ≡ program_header_at b r i
unfolding program_header_at
same_header t b q r i first same = rw (first, same 4 4 (omega arith), same 8 8 (omega arith), same 8 16 (omega arith), same 8 32 (omega arith), same 8 40 (omega arith)) refl

header_in_table : (b : List ℕ) (p n i : ℕ) → i < n → program_header_at (take (phdr_size * n) (drop p b)) (phdr_size * i) i ≡ program_header_at b (p + phdr_size * i) i
header_in_table b p n i h =
    same_header _ b (56 * i) (p + 56 * i) i
    (field_in_run b p (56 * n) 4 (56 * i) (p + 56 * i) (omega arith) refl)
    (λ m o fits. field_in_run b p (56 * n) m (56 * i + o) (p + 56 * i + o) (omega arith) (omega arith))

-- two functions that agree on a range
map_range : (f g : ℕ → ProgramHeader) (a n : ℕ) → ((i : ℕ) → a ≤ i → i < a + n → f i ≡ g i) → map f (range_with_len a n) ≡ map g (range_with_len a n)
map_range f g a zero h = refl
map_range f g a (suc n) h =
    let here : f a ≡ g a = h a (omega arith) (omega arith) in
    let rest = map_range f g (a + 1) n (λ i low high. h i (omega arith) (omega arith)) in
    rw (here, rest) refl

pub table_segments : (b : List ℕ) → segments_in (table_of b) (e_phnum b) ≡ segments b
unfolding segments_in segments
table_segments b = ap (λ (hs : List ProgramHeader). filter is_segment hs) (map_range _ (header_at b) 0 (e_phnum b) (λ i low high. header_in_table b (e_phoff b) (e_phnum b) i (omega arith)))

all_rows : (b : List ℕ) → or_later (file_fault b) (later_fault (length b) (e_entry b) (segments b)) ≡ first_fault b
unfolding first_fault later_fault
all_rows b = refl

pub parts_rows : (b : List ℕ) → or_later (file_fault b) (table_fault (shape_of (length b) b) (table_of b)) ≡ first_fault b
parts_rows b =
    ap (λ (segs : List ProgramHeader). or_later (file_fault b) (later_fault (length b) (e_entry b) segs)) (table_segments b) ∙ all_rows b

page_same : (b : List ℕ) (n : ℕ) → is_page b n ≡ is_page_of (segments b) n
unfolding is_page
page_same b n = refl

pub executable_same : (b : List ℕ) (n : ℕ) → is_executable b n ≡ is_executable_of (segments b) n
unfolding is_executable
executable_same b n = refl

pub writable_same : (b : List ℕ) (n : ℕ) → is_writable b n ≡ is_writable_of (segments b) n
unfolding is_writable
writable_same b n = refl

pub pages_same : (b : List ℕ) → pages_of b ≡ pages_in (segments b)
unfolding pages_of pages_in
pages_same b = filter_agree (is_page b) (λ n. is_page_of (segments b) n) (page_same b) home_pages

byte_by : (b : List ℕ) (va : ℕ) (o : Option ProgramHeader) → byte_from b va o ≡ byte_in b (option_map (λ s. file_place va s) o)
byte_by b va (Some s) = refl
byte_by b va None = refl

pub bytes_same : (b : List ℕ) (va : ℕ) → byte_of b va ≡ byte_in b (loaded_place (segments b) va)
unfolding byte_of loaded_place
bytes_same b va = byte_by b va (find (λ s. loads s va) (segments b))

pub read_in_parts : (b : List ℕ) → IsReadInParts b
read_in_parts b = record {
  head = front_fault b;
  shape = front_shape b (length b);
  counting = table_segments b;
  rows = parts_rows b;
  pages = pages_same b;
  executable = executable_same b;
  writable = writable_same b;
  bytes = bytes_same b;
}
