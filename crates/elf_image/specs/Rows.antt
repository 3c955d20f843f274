-- The form of an image: thirteen rows in order, each with its condition and its value, judged over the whole file b.
use Rattle.std.specs.Prelude.{◌≡◌, ℕ, ◌+◌, ◌*◌, ◌==◌, Bool, not, ◌&&◌, ◌||◌, if◌then◌else◌, List, length, slice_index, find, nat_lt, Option, Some, None, option_map}
use Rattle.std.specs.List.{list_any}
use Rattle.elf_image.specs.declared.fault.FaultKind.{FaultKind}
use Rattle.elf_image.specs.declared.fault.FaultKind.TheVariants.{Short, Magic, Class, FileType, Machine, Table, SegmentRange, Align, OutsideHome, SharedPage, WritableCode, BadEntry, TooLarge}
use Rattle.elf_image.specs.declared.fault.ImageFault.{ImageFault}
use Rattle.elf_image.specs.declared.program_header.ProgramHeader.{ProgramHeader}
use Rattle.elf_image.specs.Elf.{e_type, e_machine, e_entry, e_phoff, e_phentsize, e_phnum, ehdr_size, phdr_size, segments}
use Rattle.elf_image.specs.Segments.{passes_end, is_misaligned, leaves_home, shares_with_earlier, is_writable_code, is_code_at, total_pages}

-- a row: the fault where its condition stands, else what the later rows give
abbrev pub row_if : Bool → FaultKind → ℕ → Option ImageFault → Option ImageFault
row_if stands kind value later = if stands then Some (record { kind = kind; value = value }) else later

-- a row whose condition stands where there is a value
abbrev pub row_at : Option ℕ → FaultKind → Option ImageFault → Option ImageFault
row_at (Some value) kind later = Some (record { kind = kind; value = value })
row_at None kind later = later

-- the first of two groups of rows that gives a fault
abbrev pub or_later : Option ImageFault → Option ImageFault → Option ImageFault
or_later (Some fault) later = Some fault
or_later None later = later

-- the file begins with the four bytes of every ELF file: 7F and "ELF"
abbrev pub has_magic : List ℕ → Bool
has_magic b =
    slice_index b 0 == 0x7F && slice_index b 1 == 0x45 && slice_index b 2 == 0x4C && slice_index b 3 == 0x46

-- the first of the three places EI_CLASS, EI_DATA and EI_VERSION that holds another value than ELFCLASS64, ELFDATA2LSB
-- or EV_CURRENT
abbrev pub wrong_class : List ℕ → Option ℕ
wrong_class b =
    if not (slice_index b 4 == 2) then Some 4
    else if not (slice_index b 5 == 1) then Some 5
    else if not (slice_index b 6 == 1) then Some 6
    else None

-- the place of the field, e_phentsize, e_phnum or e_phoff, that makes the program header table wrong
abbrev pub wrong_table : List ℕ → Option ℕ
wrong_table b =
    if not (e_phentsize b == phdr_size) then Some 54
    else if e_phnum b == 0 || nat_lt 64 (e_phnum b) then Some 56
    else if nat_lt (length b) (e_phoff b + phdr_size * e_phnum b) then Some 32
    else None

-- the index in the header table of the first segment that passes the test
abbrev pub first_index : (ProgramHeader → Bool) → List ProgramHeader → Option ℕ
first_index test segs = option_map (λ s. s.index) (find test segs)

-- the rows on the file header; an executable file has type 2, ET_EXEC, and one for x86-64 machine 62, EM_X86_64
unfoldable pub file_fault : List ℕ → Option ImageFault
file_fault b =
    row_if (nat_lt (length b) ehdr_size) Short (length b) (
    row_if (not (has_magic b)) Magic 0 (
    row_at (wrong_class b) Class (
    row_if (not (e_type b == 2)) FileType 16 (
    row_if (not (e_machine b == 62)) Machine 18 (
    row_at (wrong_table b) Table None)))))

-- the rows on each segment of a file of this length
unfoldable pub segment_fault : ℕ → List ProgramHeader → Option ImageFault
segment_fault file_length segs =
    row_at (first_index (passes_end file_length) segs) SegmentRange (
    row_at (first_index is_misaligned segs) Align (
    row_at (first_index leaves_home segs) OutsideHome (
    row_at (first_index (shares_with_earlier segs) segs) SharedPage (
    row_at (first_index is_writable_code segs) WritableCode None))))

-- the rows on all segments together; 24 is the place of e_entry
unfoldable pub whole_fault : ℕ → List ProgramHeader → Option ImageFault
whole_fault entry segs =
    row_if (not (list_any (is_code_at entry) segs)) BadEntry 24 (
    row_if (nat_lt 8192 (total_pages segs)) TooLarge (total_pages segs) None)

-- the first row that stands
unfoldable pub first_fault : List ℕ → Option ImageFault
first_fault b =
    or_later (file_fault b) (
    or_later (segment_fault (length b) (segments b)) (
    whole_fault (e_entry b) (segments b)))

-- the file is in form
abbrev pub IsForm : List ℕ → Type 0
IsForm b = first_fault b ≡ None
