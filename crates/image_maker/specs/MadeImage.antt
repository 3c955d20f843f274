-- The image that is made of a number: an ELF64 file whose program declares page tables and fills them, and loads, for
-- as many processes as the number says; each process raises one trap, gets a region and writes one record in it. The
-- file is given by the byte at each place. It is laid out for a memory of 4,096 frames.
use Rattle.std.specs.Prelude.{ℕ, ◌+◌, ◌-◌, ◌*◌, ◌/◌, ◌%◌, ◌^◌, ◌==◌, nat_le, nat_lt, if◌then◌else◌, List, [], ◌∷◌, map, slice_index}
use Rattle.std.specs.List.{range_with_len}
use Rattle.elf_image.specs.WrittenHeaders.{Field, byte_in_fields, file_header, number_byte, program_header}

-- the records of the script: one, 18 a process, and one of zeros; and the pages that they fill
abbrev pub record_count : ℕ → ℕ
record_count processes = 18 * processes + 2

abbrev pub script_pages : ℕ → ℕ
script_pages processes = (40 * record_count processes + 4095) / 4096

-- how many bytes the file has, and its second segment: the script, and nine bytes of a user's code
abbrev pub data_len : ℕ → ℕ
data_len processes = 4096 * script_pages processes + 9

abbrev pub image_len : ℕ → ℕ
image_len processes = 8192 + data_len processes

-- the text, which begins at the entry, is readable and executable; script and user's code are readable
abbrev pub text_header : List Field
text_header = program_header 5 4096 0xFFFFFFFF80000000 69 69

abbrev pub data_header : ℕ → List Field
data_header processes = program_header 4 8192 0xFFFFFFFF80001000 (data_len processes) (data_len processes)

-- the text: RBX walks along the script; a record is a call, or where its first number is negative a switch to the
-- user's code, whose trap comes back to the step to the next record; a record that begins with 0 ends the run
abbrev pub text : List ℕ
text =
    0x48 ∷ 0xC7 ∷ 0xC3 ∷ 0x00 ∷ 0x10 ∷ 0x00 ∷ 0x80  -- mov rbx, the script
    ∷ 0x48 ∷ 0x8B ∷ 0x3B ∷ 0x48 ∷ 0x85 ∷ 0xFF  -- mov rdi, [rbx]; test rdi, rdi
    ∷ 0x74 ∷ 0x33 ∷ 0x78 ∷ 0x22  -- jz 66; js 51
    ∷ 0x48 ∷ 0x8B ∷ 0x73 ∷ 0x08 ∷ 0x48 ∷ 0x8B ∷ 0x53 ∷ 0x10  -- rsi and rdx
    ∷ 0x48 ∷ 0x8B ∷ 0x4B ∷ 0x18 ∷ 0x4C ∷ 0x8B ∷ 0x43 ∷ 0x20  -- rcx and r8
    ∷ 0x48 ∷ 0xB8 ∷ 0x00 ∷ 0x10 ∷ 0x00 ∷ 0x00 ∷ 0x80 ∷ 0xFF ∷ 0xFF ∷ 0xFF ∷ 0xFF ∷ 0xD0  -- call the gate
    ∷ 0x48 ∷ 0x83 ∷ 0xC3 ∷ 0x28 ∷ 0xEB ∷ 0xD4  -- add rbx, 40; jmp 7
    ∷ 0x6A ∷ 0x23 ∷ 0x6A ∷ 0x00 ∷ 0x6A ∷ 0x02 ∷ 0x6A ∷ 0x1B  -- IRETQ to 0x1000 at CPL 3
    ∷ 0x68 ∷ 0x00 ∷ 0x10 ∷ 0x00 ∷ 0x00 ∷ 0x48 ∷ 0xCF
    ∷ 0xF4 ∷ 0xEB ∷ 0xFD ∷ []  -- hlt; jmp 66

-- the user's code: a loop of 9,466 turns, and INT 47
abbrev pub user_code : List ℕ
user_code = 0xB9 ∷ 0xFA ∷ 0x24 ∷ 0x00 ∷ 0x00 ∷ 0xE2 ∷ 0xFE ∷ 0xCD ∷ 0x2F ∷ []

-- a record of the script: the numbers of RDI, RSI, RDX, RCX and R8
pub record ScriptRecord : Type 0 where
  pub rdi : ℕ
  pub rsi : ℕ
  pub rdx : ℕ
  pub rcx : ℕ
  pub r8 : ℕ

abbrev pub script_words : ℕ → ℕ → ℕ → ℕ → ℕ → ScriptRecord
script_words rdi rsi rdx rcx r8 = record { rdi = rdi; rsi = rsi; rdx = rdx; rcx = rcx; r8 = r8 }

-- where the opening's layout has the user's code, the direct map's table of level 3, the table of level 1 of a frame,
-- and the first free frame; and the first of the five frames of a process
abbrev pub user_frame : ℕ → ℕ
user_frame processes = 82 + script_pages processes

abbrev pub direct_table : ℕ → ℕ
direct_table processes = 83 + script_pages processes

abbrev pub leaf_table : ℕ → ℕ → ℕ
leaf_table processes frame = 85 + script_pages processes + frame / 512

abbrev pub first_frame : ℕ → ℕ → ℕ
first_frame processes p = 93 + script_pages processes + 5 * p

-- the values of entries: a frame that may only be read and not executed; a link; a user's code; a user's data
abbrev pub read_only : ℕ → ℕ
read_only frame = 2 ^ 63 + 4096 * frame + 0x21

abbrev pub made_link : ℕ → ℕ
made_link frame = 4096 * frame + 0x27

abbrev pub code_leaf : ℕ → ℕ
code_leaf frame = 4096 * frame + 0x25

abbrev pub data_leaf : ℕ → ℕ
data_leaf frame = 2 ^ 63 + 4096 * frame + 0x67

-- the two calls that make a frame a page table of a level: write_entry takes its writable leaf from the direct map, and
-- declare_table declares it
abbrev pub protect : ℕ → ℕ → ScriptRecord
protect processes frame = script_words 3 (leaf_table processes frame) (frame % 512) (read_only frame) 0

abbrev pub declare : ℕ → ℕ → ScriptRecord
declare level frame = script_words 2 level frame 0 0

-- record k of the 18 of a process whose first frame is b
unfoldable pub process_record : ℕ → ℕ → ℕ → ℕ → ScriptRecord
process_record processes p b k =
    if k == 0 then protect processes b
    else if k == 1 then declare 4 b
    else if k == 2 then protect processes (b + 1)
    else if k == 3 then declare 3 (b + 1)
    else if k == 4 then protect processes (b + 2)
    else if k == 5 then declare 2 (b + 2)
    else if k == 6 then protect processes (b + 3)
    else if k == 7 then declare 1 (b + 3)
    else if k == 8 then script_words 3 b 0 (made_link (b + 1)) 0
    else if k == 9 then script_words 3 (b + 1) 0 (made_link (b + 2)) 0
    else if k == 10 then script_words 3 (b + 2) 0 (made_link (b + 3)) 0
    else if k == 11 then script_words 3 b 256 (made_link (direct_table processes)) 0
    else if k == 12 then script_words 3 (b + 3) 1 (code_leaf (user_frame processes)) 0
    else if k == 13 then script_words 3 (b + 3) 2 (data_leaf (b + 4)) 0
    else if k == 14 then script_words 5 b 0 0 0
    else if k == 15 then script_words (2 ^ 63) 0 0 0 0
    else if k == 16 then script_words 7 32 4 0 0
    else script_words 9 (256 + p) 0 0xFFFFFFFF80001000 32

-- record n of the script: first the call that makes the step to the next record the handler; then 18 of each process; else
-- zeros
unfoldable pub script_record : ℕ → ℕ → ScriptRecord
script_record processes n =
    if n == 0 then script_words 1 0xFFFFFFFF8000002D 0 0 0
    else if nat_le n (18 * processes)
    then process_record processes ((n - 1) / 18) (first_frame processes ((n - 1) / 18)) ((n - 1) % 18)
    else script_words 0 0 0 0 0

abbrev pub number_in : ScriptRecord → ℕ → ℕ
number_in it k =
    if k == 0 then it.rdi else if k == 1 then it.rsi else if k == 2 then it.rdx else if k == 3 then it.rcx else it.r8

-- the byte at a place of the script
abbrev pub script_byte : ℕ → ℕ → ℕ
script_byte processes at = number_byte (number_in (script_record processes (at / 40)) (at % 40 / 8)) (at % 8)

-- the byte at a place of the file; those that nothing names are 0
unfoldable pub image_byte : ℕ → ℕ → ℕ
image_byte processes at =
    if nat_lt at 64 then byte_in_fields (file_header 0xFFFFFFFF80000000 2) at
    else if nat_lt at 120 then byte_in_fields text_header (at - 64)
    else if nat_lt at 176 then byte_in_fields (data_header processes) (at - 120)
    else if nat_lt at 4096 then 0
    else if nat_lt at 4165 then slice_index text (at - 4096)
    else if nat_lt at 8192 then 0
    else if nat_lt at (8192 + 4096 * script_pages processes) then script_byte processes (at - 8192)
    else slice_index user_code (at - (8192 + 4096 * script_pages processes))

-- the whole file
unfoldable pub image_of_number : ℕ → List ℕ
image_of_number processes = map (image_byte processes) (range_with_len 0 (image_len processes))
