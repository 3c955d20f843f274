-- Headers that were written, read back field by field.
use Rattle.std.proofs.Common.{◌≡◌, ℕ, ◌+◌, ◌*◌, ◌/◌, ◌%◌, ◌^◌, ◌<◌, ◌≤◌, List, drop, length, false, true, zero, suc, None, refl, sym, ap, ◌∙◌, arith, below_more, below_none}
use Rattle.std.specs.Prelude.{nat_eq, nat_lt, slice_index}
use Rattle.std.proofs.Math.Arith.{mod-mul}
use Rattle.std.proofs.Math.Nat.{div-div-eq-div-mul, div-eq_of_lt, mod-eq_of_lt, pow-le-pow_right, pow-succ', pow-suc}
use Rattle.std.proofs.lemmas.Bool.{agree_below, agree_below_at, eqb-true, le-ltb, ne_eqb}
use Rattle.std.proofs.lemmas.List.{get_or-drop}
use Rattle.byteorder.specs.Endian.{little_from}
use Rattle.elf_image.specs.declared.program_header.ProgramHeader.{ProgramHeader}
use Rattle.elf_image.specs.Elf.{e_entry, e_machine, e_phentsize, e_phnum, e_phoff, e_type, field_at, program_header_at}
use Rattle.elf_image.specs.Rows.{file_fault, has_magic, wrong_class, wrong_table}
use Rattle.elf_image.specs.WrittenHeaders.{HasFileHeader, HasProgramHeader, IsReadAsWritten, byte_in_fields, file_header, number_byte, program_header}

-- a number of 64 bits has eight bytes
pub no_byte_past : (v k : ℕ) → v < 2 ^ 64 → 8 ≤ k → 0 ≡ number_byte v k
no_byte_past v k fits past =
    let power : 256 ^ 8 ≤ 256 ^ k = pow-le-pow_right (omega arith) past in
    let below : v < 256 ^ k = omega arith in
    sym (ap (λ x. x % 256) (div-eq_of_lt below))

positive : (k : ℕ) → 0 < 256 ^ k
positive zero = omega arith
positive (suc k) = omega (arith, pow-succ' 256 k, positive k)

-- the bytes of a number, least first, make that number
number_from : (xs : List ℕ) (k i x : ℕ) → ((j : ℕ) → j < k → slice_index xs (i + j) ≡ number_byte x j)
    → little_from i k xs ≡ x % 256 ^ k
number_from xs zero i x bytes = omega arith
number_from xs (suc k) i x bytes =
    let here : i + 0 ≡ i = omega arith in
    let first : slice_index xs i ≡ x / 256 ^ 0 % 256 = ap (λ (p : ℕ). slice_index xs p) (sym here) ∙ bytes 0 (omega arith) in
    let later : (j : ℕ) → j < k → slice_index xs (suc i + j) ≡ number_byte (x / 256) j =
    λ j below.
    let place : suc i + j ≡ i + suc j = omega arith in
    let power : 256 ^ suc j ≡ 256 * 256 ^ j = pow-succ' 256 j in
    ap (λ (p : ℕ). slice_index xs p) place ∙ bytes (suc j) (omega arith)
    ∙ ap (λ (d : ℕ). x / d % 256) power ∙ sym (ap (λ (q : ℕ). q % 256) (div-div-eq-div-mul x 256 (256 ^ j))) in
    let rest = number_from xs k (suc i) (x / 256) later in
    let one : x / 256 ^ 0 ≡ x = omega arith in
    let byte : slice_index xs i ≡ x % 256 = first ∙ ap (λ (q : ℕ). q % 256) one in
    let whole : x % (256 ^ k * 256) ≡ (x / 256 % 256 ^ k) * 256 + x % 256 = mod-mul x (positive k) (omega arith) in
    let power : 256 ^ suc k ≡ 256 ^ k * 256 = pow-suc 256 k in
    omega (arith, byte, rest, ap (λ (d : ℕ). x % d) power ∙ whole)

-- the field at a place whose bytes are those of a number
field_is : (b : List ℕ) (k place x : ℕ) → x < 256 ^ k
    → ((j : ℕ) → j < k → slice_index b (place + j) ≡ number_byte x j) → field_at b k place ≡ x
unfolding field_at
field_is b k place x fits bytes =
    number_from (drop place b) k 0 x
    (λ j below.
    let start : 0 + j ≡ j = omega arith in
    ap (λ (p : ℕ). slice_index (drop place b) p) start ∙ get_or-drop place b j 0 ∙ bytes j below)
    ∙ mod-eq_of_lt fits

-- what holds of each of two, four and eight numbers
each_of_two : (P : ℕ → Type 0) → P 0 → P 1 → (j : ℕ) → j < 2 → P j
each_of_two P a b = below_more P 1 (below_more P 0 (below_none P) a) b

each_of_four : (P : ℕ → Type 0) → P 0 → P 1 → P 2 → P 3 → (j : ℕ) → j < 4 → P j
each_of_four P a b c d = below_more P 3 (below_more P 2 (each_of_two P a b) c) d

each_of_eight : (P : ℕ → Type 0) → P 0 → P 1 → P 2 → P 3 → P 4 → P 5 → P 6 → P 7 → (j : ℕ) → j < 8 → P j
each_of_eight P a b c d e f g h =
    below_more P 7 (below_more P 6 (below_more P 5 (below_more P 4 (each_of_four P a b c d) e) f) g) h

module _ (b : List ℕ) (entry count : ℕ) (it : HasFileHeader b entry count) where
  written : (k place x : ℕ) → place + k ≤ 64 → x < 256 ^ k
      → ((j : ℕ) → j < k → byte_in_fields (file_header entry count) (place + j) ≡ number_byte x j) → field_at b k place ≡ x
  written k place x within fits bytes =
      field_is b k place x fits (λ j below. it.bytes (place + j) (omega arith) ∙ bytes j below)

  literal : (k place x : ℕ) → place + k ≤ 64 → x < 256 ^ k
      → agree_below (λ j. nat_eq (byte_in_fields (file_header entry count) (place + j)) (number_byte x j)) (λ _. true) k ≡ true
      → field_at b k place ≡ x
  literal k place x within fits same =
      written k place x within fits (λ j below. eqb-true _ _
      (agree_below_at (λ i. nat_eq (byte_in_fields (file_header entry count) (place + i)) (number_byte x i)) (λ _. true) k j same below))

  table_is : e_phoff b ≡ 64
  table_is = literal 8 32 64 (omega arith) (omega arith) refl

  count_is : e_phnum b ≡ count
  count_is =
      written 2 56 count (omega arith) (omega (arith, it.few))
      (each_of_two (λ j. byte_in_fields (file_header entry count) (56 + j) ≡ number_byte count j) refl refl)

  entry_is : e_entry b ≡ entry
  entry_is =
      written 8 24 entry (omega arith) it.address
      (each_of_eight (λ j. byte_in_fields (file_header entry count) (24 + j) ≡ number_byte entry j) refl refl refl refl refl refl refl refl)

  first_byte : (at x : ℕ) → at < 64 → byte_in_fields (file_header entry count) at ≡ x → slice_index b at ≡ x
  first_byte at x within is = it.bytes at within ∙ is

  magic_is : has_magic b ≡ true
  magic_is =
      rw (first_byte 0 0x7F (omega arith) refl, first_byte 1 0x45 (omega arith) refl, first_byte 2 0x4C (omega arith) refl, first_byte 3 0x46 (omega arith) refl) refl

  class_is : wrong_class b ≡ None
  class_is =
      rw (first_byte 4 2 (omega arith) refl, first_byte 5 1 (omega arith) refl, first_byte 6 1 (omega arith) refl) refl

  table_good : wrong_table b ≡ None
  table_good =
      let size : e_phentsize b ≡ 56 = literal 2 54 56 (omega arith) (omega arith) refl in
      let some : nat_eq count 0 ≡ false = ne_eqb count 0 (λ e. omega (arith, it.some)) in
      let few : nat_lt 64 count ≡ false = le-ltb _ _ it.few in
      let fits : nat_lt (length b) (64 + 56 * count) ≡ false = le-ltb _ _ it.long in
      rw (size, count_is, table_is, some, few, fits) refl

  none_stands : file_fault b ≡ None
  unfolding file_fault
  none_stands =
      let long : nat_lt (length b) 64 ≡ false = le-ltb _ _ (omega (arith, it.long)) in
      let kind : e_type b ≡ 2 = literal 2 16 2 (omega arith) (omega arith) refl in
      let machine : e_machine b ≡ 62 = literal 2 18 62 (omega arith) (omega arith) refl in
      rw (long, magic_is, class_is, kind, machine, table_good) refl

  pub file_read : IsReadAsWritten b entry count
  file_read = record { none = none_stands; entry_read = entry_is; table_read = table_is; count_read = count_is }

module _ (b : List ℕ) (place : ℕ) (h : ProgramHeader) (it : HasProgramHeader b place h) where
  abbrev fields_byte : ℕ → ℕ
  fields_byte at = byte_in_fields (program_header h.flags h.offset h.address h.file_size h.memory_size) at

  part : (k at x : ℕ) → at + k ≤ 56 → x < 256 ^ k → ((j : ℕ) → j < k → fields_byte (at + j) ≡ number_byte x j)
      → field_at b k (place + at) ≡ x
  part k at x within fits bytes =
      field_is b k (place + at) x fits (λ j below.
      let same : place + at + j ≡ place + (at + j) = omega arith in
      ap (λ (p : ℕ). slice_index b p) same ∙ it.bytes (at + j) (omega arith) ∙ bytes j below)

  four : (at x : ℕ) → at + 4 ≤ 56 → x < 2 ^ 32 → ((j : ℕ) → j < 4 → fields_byte (at + j) ≡ number_byte x j)
      → field_at b 4 (place + at) ≡ x
  four at x within fits bytes = part 4 at x within (omega arith) bytes

  eight : (at x : ℕ) → at + 8 ≤ 56 → x < 2 ^ 64 → ((j : ℕ) → j < 8 → fields_byte (at + j) ≡ number_byte x j)
      → field_at b 8 (place + at) ≡ x
  eight at x within fits bytes = part 8 at x within (omega arith) bytes

  pub program_read : (i : ℕ) → program_header_at b place i ≡ record h { index = i }
  unfolding program_header_at
  program_read i =
      let start : place + 0 ≡ place = omega arith in
      let kind : field_at b 4 place ≡ h.kind =
      ap (field_at b 4) (sym start) ∙ four 0 1 (omega arith) (omega arith) (each_of_four (λ j. fields_byte (0 + j) ≡ number_byte 1 j) refl refl refl refl) ∙ sym it.loaded in
      let flags : field_at b 4 (place + 4) ≡ h.flags =
      four 4 h.flags (omega arith) it.flags (each_of_four (λ j. fields_byte (4 + j) ≡ number_byte h.flags j) refl refl refl refl) in
      let offset : field_at b 8 (place + 8) ≡ h.offset =
      eight 8 h.offset (omega arith) it.offset (each_of_eight (λ j. fields_byte (8 + j) ≡ number_byte h.offset j) refl refl refl refl refl refl refl refl) in
      let address : field_at b 8 (place + 16) ≡ h.address =
      eight 16 h.address (omega arith) it.address (each_of_eight (λ j. fields_byte (16 + j) ≡ number_byte h.address j) refl refl refl refl refl refl refl refl) in
      let file_size : field_at b 8 (place + 32) ≡ h.file_size =
      eight 32 h.file_size (omega arith) it.file_size (each_of_eight (λ j. fields_byte (32 + j) ≡ number_byte h.file_size j) refl refl refl refl refl refl refl refl) in
      let memory_size : field_at b 8 (place + 40) ≡ h.memory_size =
      eight 40 h.memory_size (omega arith) it.memory_size (each_of_eight (λ j. fields_byte (40 + j) ≡ number_byte h.memory_size j) refl refl refl refl refl refl refl refl) in
      cc
