-- A joined file is made of bytes, where the image and the modules are.
use Rattle.std.proofs.Common.{ℕ, ◌+◌, ◌-◌, ◌*◌, ◌/◌, ◌%◌, ◌^◌, ◌<◌, zero, suc, Bool, true, false, ◌&&◌, List, [], ◌∷◌, ◌++◌, length, map, take, drop, Option, None, Some, lit<, mod-lt}
use Rattle.std.specs.Prelude.{if◌then◌else◌, nat_le, nat_lt, slice_get, slice_index, ⊤}
use Rattle.std.specs.Int.{byte_at, byte_len, bytes_low_first, to_le_bytes, w64}
use Rattle.std.specs.List.{All, flat_map, range_with_len}
use Rattle.std.proofs.lemmas.List.Elements.{All-head, All-tail}
use Rattle.elf_image.specs.declared.program_header.ProgramHeader.{ProgramHeader}
use Rattle.elf_image.specs.Elf.{segments}
use Rattle.elf_image.specs.Pages.{entry_of}
use Rattle.elf_image.specs.WrittenHeaders.{Field, byte_in_fields, file_header, number_byte}
use Rattle.code_modules.specs.JoinAnswers.{joined_file}
use Rattle.code_modules.specs.JoinedFile.{FilePart, byte_in_parts, data_start, file_of_parts, header_byte, joined_byte, offset_from, part_end, part_header, parts_end, placed_from, placed_parts}
use Rattle.code_modules.specs.JoinedParts.{CodeModule, JoinedPart, directory_entry, directory_of, directory_part, image_end, image_part, joined_parts, module_parts, module_start, modules_behind, whole_pages}

-- each element is a byte
abbrev IsOfBytes : List ℕ → Type 0
IsOfBytes bytes = (i : ℕ) → slice_index bytes i < 256

either_byte : (b : Bool) (x y : ℕ) → x < 256 → y < 256 → (if b then x else y) < 256
either_byte true x y first second = first
either_byte false x y first second = second

taken : (n : ℕ) (bytes : List ℕ) → IsOfBytes bytes → IsOfBytes (take n bytes)
taken zero bytes all i = lit< tt
taken (suc n) [] all i = lit< tt
taken (suc n) (x ∷ bytes) all zero = all 0
taken (suc n) (x ∷ bytes) all (suc i) = taken n bytes (λ j. all (suc j)) i

dropped : (n : ℕ) (bytes : List ℕ) → IsOfBytes bytes → IsOfBytes (drop n bytes)
dropped zero bytes all = all
dropped (suc n) [] all = all
dropped (suc n) (x ∷ bytes) all = dropped n bytes (λ j. all (suc j))

appended : (front back : List ℕ) → IsOfBytes front → IsOfBytes back → IsOfBytes (front ++ back)
appended [] back first second i = second i
appended (x ∷ front) back first second zero = first 0
appended (x ∷ front) back first second (suc i) = appended front back (λ j. first (suc j)) second i

mapped : (f : ℕ → ℕ) → ((at : ℕ) → f at < 256) → (places : List ℕ) → IsOfBytes (map f places)
mapped f each [] i = lit< tt
mapped f each (at ∷ places) zero = each at
mapped f each (at ∷ places) (suc i) = mapped f each places i

-- the bytes of a number, and of headers
low_byte : (i number : ℕ) → byte_at i number < 256
low_byte zero number = mod-lt number (lit< tt)
low_byte (suc i) number = mod-lt (number / 256 ^ suc i) (lit< tt)

of_number : (i count number : ℕ) → IsOfBytes (bytes_low_first i count number)
of_number i zero number k = lit< tt
of_number i (suc count) number zero = low_byte i number
of_number i (suc count) number (suc k) = of_number (suc i) count number k

of_fields : (fields : List Field) (at : ℕ) → byte_in_fields fields at < 256
of_fields [] at = lit< tt
of_fields (f ∷ later) at =
    let byte : number_byte f.number (at - f.place) < 256 = mod-lt _ (lit< tt) in
    either_byte (nat_le f.place at && nat_lt at (f.place + f.count)) (number_byte f.number (at - f.place)) (byte_in_fields later at)
    byte (of_fields later at)

-- the parts: those of the image, the modules and the directory
abbrev ArePartsOfBytes : List JoinedPart → Type 0
ArePartsOfBytes [] = ⊤
ArePartsOfBytes (part ∷ later) = IsOfBytes part.bytes × ArePartsOfBytes later

both_parts : (front back : List JoinedPart) → ArePartsOfBytes front → ArePartsOfBytes back → ArePartsOfBytes (front ++ back)
both_parts [] back first second = second
both_parts (part ∷ front) back first second = (first.0, both_parts front back first.1 second)

image_parts : (b : List ℕ) → IsOfBytes b → (segs : List ProgramHeader) → ArePartsOfBytes (map (image_part b) segs)
image_parts b all [] = tt
image_parts b all (s ∷ segs) =
    (taken s.file_size (drop s.offset b) (dropped s.offset b all), image_parts b all segs)

parts_of_modules : (end : ℕ) (modules : List CodeModule) → All (λ m. IsOfBytes m.bytes) modules
    → ArePartsOfBytes (module_parts end modules)
parts_of_modules end [] all = tt
parts_of_modules end (m ∷ later) all = (
  All-head (λ (it : CodeModule). IsOfBytes it.bytes) m later all,
  parts_of_modules (module_start end m.guard + whole_pages (length m.bytes)) later
      (All-tail (λ (it : CodeModule). IsOfBytes it.bytes) m later all),
)

entries : (modules : List JoinedPart) → IsOfBytes (flat_map directory_entry modules)
entries [] = λ i. lit< tt
entries (m ∷ later) =
    let number : (n : ℕ) → IsOfBytes (to_le_bytes w64 n) = of_number 0 (byte_len w64) in
    appended (directory_entry m) (flat_map directory_entry later)
    (appended (to_le_bytes w64 m.address) (to_le_bytes w64 (length m.bytes)) (number m.address) (number (length m.bytes)))
    (entries later)

of_directory : (modules : List JoinedPart) → IsOfBytes (directory_of modules)
unfolding directory_of
of_directory modules =
    appended (to_le_bytes w64 (length modules)) (flat_map directory_entry modules)
    (of_number 0 (byte_len w64) (length modules)) (entries modules)

-- the parts in their places, and the file by the byte at each place
abbrev ArePlacedOfBytes : List FilePart → Type 0
ArePlacedOfBytes [] = ⊤
ArePlacedOfBytes (p ∷ later) = IsOfBytes p.part.bytes × ArePlacedOfBytes later

placed : (end : ℕ) (parts : List JoinedPart) → ArePartsOfBytes parts → ArePlacedOfBytes (placed_from end parts)
placed end [] all = tt
placed end (part ∷ later) all = (all.0, placed (offset_from end part + length part.bytes) later all.1)

in_parts : (parts : List FilePart) (at : ℕ) → ArePlacedOfBytes parts → byte_in_parts parts at < 256
in_parts [] at all = lit< tt
in_parts (p ∷ later) at all =
    either_byte (nat_le p.offset at && nat_lt at (part_end p)) (slice_index p.part.bytes (at - p.offset)) (byte_in_parts later at)
    (all.0 (at - p.offset)) (in_parts later at all.1)

in_header : (p : Option FilePart) (at : ℕ) → header_byte p at < 256
in_header None at = lit< tt
in_header (Some p) at = of_fields (part_header p) at

of_place : (entry : ℕ) (parts : List FilePart) (at : ℕ) → ArePlacedOfBytes parts → joined_byte entry parts at < 256
unfolding joined_byte
of_place entry parts at all =
    either_byte (nat_lt at 64) _ _ (of_fields (file_header entry (length parts)) at)
    (either_byte (nat_lt at (64 + 56 * length parts)) _ _
    (in_header (slice_get parts ((at - 64) / 56)) ((at - 64) % 56)) (in_parts parts at all))

of_parts : (entry : ℕ) (parts : List FilePart) → ArePlacedOfBytes parts → IsOfBytes (file_of_parts entry parts)
unfolding file_of_parts
of_parts entry parts all =
    mapped (joined_byte entry parts) (λ at. of_place entry parts at all)
    (range_with_len 0 (parts_end (data_start (length parts)) parts))

pub joined_bytes : (b : List ℕ) (modules : List CodeModule) → IsOfBytes b → All (λ m. IsOfBytes m.bytes) modules
    → IsOfBytes (joined_file b modules)
joined_bytes b modules image each =
    let behind : List JoinedPart = modules_behind b modules in
    let parts : List JoinedPart = joined_parts b modules in
    let all : ArePartsOfBytes parts =
    both_parts (map (image_part b) (segments b)) (behind ++ directory_part behind ∷ []) (image_parts b image (segments b))
    (both_parts behind (directory_part behind ∷ []) (parts_of_modules (image_end b) modules each) (of_directory behind, tt)) in
    of_parts (entry_of b) (placed_parts parts) (placed (data_start (length parts)) parts all)
