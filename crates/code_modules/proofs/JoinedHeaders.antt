-- The file of joinable parts, read back: its headers, its segments, its form.
use Rattle.std.proofs.Common.{◌≡◌, ℕ, suc, ◌+◌, ◌*◌, ◌^◌, ◌<◌, ◌≤◌, true, false, List, [], ◌∷◌, length, map, get_or, None, refl, sym, ap, ◌∙◌, subst, arith}
use Rattle.std.specs.Prelude.{filter, nat_lt, slice_index}
use Rattle.std.specs.List.{All, range_with_len}
use Rattle.std.proofs.lemmas.Bool.{lt-ltb}
use Rattle.std.proofs.lemmas.List.Elements.{All-head, All-tail}
use Rattle.std.proofs.lemmas.List.FromFn.{get_or-map-range_with_len, length-map-range_with_len}
use Rattle.elf_image.specs.declared.program_header.ProgramHeader.{ProgramHeader}
use Rattle.elf_image.specs.Elf.{e_entry, e_phnum, header_at, is_segment, program_header_at, segments}
use Rattle.elf_image.specs.Rows.{file_fault, first_fault}
use Rattle.elf_image.specs.SegmentForm.{AreInForm, IsPlaced}
use Rattle.elf_image.specs.Segments.{is_code_at, is_writable_code}
use Rattle.elf_image.specs.WrittenHeaders.{HasFileHeader, HasProgramHeader, IsReadAsWritten, byte_in_fields, file_header}
use Rattle.code_modules.specs.FormWords.{AreJoinable, IsLoadable, header_from, numbered}
use Rattle.code_modules.specs.JoinedFile.{FilePart, data_start, file_from, file_of_parts, joined_byte, part_end, parts_end, placed_parts}
use Rattle.code_modules.specs.JoinedParts.{JoinedPart}
use Rattle.code_modules.proofs.FilePlaces.{end_rises, head_byte, table_byte}
use Rattle.code_modules.proofs.PlacedParts.{any_header, each_aligned, each_header, each_placed, end_inside, end_small, follow_placed, headers_apart, length_placed, total_is}

-- what the laws say of headers that were written
pub record HeaderLaws : Type 0 where
  pub file : (b : List ℕ) (entry count : ℕ) → HasFileHeader b entry count → IsReadAsWritten b entry count
  pub program : (b : List ℕ) (place i : ℕ) (h : ProgramHeader) → HasProgramHeader b place h
      → program_header_at b place i ≡ record h { index = i }
  pub form : (b : List ℕ) → file_fault b ≡ None → AreInForm (length b) (e_entry b) (segments b) → first_fault b ≡ None

-- headers at each number of a table are those of parts
map_numbered : (f : ℕ → ProgramHeader) (k : ℕ) (ps : List FilePart)
    → ((j : ℕ) (d : FilePart) → j < length ps → f (k + j) ≡ header_from (k + j) (get_or ps j d))
    → map f (range_with_len k (length ps)) ≡ numbered k ps
map_numbered f k [] each = refl
map_numbered f k (p ∷ ps) each =
    let here : k + 0 ≡ k = omega arith in
    let P : ℕ → Type 0 = λ i. f i ≡ header_from i p in
    let first : f k ≡ header_from k p = subst P here (each 0 p (omega arith)) in
    let rest = map_numbered f (k + 1) ps (λ j d below.
    let same : k + suc j ≡ k + 1 + j = omega arith in
    let Q : ℕ → Type 0 = λ i. f i ≡ header_from i (get_or ps j d) in
    subst Q same (each (suc j) d (omega arith))) in
    rw (first, rest) refl

-- each of them counts
all_count : (k : ℕ) (ps : List FilePart) → All (λ p. 0 < p.part.memory_size) ps → filter is_segment (numbered k ps) ≡ numbered k ps
all_count k [] all = refl
all_count k (p ∷ ps) all =
    let takes : nat_lt 0 p.part.memory_size ≡ true = lt-ltb 0 p.part.memory_size (All-head (λ q. 0 < q.part.memory_size) p ps all) in
    rw (takes, all_count (k + 1) ps (All-tail (λ q. 0 < q.part.memory_size) p ps all)) refl

module _ (entry : ℕ) (ps : List FilePart) where
  pub file_length : length (file_of_parts entry ps) ≡ parts_end (data_start (length ps)) ps
  unfolding file_of_parts
  file_length = length-map-range_with_len (joined_byte entry ps) 0 (parts_end (data_start (length ps)) ps)

  pub file_byte : (at : ℕ) → at < length (file_of_parts entry ps) → slice_index (file_of_parts entry ps) at ≡ joined_byte entry ps at
  unfolding file_of_parts
  file_byte at within =
      let long = length-map-range_with_len (joined_byte entry ps) 0 (parts_end (data_start (length ps)) ps) in
      get_or-map-range_with_len (joined_byte entry ps) 0 (parts_end (data_start (length ps)) ps) at at 0 (omega arith) (omega arith)

-- an entry in the memory of a segment of the home has 64 bits
module _ (laws : HeaderLaws) (entry : ℕ) (address : entry < 2 ^ 64) (parts : List JoinedPart) (joinable : AreJoinable entry parts) where
  count_is : length (placed_parts parts) ≡ length parts
  count_is = length_placed (data_start (length parts)) parts

  few_parts : length parts ≤ 64
  few_parts = joinable.few

  pub joined_length : length (file_from entry parts) ≡ parts_end (data_start (length parts)) (placed_parts parts)
  joined_length = file_length entry (placed_parts parts) ∙ ap (λ n. parts_end (data_start n) (placed_parts parts)) count_is

  data_inside : data_start (length parts) ≤ length (file_from entry parts)
  data_inside =
      omega (arith, joined_length, end_rises (data_start (length parts)) (placed_parts parts) (follow_placed (data_start (length parts)) parts))

  pub table_inside : 64 + 56 * length parts ≤ length (file_from entry parts)
  table_inside = omega (arith, data_inside)

  pub joined_small : length (file_from entry parts) ≤ 4096 + (2 ^ 30 + 4096) * 64
  joined_small = omega (arith, joined_length, few_parts, end_small (data_start (length parts)) parts joinable.each)

  written_head : HasFileHeader (file_from entry parts) entry (length parts)
  written_head = record {
    some = joinable.some;
    few = few_parts;
    long = table_inside;
    address = address;
    bytes = λ at below.
        file_byte entry (placed_parts parts) at (omega (arith, table_inside)) ∙ head_byte entry at (placed_parts parts) below
        ∙ ap (λ n. byte_in_fields (file_header entry n) at) count_is;
  }

  pub head_read : IsReadAsWritten (file_from entry parts) entry (length parts)
  head_read = laws.file (file_from entry parts) entry (length parts) written_head

  all_loadable : All (λ p. IsLoadable p.part) (placed_parts parts)
  all_loadable = each_placed IsLoadable (data_start (length parts)) parts joinable.each

  all_inside : All (λ p. part_end p ≤ length (file_from entry parts)) (placed_parts parts)
  all_inside = end_inside (data_start (length parts)) (length (file_from entry parts)) parts (omega (arith, joined_length))

  written_part : (i : ℕ) (d : FilePart) → i < length (placed_parts parts)
      → HasProgramHeader (file_from entry parts) (64 + 56 * i) (header_from i (get_or (placed_parts parts) i d))
  written_part i d inside =
      let p : FilePart = get_or (placed_parts parts) i d in
      let loadable : IsLoadable p.part = all_loadable i d inside in
      let ends : part_end p ≤ length (file_from entry parts) = all_inside i d inside in
      record {
        loaded = refl;
        flags = omega (arith, loadable.flags);
        offset = omega (arith, ends, joined_small);
        address = omega (arith, loadable.below);
        file_size = omega (arith, loadable.backed, loadable.below);
        memory_size = omega (arith, loadable.below);
        bytes = λ k below.
            file_byte entry (placed_parts parts) (64 + 56 * i + k) (omega (arith, table_inside, count_is, inside, below))
            ∙ table_byte entry i k (placed_parts parts) d inside below;
      }

  part_read : (i : ℕ) (d : FilePart) → i < length (placed_parts parts)
      → header_at (file_from entry parts) i ≡ header_from i (get_or (placed_parts parts) i d)
  part_read i d inside =
      ap (λ at. program_header_at (file_from entry parts) (at + 56 * i) i) head_read.table_read
      ∙ laws.program (file_from entry parts) (64 + 56 * i) i (header_from i (get_or (placed_parts parts) i d)) (written_part i d inside)

  takes_memory : All (λ p. 0 < p.part.memory_size) (placed_parts parts)
  takes_memory i d inside = (all_loadable i d inside).takes

  -- the segments of the file are its parts
  pub segments_read : segments (file_from entry parts) ≡ numbered 0 (placed_parts parts)
  unfolding segments
  segments_read =
      let same : e_phnum (file_from entry parts) ≡ length (placed_parts parts) = head_read.count_read ∙ sym count_is in
      let each : (j : ℕ) (d : FilePart) → j < length (placed_parts parts) → header_at (file_from entry parts) (0 + j) ≡ header_from (0 + j) (get_or (placed_parts parts) j d) =
      λ j d below. let here : j ≡ 0 + j = omega arith in
      let P : ℕ → Type 0 = λ i. header_at (file_from entry parts) i ≡ header_from i (get_or (placed_parts parts) j d) in
      subst P here (part_read j d below) in
      ap (λ n. filter is_segment (map (header_at (file_from entry parts)) (range_with_len 0 n))) same
      ∙ ap (filter is_segment) (map_numbered (header_at (file_from entry parts)) 0 (placed_parts parts) each)
      ∙ all_count 0 (placed_parts parts) takes_memory

  abbrev IsInFile : FilePart → Type 0
  IsInFile p = IsLoadable p.part × (part_end p ≤ length (file_from entry parts))

  all_in_file : All IsInFile (placed_parts parts)
  all_in_file i d inside = (all_loadable i d inside, all_inside i d inside)

  segments_form : AreInForm (length (file_from entry parts)) entry (numbered 0 (placed_parts parts))
  segments_form = record {
    placed = each_header (IsPlaced (length (file_from entry parts))) IsInFile
        (λ i p it. let loadable = it.0 in record {
          takes = loadable.takes;
          backed = loadable.backed;
          inside = it.1;
          above = loadable.above;
          below = loadable.below;
        }) 0 (placed_parts parts) all_in_file;
    aligned = each_aligned (data_start (length parts)) 0 parts;
    rights = each_header (λ s. is_writable_code s ≡ false) (λ p. IsLoadable p.part) (λ i p it. it.rights) 0 (placed_parts parts) all_loadable;
    apart = headers_apart 0 (data_start (length parts)) parts joinable.apart;
    code = any_header (is_code_at entry) (λ i o p. refl) 0 (data_start (length parts)) parts ∙ joinable.code;
    few = omega (arith, total_is 0 (data_start (length parts)) parts, joinable.pages);
  }

  pub form_read : first_fault (file_from entry parts) ≡ None
  form_read =
      let J : List ℕ = file_from entry parts in
      let P : ℕ → Type 0 = λ e. AreInForm (length (file_from entry parts)) e (segments (file_from entry parts)) in
      let Q : List ProgramHeader → Type 0 = λ segs. AreInForm (length (file_from entry parts)) entry segs in
      laws.form (file_from entry parts) head_read.none
      (subst P (sym head_read.entry_read) (subst Q (sym segments_read) segments_form))
