-- A whole file by its headers.
use Rattle.std.proofs.Common.{◌≡◌, ℕ, ◌+◌, ◌-◌, ◌*◌, ◌<◌, ◌++◌, false, cond, List, length, take, drop, replicate, get_or, get_or-take, get_or-drop, Option, Some, None, refl, sym, ap, ◌∙◌, subst, arith, inl, inr, length-append, length-take-le, length-drop}
use Rattle.std.proofs.lemmas.Bool.{cases_lt, cond-true, cond-false}
use Rattle.std.proofs.lemmas.List.{get_or-append_right, get_or_append_left, get_or-replicate, length-replicate}
use Rattle.std.proofs.lemmas.List.Elements.{filter_agree}
use Rattle.std.specs.Prelude.{filter, option_map, Result, Ok, Err, MatchResult, IfSome}
use Rattle.elf_image.specs.declared.fault.ImageFault.{ImageFault}
use Rattle.elf_image.specs.declared.program_header.ProgramHeader.{ProgramHeader}
use Rattle.elf_image.specs.Elf.{e_entry, segments}
use Rattle.elf_image.specs.Home.{page_size}
use Rattle.elf_image.specs.Segments.{loads}
use Rattle.elf_image.specs.Rows.{file_fault, first_fault, or_later}
use Rattle.elf_image.specs.HeaderRows.{FileHeaders, FileShape, head_fault, headers_of, shape_of, table_fault, table_of}
use Rattle.elf_image.specs.Pages.{IsBytesOfPage, IsPageList, byte_of, entry_of, executable_page_count, is_executable, is_in_memory, is_page, is_writable, page_count, pages_of}
use Rattle.elf_image.specs.SegmentPages.{byte_in, is_executable_of, is_writable_of, pages_in, file_place, loaded_place}
use Rattle.elf_image.specs.FileParts.{ArePages, AreTrueOf, IsImage, IsPart, IsShapeOf, page_with}
use Rattle.elf_image.specs.Loaded.{IsFilePart, Supplies}
use Rattle.elf_image.proofs.FormLaws.{judged_file}
use Rattle.elf_image.proofs.PageLaws.{page_list}
use Rattle.elf_image.proofs.PartLaws.{bytes_same, executable_same, pages_same, read_in_parts, writable_same}

-- pages of the segments of a file are those of the file
listed_in : (b pages : List ℕ) → ArePages (segments b) pages → IsPageList b pages
unfolding is_page is_in_memory is_executable is_writable
listed_in b pages a = record {
  ascending = a.ascending;
  home = a.home;
  touched = a.touched;
  complete = a.complete;
  holds = a.holds;
  held = a.held;
  executable = a.executable;
  unwritable = a.unwritable;
}

pub file_pages : (b : List ℕ) → first_fault b ≡ None → IsPageList b (pages_of b)
file_pages b form =
    let P : List ℕ → Type 0 = λ pages. IsPageList b pages in
    subst P (sym (pages_same b)) (listed_in b (pages_in (segments b)) (page_list (length b) (e_entry b) (segments b) (judged_file b form)))

-- the first bytes that a row refuses are those of a file that it refuses
pub faulty_head : (b head : List ℕ) (fault : ImageFault) → head ≡ take 64 b → head_fault (length b) head ≡ Some fault → first_fault b ≡ Some fault
unfolding first_fault
faulty_head b head fault is stands =
    let same : file_fault b ≡ Some fault = sym (read_in_parts b).head ∙ ap (head_fault (length b)) (sym is) ∙ stands in
    rw same refl

-- the file's rows are those on its segments where none on its file header stands
rows_behind : (b : List ℕ) → file_fault b ≡ None → first_fault b ≡ table_fault (shape_of (length b) b) (table_of b)
rows_behind b none = sym (read_in_parts b).rows ∙ ap (λ (first : Option ImageFault). or_later first (table_fault (shape_of (length b) b) (table_of b))) none

abbrev with_segments : List ℕ → List ProgramHeader → FileHeaders
with_segments b segs = record { size = length b; entry = e_entry b; segments = segs }

-- the first bytes of a file give its shape
pub head_judged : (b head : List ℕ) (size : ℕ) (r : Result FileShape ImageFault) → length b ≡ size → head ≡ take 64 b
    → MatchResult r (λ s. (s ≡ shape_of size head) × (head_fault size head ≡ None)) (λ fault. head_fault size head ≡ Some fault)
    → MatchResult r (λ s. IsShapeOf b s) (λ fault. first_fault b ≡ Some fault)
head_judged b head size (Ok s) sized is found = record {
  none = sym (read_in_parts b).head ∙ ap (head_fault (length b)) (sym is) ∙ ap (λ (n : ℕ). head_fault n head) sized ∙ found.1;
  is = found.0 ∙ ap (λ (n : ℕ). shape_of n head) (sym sized) ∙ ap (shape_of (length b)) is ∙ (read_in_parts b).shape;
}
head_judged b head size (Err fault) sized is stands = faulty_head b head fault is (ap (λ (n : ℕ). head_fault n head) sized ∙ stands)

-- a file of a known shape by its table, which its headers are read from
module _ (b table : List ℕ) (shape : FileShape) (shaped : IsShapeOf b shape) (is_table : table ≡ table_of b) where
  same_fault : table_fault shape table ≡ table_fault (shape_of (length b) b) (table_of b)
  same_fault = ap (λ (s : FileShape). table_fault s table) shaped.is ∙ ap (table_fault (shape_of (length b) b)) is_table

  same_headers : headers_of shape table ≡ with_segments b (segments b)
  same_headers =
      ap (λ (s : FileShape). headers_of s table) shaped.is
      ∙ ap (headers_of (shape_of (length b) b)) is_table
      ∙ ap (with_segments b) (read_in_parts b).counting

  first_is : first_fault b ≡ table_fault shape table
  first_is = rows_behind b shaped.none ∙ sym same_fault

  pub table_judged : (r : Result FileHeaders ImageFault)
      → MatchResult r (λ h. (h ≡ headers_of shape table) × (table_fault shape table ≡ None)) (λ fault. table_fault shape table ≡ Some fault)
      → MatchResult r (λ h. IsImage b h) (λ fault. first_fault b ≡ Some fault)
  table_judged (Ok h) found =
      let same : h ≡ with_segments b (segments b) = found.0 ∙ same_headers in
      record {
        form = first_is ∙ found.1;
        size = ap (λ (x : FileHeaders). x.size) same;
        entry = ap (λ (x : FileHeaders). x.entry) same;
        listed = ap (λ (x : FileHeaders). x.segments) same;
      }
  table_judged (Err fault) stands = first_is ∙ stands

abbrev blanks : ℕ → List ℕ
blanks n = replicate n 0

zeros : (n : ℕ) → length (blanks n) ≡ n
zeros n = length-replicate {A = ℕ} n 0

-- an image and its headers
module _ (b : List ℕ) (h : FileHeaders) (image : IsImage b h) where
  pub image_pages : pages_in h.segments ≡ pages_of b
  image_pages = ap pages_in image.listed ∙ sym (pages_same b)

  pub image_count : length (pages_in h.segments) ≡ page_count b
  image_count = ap length image_pages

  pub image_executable : (n : ℕ) → is_executable_of h.segments n ≡ is_executable b n
  image_executable n = ap (λ (segs : List ProgramHeader). is_executable_of segs n) image.listed ∙ sym (executable_same b n)

  pub image_writable : (n : ℕ) → is_writable_of h.segments n ≡ is_writable b n
  image_writable n = ap (λ (segs : List ProgramHeader). is_writable_of segs n) image.listed ∙ sym (writable_same b n)

  pub image_executable_count : length (filter (λ n. is_executable_of h.segments n) (pages_in h.segments)) ≡ executable_page_count b
  image_executable_count =
      ap length (filter_agree (λ n. is_executable_of h.segments n) (is_executable b) image_executable (pages_in h.segments)
      ∙ ap (λ (pages : List ℕ). filter (is_executable b) pages) image_pages)

  pub image_byte : (va : ℕ) → byte_in b (loaded_place h.segments va) ≡ byte_of b va
  image_byte va = ap (λ (segs : List ProgramHeader). byte_in b (loaded_place segs va)) image.listed ∙ sym (bytes_same b va)

  pub image_list : IsPageList b (pages_of b)
  image_list = file_pages b image.form

  pub image_inside : (o : Option ℕ) → IfSome o (λ at. at < h.size) → IfSome o (λ at. at < length b)
  image_inside (Some at) inside = omega (arith, inside, image.size)
  image_inside None inside = inside

  -- a page whose part of the file is laid into zeros
  laid_byte : (n at skip len k : ℕ) → IsPart h.size h.segments (page_size * n) at skip len → k < page_size
      → get_or (blanks skip ++ (take len (drop at b) ++ blanks (page_size - (skip + len)))) k 0 ≡ byte_in b (loaded_place h.segments (page_size * n + k))
  laid_byte n at skip len k part inside =
      let whole : length (take len (drop at b)) ≡ len = length-take-le len (drop at b) (omega (arith, length-drop at b, part.inside, image.size)) in
      let blank = zeros skip in
      elim (cases_lt k skip) [
        | inl low ↦
            get_or_append_left (blanks skip) _ 0 k (omega (arith, low, blank)) ∙ get_or-replicate {A = ℕ} skip k 0 0 (omega (arith, low))
            ∙ ap (byte_in b) (sym (part.before k low))
        | inr high ↦
            let past : get_or (blanks skip ++ (take len (drop at b) ++ blanks (page_size - (skip + len)))) k 0 ≡ get_or (take len (drop at b) ++ blanks (page_size - (skip + len))) (k - skip) 0 =
            get_or-append_right (blanks skip) _ skip k 0 blank high in
            elim (cases_lt k (skip + len)) [
              | inl within ↦
                  past
                  ∙ get_or_append_left (take len (drop at b)) _ 0 (k - skip) (omega (arith, high, within, whole))
                  ∙ get_or-take len (drop at b) (k - skip) 0 (omega (arith, high, within))
                  ∙ get_or-drop at b (k - skip) 0
                  ∙ ap (byte_in b) (sym (part.within k high within))
              | inr after ↦
                  past
                  ∙ get_or-append_right (take len (drop at b)) _ len (k - skip) 0 whole (omega (arith, high, after))
                  ∙ get_or-replicate {A = ℕ} (page_size - (skip + len)) (k - skip - len) 0 0 (omega (arith, high, after, inside))
                  ∙ ap (byte_in b) (sym (part.after k after inside))
            ]
      ]

  pub image_laid : (n at skip len : ℕ) (bytes : List ℕ) → IsPart h.size h.segments (page_size * n) at skip len
      → bytes ≡ blanks skip ++ (take len (drop at b) ++ blanks (page_size - (skip + len))) → IsBytesOfPage b n bytes
  image_laid n at skip len bytes part is =
      let whole : length (take len (drop at b)) ≡ len = length-take-le len (drop at b) (omega (arith, length-drop at b, part.inside, image.size)) in
      let one = length-append (blanks skip) (take len (drop at b) ++ blanks (page_size - (skip + len))) in
      let two = length-append (take len (drop at b)) (blanks (page_size - (skip + len))) in
      record {
        full = omega (arith, ap length is, one, two, whole, zeros skip, zeros (page_size - (skip + len)), part.fits);
        each = λ k inside. ap (λ (xs : List ℕ). get_or xs k 0) is ∙ laid_byte n at skip len k part inside ∙ image_byte (page_size * n + k);
      }

pub told_by : (b : List ℕ) (h : FileHeaders) → IsImage b h → AreTrueOf b h
unfolding entry_of
told_by b h image = record {
  entry = image.entry;
  pages = image_pages b h image;
  executable = image_executable b h image;
  writable = image_writable b h image;
  count = image_executable_count b h image;
  bytes = λ n at skip len part. image_laid b h image n at skip len (page_with b at skip len) part refl;
}

-- the part of a page of which a segment loads bytes, and of one of which none does
module _ (size : ℕ) (segs : List ProgramHeader) (n : ℕ) where
  pub part_from : (s : ProgramHeader) (at skip len : ℕ) → Supplies size segs n (Some s) → IsFilePart size s (page_size * n) at skip len → IsPart size segs (page_size * n) at skip len
  part_from s at skip len supplied part =
      let here : (k : ℕ) → k < page_size → loaded_place segs (page_size * n + k) ≡ option_map (λ t. file_place (page_size * n + k) t) (cond (loads s (page_size * n + k)) (Some s) None) =
      λ k below. supplied.1 (page_size * n + k) (omega arith) in
      let gone : (k : ℕ) → k < page_size → loads s (page_size * n + k) ≡ false → loaded_place segs (page_size * n + k) ≡ None =
      λ k below none. here k below ∙ ap (λ (o : Option ProgramHeader). option_map (λ t. file_place (page_size * n + k) t) o) (cond-false (loads s (page_size * n + k)) (Some s) None none) in
      record {
        fits = part.fits;
        inside = part.inside;
        blank = part.blank;
        within = λ k low high.
            let both = part.within k low high in
            here k (omega (arith, high, part.fits))
            ∙ ap (λ (o : Option ProgramHeader). option_map (λ t. file_place (page_size * n + k) t) o) (cond-true (loads s (page_size * n + k)) (Some s) None both.0)
            ∙ ap (λ (m : ℕ). Some m) both.1;
        before = λ k low. gone k (omega (arith, low, part.fits)) (part.before k low);
        after = λ k low high. gone k high (part.after k low high);
      }

  pub part_blank : Supplies size segs n None → IsPart size segs (page_size * n) 0 0 0
  part_blank none = record {
    fits = omega arith;
    inside = omega arith;
    blank = λ _. (refl, refl);
    within = λ k low high. absurd (omega (arith, high));
    before = λ k low. absurd (omega (arith, low));
    after = λ k low high. none (page_size * n + k) (omega (arith, high));
  }
