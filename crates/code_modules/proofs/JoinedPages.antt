-- What the file of a joined image loads.
use Rattle.std.proofs.Common.{◌≡◌, ℕ, suc, ◌+◌, ◌-◌, ◌*◌, ◌/◌, ◌^◌, ◌<◌, ◌≤◌, Bool, true, false, ◌&&◌, ◌==◌, List, [], ◌∷◌, ◌++◌, length, map, take, drop, get_or, None, Some, inl, inr, refl, sym, ap, ◌∙◌, subst, arith, length-append}
use Rattle.std.specs.Prelude.{find, nat_eq, nat_le, slice_get, slice_index, ◌||◌}
use Rattle.std.specs.List.{All, list_any}
use Rattle.std.proofs.Math.Seq.{split_at}
use Rattle.std.proofs.lemmas.Bool.{and_from, and_left, and_right, cases_eq, cases_lt, eq-eqb, le-leb, lt-leb, ne_eqb}
use Rattle.std.proofs.lemmas.List.{get_or-append_right, get_or_append_left}
use Rattle.std.proofs.lemmas.List.Elements.{All-append, All-cons, All-head, All-nil, All-tail, All-weaker}
use Rattle.std.proofs.lemmas.List.Folds.{list_any-append}
use Rattle.std.proofs.lemmas.Option.{get_or_from_slice_get, slice_get_within}
use Rattle.elf_image.specs.declared.program_header.ProgramHeader.{ProgramHeader}
use Rattle.elf_image.specs.Elf.{e_entry, has_flag, pf_w, pf_x, segments}
use Rattle.elf_image.specs.Pages.{IsPageList, byte_from, byte_of, entry_of, is_executable, is_page, is_writable, pages_of}
use Rattle.elf_image.specs.Rows.{first_fault}
use Rattle.elf_image.specs.SegmentForm.{AreInForm}
use Rattle.elf_image.specs.Segments.{loads, touches}
use Rattle.code_modules.specs.FormWords.{AreJoinable, unplaced, header_from, loaded_byte, numbered}
use Rattle.code_modules.specs.JoinAnswers.{first_empty, is_fitting, joined_file, part_last}
use Rattle.code_modules.specs.JoinedFile.{FilePart, data_start, file_from, part_end, placed_parts}
use Rattle.code_modules.specs.JoinedImage.{IsLoadedWith, is_page_in, part_touches}
use Rattle.code_modules.specs.JoinedParts.{CodeModule, JoinedPart, directory_address, directory_of, directory_part, image_end, image_part, joined_parts, module_part, module_parts, module_start, modules_behind, whole_pages}
use Rattle.code_modules.specs.PartWords.{Follow}
use Rattle.code_modules.proofs.FilePlaces.{held}
use Rattle.code_modules.proofs.JoinableParts.{IsBetween, any_image, end_below, entry_small, joinable, modules_between, page_below, same_flag}
use Rattle.code_modules.proofs.JoinedHeaders.{HeaderLaws, file_byte, form_read, head_read, joined_length, segments_read}
use Rattle.code_modules.proofs.LoadedBytes.{HoldsPart, before_part, from_headers, from_image, none_behind, none_loads, own_byte}
use Rattle.code_modules.proofs.PlacedParts.{any_header, end_inside, follow_lower, follow_placed, length_placed, parts_of_placed}

-- modules may be executed, and not written
module_flags : (end : ℕ) (modules : List CodeModule) → All (λ p. p.flags ≡ 5) (module_parts end modules)
module_flags end [] = All-nil (λ p. p.flags ≡ 5)
module_flags end (m ∷ later) =
    All-cons (λ p. p.flags ≡ 5) (module_part (module_start end m.guard) m.bytes) _ refl
    (module_flags (module_start end m.guard + whole_pages (length m.bytes)) later)

any_with : (f g : JoinedPart → Bool) (parts : List JoinedPart) → ((p : JoinedPart) → p.flags ≡ 5 → f p ≡ g p) → All (λ p. p.flags ≡ 5) parts
    → list_any f parts ≡ list_any g parts
any_with f g [] same all = refl
any_with f g (p ∷ later) same all =
    rw (same p (All-head (λ q. q.flags ≡ 5) p later all), any_with f g later same (All-tail (λ q. q.flags ≡ 5) p later all)) refl

none_of : (parts : List JoinedPart) → list_any (λ p. false) parts ≡ false
none_of [] = refl
none_of (p ∷ later) = none_of later

and_true : (x : Bool) → (x && true) ≡ x
and_true true = refl
and_true false = refl

and_false : (x : Bool) → (x && false) ≡ false
and_false true = refl
and_false false = refl

or_false : (x : Bool) → (x || false) ≡ x
or_false true = refl
or_false false = refl

or_nothing : (x y z : Bool) → y ≡ false → z ≡ false → (x || (y || (z || false))) ≡ x
or_nothing true y z gone none = refl
or_nothing false y z gone none = rw (gone, none) refl

one_page : (d n : ℕ) → (nat_le d n && nat_le n d) ≡ nat_eq n d
one_page d n = elim (cases_eq n d) [
  | inl same ↦
      let low : d ≤ n = omega arith in
      let high : n ≤ d = omega arith in
      and_from (nat_le d n) (nat_le n d) (le-leb d n low) (le-leb n d high) ∙ sym (eq-eqb n d same)
  | inr other ↦ elim (cases_lt n d) [
    | inl before ↦ and_left (nat_le d n) (nat_le n d) (lt-leb d n before) ∙ sym (ne_eqb n d other)
    | inr behind ↦
        let past : d < n = omega arith in
        and_right (nat_le d n) (nat_le n d) (lt-leb n d past) ∙ sym (ne_eqb n d other)
  ]
]

module _ (laws : HeaderLaws) (b : List ℕ) (modules : List CodeModule) (law : AreInForm (length b) (e_entry b) (segments b))
    (list : IsPageList b (pages_of b)) (some : 0 < length modules) (full : first_empty modules ≡ None) (fits : is_fitting b modules ≡ true) where
  abbrev mods : List JoinedPart
  mods = modules_behind b modules

  fitting : AreJoinable (e_entry b) (joined_parts b modules)
  fitting = joinable b modules law list some full fits

  small : e_entry b < 2 ^ 64
  small = entry_small b law

  pub joined_form : first_fault (file_from (e_entry b) (joined_parts b modules)) ≡ None
  joined_form = form_read laws (e_entry b) small (joined_parts b modules) fitting

  pub joined_entry : e_entry (file_from (e_entry b) (joined_parts b modules)) ≡ e_entry b
  joined_entry = (head_read laws (e_entry b) small (joined_parts b modules) fitting).entry_read

  joined_segments : segments (file_from (e_entry b) (joined_parts b modules)) ≡ numbered 0 (placed_parts (joined_parts b modules))
  joined_segments = segments_read laws (e_entry b) small (joined_parts b modules) fitting

  -- a test of the segments, by the parts
  by_parts : (test : ProgramHeader → Bool) → ((i o : ℕ) (p : JoinedPart) → test (header_from i (record { offset = o; part = p })) ≡ test (unplaced p))
      → list_any test (segments (file_from (e_entry b) (joined_parts b modules)))
      ≡ (list_any (λ p. test (unplaced p)) (map (image_part b) (segments b)) || (list_any (λ p. test (unplaced p)) mods || (test (unplaced (directory_part mods)) || false)))
  by_parts test same =
      ap (list_any test) joined_segments
      ∙ any_header test same 0 (data_start (length (joined_parts b modules))) (joined_parts b modules)
      ∙ list_any-append (λ p. test (unplaced p)) (map (image_part b) (segments b)) (mods ++ directory_part mods ∷ [])
      ∙ ap (λ x. list_any (λ p. test (unplaced p)) (map (image_part b) (segments b)) || x) (list_any-append (λ p. test (unplaced p)) mods (directory_part mods ∷ []))

  few_mods : 8 + 16 * length mods ≤ 4096
  few_mods =
      omega (arith, fitting.few, length-append (map (image_part b) (segments b)) (mods ++ directory_part mods ∷ []), length-append mods (directory_part mods ∷ []))

  directory_page : (n : ℕ) → touches (unplaced (directory_part mods)) n ≡ nat_eq n (directory_address / 4096)
  directory_page n =
      let last : part_last (directory_part mods) ≡ directory_address / 4096 = omega (arith, few_mods) in
      ap (λ m. nat_le (directory_address / 4096) n && nat_le n m) last ∙ one_page (directory_address / 4096) n

  pub joined_pages : (n : ℕ) → is_page (file_from (e_entry b) (joined_parts b modules)) n ≡ (is_page b n || (is_page_in mods n || n == directory_address / 4096))
  unfolding is_page
  joined_pages n =
      by_parts (λ s. touches s n) (λ i o p. refl)
      ∙ ap (λ x. x || (is_page_in mods n || (touches (unplaced (directory_part mods)) n || false)))
      (any_image b (λ p. touches (unplaced p) n) (λ s. touches s n) (λ s. refl) (segments b))
      ∙ ap (λ x. is_page b n || (is_page_in mods n || x)) (or_false (touches (unplaced (directory_part mods)) n) ∙ directory_page n)

  image_any : (n flag : ℕ) → flag < 8 → list_any (λ p. touches (unplaced p) n && has_flag (unplaced p) flag) (map (image_part b) (segments b))
      ≡ list_any (λ s. touches s n && has_flag s flag) (segments b)
  image_any n flag low =
      any_image b (λ p. touches (unplaced p) n && has_flag (unplaced p) flag) (λ s. touches s n && has_flag s flag)
      (λ s. ap (λ x. touches s n && x) (same_flag b s flag low)) (segments b)

  pub joined_executable : (n : ℕ) → is_executable (file_from (e_entry b) (joined_parts b modules)) n ≡ (is_executable b n || is_page_in mods n)
  unfolding is_executable
  joined_executable n =
      let modules_run : list_any (λ p. touches (unplaced p) n && has_flag (unplaced p) pf_x) mods ≡ is_page_in mods n =
      any_with (λ p. touches (unplaced p) n && has_flag (unplaced p) pf_x) (part_touches n) mods
      (λ p is. ap (λ f. touches (unplaced p) n && has_flag (unplaced (record p { flags = f })) pf_x) is ∙ and_true (touches (unplaced p) n))
      (module_flags (image_end b) modules) in
      by_parts (λ s. touches s n && has_flag s pf_x) (λ i o p. refl)
      ∙ ap (λ x. x || (list_any (λ p. touches (unplaced p) n && has_flag (unplaced p) pf_x) mods || ((touches (unplaced (directory_part mods)) n && false) || false)))
      (image_any n 1 (omega arith))
      ∙ ap (λ x. is_executable b n || (x || ((touches (unplaced (directory_part mods)) n && false) || false))) modules_run
      ∙ ap (λ x. is_executable b n || (is_page_in mods n || (x || false))) (and_false (touches (unplaced (directory_part mods)) n))
      ∙ ap (λ x. is_executable b n || x) (or_false (is_page_in mods n))

  pub joined_writable : (n : ℕ) → is_writable (file_from (e_entry b) (joined_parts b modules)) n ≡ is_writable b n
  unfolding is_writable
  joined_writable n =
      let modules_keep : list_any (λ p. touches (unplaced p) n && has_flag (unplaced p) pf_w) mods ≡ false =
      any_with (λ p. touches (unplaced p) n && has_flag (unplaced p) pf_w) (λ p. false) mods
      (λ p is. ap (λ f. touches (unplaced p) n && has_flag (unplaced (record p { flags = f })) pf_w) is ∙ and_false (touches (unplaced p) n))
      (module_flags (image_end b) modules) ∙ none_of mods in
      by_parts (λ s. touches s n && has_flag s pf_w) (λ i o p. refl)
      ∙ or_nothing _ _ _ modules_keep (and_false (touches (unplaced (directory_part mods)) n))
      ∙ image_any n 2 (omega arith)

  -- the file holds each part
  file_holds : All (HoldsPart (file_from (e_entry b) (joined_parts b modules))) (placed_parts (joined_parts b modules))
  file_holds i d inside at low high =
      let ps : List FilePart = placed_parts (joined_parts b modules) in
      let start : ℕ = data_start (length (joined_parts b modules)) in
      let count : length (placed_parts (joined_parts b modules)) ≡ length (joined_parts b modules) = length_placed start (joined_parts b modules) in
      let before : 64 + 56 * length (placed_parts (joined_parts b modules)) ≤ data_start (length (joined_parts b modules)) = omega (arith, count) in
      let follow : Follow (64 + 56 * length (placed_parts (joined_parts b modules))) (placed_parts (joined_parts b modules)) =
      follow_lower _ start ps before (follow_placed start (joined_parts b modules)) in
      let long = joined_length laws (e_entry b) small (joined_parts b modules) fitting in
      let ends : part_end (get_or (placed_parts (joined_parts b modules)) i d) ≤ length (file_from (e_entry b) (joined_parts b modules)) =
      end_inside start (length (file_from (e_entry b) (joined_parts b modules))) (joined_parts b modules) (omega (arith, long)) i d inside in
      file_byte (e_entry b) ps at (omega (arith, ends, high))
      ∙ held (e_entry b) ps (take i ps) (get_or ps i d) (drop (suc i) ps) (split_at ps i d inside) follow at low high

  pub by_loaded : (va : ℕ) → byte_of (file_from (e_entry b) (joined_parts b modules)) va ≡ loaded_byte (joined_parts b modules) va
  unfolding byte_of
  by_loaded va =
      ap (λ (segs : List ProgramHeader). byte_from (file_from (e_entry b) (joined_parts b modules)) va (find (λ s. loads s va) segs)) joined_segments
      ∙ from_headers (file_from (e_entry b) (joined_parts b modules)) va 0 (placed_parts (joined_parts b modules)) file_holds
      ∙ ap (λ parts. loaded_byte parts va) (parts_of_placed (data_start (length (joined_parts b modules))) (joined_parts b modules))

  -- on a page of the image
  pub on_image : (va : ℕ) → is_page b (va / 4096) ≡ true → byte_of (file_from (e_entry b) (joined_parts b modules)) va ≡ byte_of b va
  unfolding byte_of
  on_image va on =
      let end : 4096 * (va / 4096) + 4096 ≤ image_end b = page_below b list (va / 4096) on in
      let behind : va < image_end b = omega arith in
      let first_page : va / 4096 < image_end b / 4096 = omega arith in
      let rest : All (λ p. loads (unplaced p) va ≡ false) (mods ++ directory_part mods ∷ []) =
      All-append (λ p. loads (unplaced p) va ≡ false) mods (directory_part mods ∷ [])
      (All-weaker (IsBetween (image_end b / 4096)) (λ p. loads (unplaced p) va ≡ false)
      (λ q it. before_part q va (omega (arith, it.low, it.begins))) mods (modules_between b modules law list some full fits))
      (All-cons (λ p. loads (unplaced p) va ≡ false) (directory_part mods) []
      (before_part (directory_part mods) va (omega (arith, end_below b modules law list some full fits))) (All-nil (λ p. loads (unplaced p) va ≡ false))) in
      by_loaded va
      ∙ none_behind (map (image_part b) (segments b)) (mods ++ directory_part mods ∷ []) va (none_loads (mods ++ directory_part mods ∷ []) va rest)
      ∙ from_image b va (segments b) law.placed

  -- on a page of a part, from its first byte on
  on_part : (i : ℕ) (d : JoinedPart) (va : ℕ) → i < length (joined_parts b modules) → (get_or (joined_parts b modules) i d).address ≤ va
      → va / 4096 ≤ part_last (get_or (joined_parts b modules) i d)
      → byte_of (file_from (e_entry b) (joined_parts b modules)) va ≡ slice_index (get_or (joined_parts b modules) i d).bytes (va - (get_or (joined_parts b modules) i d).address)
  on_part i d va inside low high = by_loaded va ∙ own_byte (joined_parts b modules) i d va fitting.apart fitting.each inside low high

  module_place : (i : ℕ) (d : JoinedPart) → i < length mods → get_or (joined_parts b modules) (length (map (image_part b) (segments b)) + i) d ≡ get_or mods i d
  module_place i d inside =
      let back : length (map (image_part b) (segments b)) + i - length (map (image_part b) (segments b)) ≡ i = omega arith in
      get_or-append_right (map (image_part b) (segments b)) (mods ++ directory_part mods ∷ []) _ _ d refl (omega arith)
      ∙ ap (λ k. get_or (mods ++ directory_part mods ∷ []) k d) back
      ∙ get_or_append_left mods (directory_part mods ∷ []) d i inside

  directory_place : (d : JoinedPart) → get_or (joined_parts b modules) (length (map (image_part b) (segments b)) + length mods) d ≡ directory_part mods
  directory_place d =
      let back : length (map (image_part b) (segments b)) + length mods - length (map (image_part b) (segments b)) ≡ length mods = omega arith in
      let none : length mods - length mods ≡ 0 = omega arith in
      get_or-append_right (map (image_part b) (segments b)) (mods ++ directory_part mods ∷ []) _ _ d refl (omega arith)
      ∙ ap (λ k. get_or (mods ++ directory_part mods ∷ []) k d) back
      ∙ get_or-append_right mods (directory_part mods ∷ []) (length mods) (length mods) d refl (omega arith)
      ∙ ap (λ k. get_or (directory_part mods ∷ []) k d) none

  count_parts : length (joined_parts b modules) ≡ length (map (image_part b) (segments b)) + (length mods + 1)
  count_parts =
      length-append (map (image_part b) (segments b)) (mods ++ directory_part mods ∷ [])
      ∙ ap (λ n. length (map (image_part b) (segments b)) + n) (length-append mods (directory_part mods ∷ []))

  pub on_module : (i k : ℕ) (part : JoinedPart) → slice_get mods i ≡ Some part → k < part.memory_size
      → byte_of (file_from (e_entry b) (joined_parts b modules)) (part.address + k) ≡ slice_index part.bytes k
  on_module i k part at below =
      let inside : i < length mods = slice_get_within mods i part at in
      let is : get_or (joined_parts b modules) (length (map (image_part b) (segments b)) + i) part ≡ part =
      module_place i part inside ∙ get_or_from_slice_get mods i part part at in
      let P : JoinedPart → Type 0 = λ p. p.address ≤ part.address + k → (part.address + k) / 4096 ≤ part_last p
      → byte_of (file_from (e_entry b) (joined_parts b modules)) (part.address + k) ≡ slice_index p.bytes (part.address + k - p.address) in
      let same : part.address + k - part.address ≡ k = omega arith in
      subst P is (on_part (length (map (image_part b) (segments b)) + i) part (part.address + k) (omega (arith, count_parts)))
      (omega arith) (omega arith)
      ∙ ap (slice_index part.bytes) same

  pub on_directory : (k : ℕ) → k < 4096 → byte_of (file_from (e_entry b) (joined_parts b modules)) (directory_address + k) ≡ slice_index (directory_of mods) k
  on_directory k below =
      let part : JoinedPart = directory_part mods in
      let P : JoinedPart → Type 0 = λ p. p.address ≤ directory_address + k → (directory_address + k) / 4096 ≤ part_last p
      → byte_of (file_from (e_entry b) (joined_parts b modules)) (directory_address + k) ≡ slice_index p.bytes (directory_address + k - p.address) in
      let same : directory_address + k - directory_address ≡ k = omega arith in
      subst P (directory_place (directory_part mods)) (on_part (length (map (image_part b) (segments b)) + length mods) (directory_part mods) (directory_address + k) (omega (arith, count_parts)))
      (omega arith) (omega (arith, few_mods))
      ∙ ap (slice_index (directory_of mods)) same

  -- all that it loads
  pub joined_loaded : IsLoadedWith b modules (joined_file b modules)
  unfolding entry_of
  joined_loaded = record {
    form = joined_form;
    entry = joined_entry;
    pages = joined_pages;
    executable = joined_executable;
    writable = joined_writable;
    image_bytes = on_image;
    module_bytes = on_module;
    directory_bytes = on_directory;
  }
