use Rattle.std.proofs.Common.{◌≡◌, ◌+◌, ◌*◌, ◌<◌, ◌≤◌, ℕ, List, length, get_or, ap, sym, ◌∙◌, subst, arith}
use Rattle.std.specs.List.{flat_map}
use Rattle.elf_image.specs.HeaderRows.{FileHeaders}
use Rattle.elf_image.specs.Home.{home_end, home_start, page_size}
use Rattle.elf_image.specs.Loaded.{in_table_order}
use Rattle.elf_image.specs.SegmentPages.{pages_in}
use Rattle.elf_image.specs.Segments.{pages_of_segment, total_pages}
use Rattle.elf_image.specs.declared.program_header.ProgramHeader.{ProgramHeader}
use Rattle.elf_image.proofs.PageLaws.{count_is, page_in_home, pages_are}
use Rattle.elf_image.proofs.image_headers.Headers.page_number.Goals as goal

pub nth_page-requires : goal.nth_page-requires
nth_page-requires c = omega (
  arith,
  c.requires,
  ap total_pages c.as_slice.ensures.value,
  count_is _ _ _ _ c.self.invariant,
  ap (λ (h : FileHeaders). length (pages_in h.segments)) c.self.view_is,
)

pub returns-clause-number : goal.returns-clause-number
returns-clause-number c =
    c.nth_page.ensures
    ∙ ap (λ (segs : List ProgramHeader). get_or (flat_map pages_of_segment segs) c.args.i 0) c.as_slice.ensures.value
    ∙ ap (λ (ps : List ℕ). get_or ps c.args.i 0) (sym (pages_are _ _ _ _ c.self.invariant))
    ∙ ap (λ (h : FileHeaders). get_or (pages_in h.segments) c.args.i 0) c.self.view_is

pub returns-clause-above : goal.returns-clause-above
returns-clause-above c =
    let inside : c.args.i < length (pages_in (in_table_order c.self.inside.sorted.items)) = omega (arith, c.requires, ap (λ (h : FileHeaders). length (pages_in h.segments)) c.self.view_is) in
    let same : c.nth_page.result ≡ get_or (pages_in (in_table_order c.self.inside.sorted.items)) c.args.i 0 =
    c.nth_page.ensures
    ∙ ap (λ (segs : List ProgramHeader). get_or (flat_map pages_of_segment segs) c.args.i 0) c.as_slice.ensures.value
    ∙ ap (λ (ps : List ℕ). get_or ps c.args.i 0) (sym (pages_are _ _ _ _ c.self.invariant)) in
    let P : ℕ → Type 0 = λ n. home_start ≤ page_size * n in
    subst P (sym same) (page_in_home _ _ _ _ c.self.invariant c.args.i inside).0

pub returns-clause-below : goal.returns-clause-below
returns-clause-below c =
    let inside : c.args.i < length (pages_in (in_table_order c.self.inside.sorted.items)) = omega (arith, c.requires, ap (λ (h : FileHeaders). length (pages_in h.segments)) c.self.view_is) in
    let same : c.nth_page.result ≡ get_or (pages_in (in_table_order c.self.inside.sorted.items)) c.args.i 0 =
    c.nth_page.ensures
    ∙ ap (λ (segs : List ProgramHeader). get_or (flat_map pages_of_segment segs) c.args.i 0) c.as_slice.ensures.value
    ∙ ap (λ (ps : List ℕ). get_or ps c.args.i 0) (sym (pages_are _ _ _ _ c.self.invariant)) in
    let P : ℕ → Type 0 = λ n. page_size * n + page_size ≤ home_end in
    subst P (sym same) (page_in_home _ _ _ _ c.self.invariant c.args.i inside).1
