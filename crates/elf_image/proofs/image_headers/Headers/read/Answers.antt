use Rattle.std.proofs.Common.{◌≡◌, ◌<◌, ◌≤◌, List, length, true, sym, ap, ◌∙◌, subst}
use Rattle.std.specs.List.{All, AllPairs}
use Rattle.std.specs.List.Sorted.{IsPermutation}
use Rattle.elf_image.specs.declared.program_header.ProgramHeader.{ProgramHeader}
use Rattle.elf_image.specs.Elf.{is_segment}
use Rattle.elf_image.specs.HeaderRows.{FileHeaders, later_fault}
use Rattle.elf_image.specs.Loaded.{AreJudged}
use Rattle.elf_image.proofs.FormLaws.{table_below, table_counts, table_ordered}
use Rattle.elf_image.proofs.TableOrder.{back_in_order}
use Rattle.elf_image.proofs.image_headers.Headers.read.Goals as goal

pub invariant_of-result : goal.invariant_of-result
invariant_of-result c =
    let is = c.read_segments-segments.ensures.segments in
    let Counts : List ProgramHeader → Type 0 = λ segs. All (λ s. is_segment s ≡ true) segs in
    let Ordered : List ProgramHeader → Type 0 = λ segs. AllPairs (λ s t. s.index < t.index) segs in
    let Low : List ProgramHeader → Type 0 = λ segs. All (λ s. s.index < 64) segs in
    let Judged : List ProgramHeader → Type 0 = λ segs. AreJudged c.args.size c.args.entry segs in
    let Same : List ProgramHeader → Type 0 = λ segs. IsPermutation segs c.sort_by_address.new.segments.items in
    let Few : List ProgramHeader → Type 0 = λ segs. length segs ≤ 64 in
    let ordered : Ordered c.read_segments-segments.result.items = subst Ordered (sym is) (table_ordered c.args.table.now c.args.count) in
    let low : Low c.read_segments-segments.result.items = subst Low (sym is) (table_below c.args.table.now c.args.count c.requires.few) in
    let back = sym (back_in_order _ _ ordered low c.sort_by_address.ensures.same) in
    record {
      judged = subst Judged back (record {
        form = ap (later_fault c.args.size c.args.entry) (sym c.as_slice.ensures.value) ∙ sym c.later_fault.ensures ∙ c.in_default.is;
        counting = subst Counts (sym is) (table_counts c.args.table.now c.args.count);
        ordered = ordered;
      });
      few = subst Few back c.read_segments-segments.ensures.few;
      same = subst Same back c.sort_by_address.ensures.same;
      ascending = c.sort_by_address.ensures.ascending;
    }

pub returns : goal.returns
returns c =
    let is = c.read_segments-segments.ensures.segments in
    let Ordered : List ProgramHeader → Type 0 = λ segs. AllPairs (λ s t. s.index < t.index) segs in
    let Low : List ProgramHeader → Type 0 = λ segs. All (λ s. s.index < 64) segs in
    let back = back_in_order _ _ (subst Ordered (sym is) (table_ordered c.args.table.now c.args.count)) (subst Low (sym is) (table_below c.args.table.now c.args.count c.requires.few)) c.sort_by_address.ensures.same in
    let headers : List ProgramHeader → FileHeaders = λ segs. record { size = c.args.size; entry = c.args.entry; segments = segs } in (
      ap headers (back ∙ is),
      ap (later_fault c.args.size c.args.entry) (sym is ∙ sym c.as_slice.ensures.value) ∙ sym c.later_fault.ensures ∙ c.in_default.is,
    )
