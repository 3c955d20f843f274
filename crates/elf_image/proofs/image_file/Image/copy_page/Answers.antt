use Rattle.std.proofs.Common.{◌≡◌, ◌+◌, ◌-◌, ◌++◌, ℕ, List, length, take, drop, replicate, slice_index, ap, ◌∙◌, subst, arith}
use Rattle.elf_image.specs.Home.{page_size}
use Rattle.elf_image.specs.Pages.{IsBytesOfPage, page_count, pages_of}
use Rattle.elf_image.specs.SegmentPages.{pages_in}
use Rattle.elf_image.proofs.ImageLaws.{image_count, image_laid, image_pages}
use Rattle.elf_image.proofs.image_file.Image.copy_page.Goals as goal

pub part-part-requires : goal.part-part-requires
part-part-requires c = omega (arith, c.requires.page, image_count _ _ c.self.invariant, ap page_count c.self.view_is)

pub lay_part-requires-clause-inside : goal.lay_part-requires-clause-inside
lay_part-requires-clause-inside c = omega (arith, c.part-part.ensures.inside, c.self.invariant.size, ap length c.as_slice.ensures.value)

pub lay_part-requires-clause-fits : goal.lay_part-requires-clause-fits
lay_part-requires-clause-fits c = omega (arith, c.part-part.ensures.fits, c.requires.size)

pub returns : goal.returns
returns c =
    let at = c.part-part.result.at in
    let skip = c.part-part.result.skip in
    let len = c.part-part.result.len in
    let laid : c.lay_part.new.into ≡ replicate skip 0 ++ (take len (drop at c.self.inside.bytes.items) ++ replicate (page_size - (skip + len)) 0) =
    c.lay_part.ensures
    ∙ ap (λ (xs : List ℕ). replicate skip 0 ++ (take len (drop at xs) ++ replicate (length c.args.into.now - (skip + len)) 0)) c.as_slice.ensures.value
    ∙ ap (λ (m : ℕ). replicate skip 0 ++ (take len (drop at c.self.inside.bytes.items) ++ replicate (m - (skip + len)) 0)) c.requires.size in
    let read = image_laid _ _ c.self.invariant (slice_index (pages_in c.self.inside.headers.segments) c.args.i) at skip len c.lay_part.new.into c.part-part.ensures laid in
    let P : List ℕ → Type 0 = λ ps. IsBytesOfPage c.self.inside.bytes.items (slice_index ps c.args.i) c.lay_part.new.into in
    let Q : List ℕ → Type 0 = λ b. IsBytesOfPage b (slice_index (pages_of b) c.args.i) c.lay_part.new.into in
    subst Q c.self.view_is (subst P (image_pages _ _ c.self.invariant) read)
