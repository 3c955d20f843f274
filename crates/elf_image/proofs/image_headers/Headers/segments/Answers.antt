use Rattle.std.proofs.Common.{length, ap, ◌∙◌, arith}
use Rattle.std.proofs.lemmas.List.Sorted.{length_permutation}
use Rattle.elf_image.specs.HeaderRows.{FileHeaders}
use Rattle.elf_image.proofs.PageLaws.{some_segments}
use Rattle.elf_image.proofs.image_headers.Headers.segments.Goals as goal

pub returns-clause-count : goal.returns-clause-count
returns-clause-count c =
    ap length c.as_slice.ensures.value ∙ length_permutation _ _ c.self.invariant.same ∙ ap (λ (h : FileHeaders). length h.segments) c.self.view_is

pub returns-clause-some : goal.returns-clause-some
returns-clause-some c =
    omega (arith, ap length c.as_slice.ensures.value, length_permutation _ _ c.self.invariant.same, some_segments _ _ _ _ c.self.invariant)
