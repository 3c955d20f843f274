use Rattle.std.proofs.Common.{◌<◌, ℕ, List, length, ap, sym, ◌∙◌, subst}
use Rattle.std.specs.Prelude.{IfSome}
use Rattle.elf_image.specs.Pages.{byte_of}
use Rattle.elf_image.specs.SegmentPages.{byte_in}
use Rattle.elf_image.proofs.ImageLaws.{image_byte, image_inside}
use Rattle.elf_image.proofs.image_file.Image.byte.Goals as goal

pub byte_in-requires : goal.byte_in-requires
byte_in-requires c =
    let P : List ℕ → Type 0 = λ xs. IfSome c.place.result (λ at. at < length xs) in
    subst P (sym c.as_slice.ensures.value) (image_inside _ _ c.self.invariant c.place.result c.place.ensures.inside)

pub returns : goal.returns
returns c =
    c.byte_in.ensures
    ∙ ap (λ (xs : List ℕ). byte_in xs c.place.result) c.as_slice.ensures.value
    ∙ ap (byte_in c.self.inside.bytes.items) c.place.ensures.place
    ∙ image_byte _ _ c.self.invariant c.args.va
    ∙ ap (λ (b : List ℕ). byte_of b c.args.va) c.self.view_is
