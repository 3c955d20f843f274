use Rattle.std.proofs.Common.{◌/◌, ℕ, List, ap, ◌∙◌}
use Rattle.elf_image.specs.Home.{page_size}
use Rattle.elf_image.specs.Pages.{is_executable}
use Rattle.elf_image.proofs.ImageLaws.{image_executable}
use Rattle.elf_image.proofs.image_file.Image.is_code.Goals as goal

pub returns : goal.returns
returns c =
    c.is_executable.ensures
    ∙ image_executable _ _ c.self.invariant (c.args.va / page_size)
    ∙ ap (λ (b : List ℕ). is_executable b (c.args.va / page_size)) c.self.view_is
