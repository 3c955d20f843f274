use Rattle.std.proofs.Common.{ℕ, List, ap, ◌∙◌, subst}
use Rattle.elf_image.specs.Pages.{IsPageList, page_count, pages_of}
use Rattle.elf_image.specs.Rows.{IsForm}
use Rattle.elf_image.proofs.ImageLaws.{image_count, image_list}
use Rattle.elf_image.proofs.image_file.Image.pages.Goals as goal

pub returns-clause-count : goal.returns-clause-count
returns-clause-count c = c.pages.ensures.count ∙ image_count _ _ c.self.invariant ∙ ap page_count c.self.view_is

pub returns-clause-list : goal.returns-clause-list
returns-clause-list c =
    let P : List ℕ → Type 0 = λ b. IsPageList b (pages_of b) in
    subst P c.self.view_is (image_list _ _ c.self.invariant)

pub returns-clause-form : goal.returns-clause-form
returns-clause-form c =
    let P : List ℕ → Type 0 = λ b. IsForm b in
    subst P c.self.view_is c.self.invariant.form
