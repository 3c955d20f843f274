use Rattle.std.proofs.Common.{◌/◌, ◌<◌, ℕ, List, slice_index, subst, ap, sym, ◌∙◌}
use Rattle.elf_image.specs.Elf.{e_entry}
use Rattle.elf_image.specs.Home.{page_size}
use Rattle.elf_image.specs.Pages.{entry_of, is_executable}
use Rattle.elf_image.specs.Rows.{IsForm}
use Rattle.elf_image.proofs.ImageLaws.{image_executable}
use Rattle.elf_image.proofs.image_file.Image.entry.Goals as goal

pub returns-clause-entry : goal.returns-clause-entry
unfolding entry_of
returns-clause-entry c = c.entry.ensures.entry ∙ c.self.invariant.entry ∙ ap e_entry c.self.view_is

pub returns-clause-code : goal.returns-clause-code
returns-clause-code c =
    ap (λ (b : List ℕ). is_executable b (c.entry.result / page_size)) (sym c.self.view_is)
    ∙ sym (image_executable _ _ c.self.invariant (c.entry.result / page_size))
    ∙ c.entry.ensures.code

pub returns-clause-form : goal.returns-clause-form
returns-clause-form c =
    let P : List ℕ → Type 0 = λ b. IsForm b in
    subst P c.self.view_is c.self.invariant.form

pub returns-clause-bytes : goal.returns-clause-bytes
returns-clause-bytes c = λ i. subst (λ (b : List ℕ). slice_index b i < 256) (c.deref-bytes.ensures.value ∙ c.self.view_is) (c.are_bytes.ensures i)
