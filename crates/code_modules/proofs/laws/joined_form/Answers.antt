use Rattle.elf_image.specs.Pages.{entry_of}
use Rattle.code_modules.proofs.JoinedHeaders.{HeaderLaws}
use Rattle.code_modules.proofs.JoinedPages.{joined_form}
use Rattle.code_modules.proofs.laws.joined_form.Goals as goal

pub returns : goal.returns
unfolding entry_of
returns c = λ b modules form some full fits.
    let laws : HeaderLaws = record { file = c.written_law.ensures.file; program = c.written_law.ensures.program; form = c.form_law.ensures.form } in
    joined_form laws b modules (c.form_law.ensures.rows b form) (c.pages_law.ensures b form) some full fits
