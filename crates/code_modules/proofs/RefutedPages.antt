-- Files whose pages aren't those of image, modules and directory together, or have other rights, each named by the
-- sentence that it guards: a page too many, a page too few, a right too many, a right too few.
use Rattle.std.proofs.Common.{◌≡◌, ◌≢◌, ◌/◌, ◌==◌, ℕ, true, false, List, ne_eqb, refl, sym, ◌∙◌}
use Rattle.std.proofs.lemmas.Bool.{false≢true, or_from, or_left, or_right}
use Rattle.elf_image.specs.Pages.{is_executable, is_page, is_writable}
use Rattle.code_modules.specs.JoinedImage.{IsLoadedWith, is_page_in}
use Rattle.code_modules.specs.JoinedParts.{CodeModule, directory_address, modules_behind}

module _ (b : List ℕ) (modules : List CodeModule) (file : List ℕ) (it : IsLoadedWith b modules file) where
  -- a page that neither the image nor a module has, and that isn't the directory's
  page_of_none : (n : ℕ) → is_page b n ≡ false → is_page_in (modules_behind b modules) n ≡ false
      → n ≢ directory_address / 4096 → is_page file n ≡ true → ⊥
  page_of_none n none apart elsewhere page =
      let lacks : (n == directory_address / 4096) ≡ false = ne_eqb n (directory_address / 4096) elsewhere in
      false≢true (sym (or_from _ _ none (or_from _ _ apart lacks)) ∙ sym (it.pages n) ∙ page)

  -- a page of the image or of a module that it lacks, or the directory's
  lost_page_of_the_image : (n : ℕ) → is_page b n ≡ true → is_page file n ≡ false → ⊥
  lost_page_of_the_image n page lost = false≢true (sym lost ∙ it.pages n ∙ or_left _ _ page)

  lost_page_of_a_module : (n : ℕ) → is_page_in (modules_behind b modules) n ≡ true → is_page file n ≡ false → ⊥
  lost_page_of_a_module n page lost = false≢true (sym lost ∙ it.pages n ∙ or_right _ _ (or_left _ _ page))

  lost_directory : is_page file (directory_address / 4096) ≡ false → ⊥
  lost_directory lost = false≢true (sym lost ∙ it.pages (directory_address / 4096) ∙ or_right _ _ (or_right _ _ refl))

  -- a page that may be executed and is neither code of the image nor a module's
  code_of_none : (n : ℕ) → is_executable b n ≡ false → is_page_in (modules_behind b modules) n ≡ false
      → is_executable file n ≡ true → ⊥
  code_of_none n none apart code = false≢true (sym (or_from _ _ none apart) ∙ sym (it.executable n) ∙ code)

  -- code of the image that may not be executed, and a module's
  lost_code : (n : ℕ) → is_executable b n ≡ true → is_executable file n ≡ false → ⊥
  lost_code n code lost = false≢true (sym lost ∙ it.executable n ∙ or_left _ _ code)

  lost_module : (n : ℕ) → is_page_in (modules_behind b modules) n ≡ true → is_executable file n ≡ false → ⊥
  lost_module n page lost = false≢true (sym lost ∙ it.executable n ∙ or_right _ _ page)

  -- a page of the image's data that may not be written, and one that may be and isn't such a page
  data_to_be_read_alone : (n : ℕ) → is_writable b n ≡ true → is_writable file n ≡ false → ⊥
  data_to_be_read_alone n was lost = false≢true (sym lost ∙ it.writable n ∙ was)

  written_page_of_none : (n : ℕ) → is_writable b n ≡ false → is_writable file n ≡ true → ⊥
  written_page_of_none n none written = false≢true (sym none ∙ sym (it.writable n) ∙ written)
