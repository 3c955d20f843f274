-- What isn't an image that modules are joined with, and what isn't refused, each named by the sentence that it guards.
use Rattle.std.proofs.Common.{◌≡◌, ◌≢◌, ◌+◌, ◌/◌, ◌<◌, ℕ, Bool, true, false, ◌||◌, List, [], ◌∷◌, Some, Err, refl, ap, ◌∙◌}
use Rattle.std.specs.Prelude.{slice_get, slice_index}
use Rattle.decode_fields.specs.Protected.{is_protected_at}
use Rattle.elf_image.specs.Pages.{byte_of, entry_of, is_executable, is_page, is_writable}
use Rattle.elf_image.specs.Rows.{IsForm}
use Rattle.byte_scanner.specs.declared.encoding.Found.{Found}
use Rattle.byte_scanner.specs.FirstFound.{first_found}
use Rattle.code_modules.specs.declared.fault.JoinFault.TheVariants.{Empty, Protected}
use Rattle.code_modules.specs.JoinAnswers.{join_answer}
use Rattle.code_modules.specs.JoinedImage.{IsInModule, IsJoined, IsLoadedWith, IsRefusedByModule, is_page_in, padded}
use Rattle.code_modules.specs.JoinedParts.{CodeModule, JoinedPart, directory_address, directory_of, modules_behind}

or_true : (x : Bool) → (x || true) ≡ true
or_true true = refl
or_true false = refl

-- the first module without bytes is told, before anything else is looked at
empty_told : (b : List ℕ) (guard : Bool) (later : List CodeModule)
    → join_answer b (record { guard = guard; bytes = [] } ∷ later) ≡ Err (Empty 0)
unfolding join_answer
empty_told b guard later = refl

module _ (b : List ℕ) (modules : List CodeModule) where
  -- the image itself isn't one, since it has no directory
  image_itself : is_page b (directory_address / 4096) ≡ false → IsLoadedWith b modules b → ⊥
  image_itself none it =
      let all : is_page b (directory_address / 4096) ≡ true =
      it.pages (directory_address / 4096)
      ∙ (ap (λ x. x || (is_page_in (modules_behind b modules) (directory_address / 4096) || true)) none
      ∙ or_true (is_page_in (modules_behind b modules) (directory_address / 4096))) in
      cc

module _ (b : List ℕ) (modules : List CodeModule) (file : List ℕ) where
  -- it starts nowhere else
  another_entry : entry_of file ≢ entry_of b → IsLoadedWith b modules file → ⊥
  another_entry other it = other it.entry

  -- its directory isn't code, and can't be written
  directory_of_code : is_executable b (directory_address / 4096) ≡ false
      → is_page_in (modules_behind b modules) (directory_address / 4096) ≡ false
      → is_executable file (directory_address / 4096) ≡ true → IsLoadedWith b modules file → ⊥
  directory_of_code none apart code it = let same = it.executable (directory_address / 4096) in cc

  written_directory : is_writable b (directory_address / 4096) ≡ false
      → is_writable file (directory_address / 4096) ≡ true → IsLoadedWith b modules file → ⊥
  written_directory none written it = let same = it.writable (directory_address / 4096) in cc

  -- it isn't out of form
  formless : (IsForm file → ⊥) → IsLoadedWith b modules file → ⊥
  formless none it = none it.form

  -- no byte of the image, of a module or of the directory is another
  another_byte_of_the_image : (va : ℕ) → is_page b (va / 4096) ≡ true → byte_of file va ≢ byte_of b va
      → IsLoadedWith b modules file → ⊥
  another_byte_of_the_image va loaded other it = other (it.image_bytes va loaded)

  another_byte_of_the_directory : (k : ℕ) → k < 4096
      → byte_of file (directory_address + k) ≢ slice_index (directory_of (modules_behind b modules)) k
      → IsLoadedWith b modules file → ⊥
  another_byte_of_the_directory k within other it = other (it.directory_bytes k within)

  another_byte : (i k : ℕ) (part : JoinedPart) → slice_get (modules_behind b modules) i ≡ Some part
      → k < part.memory_size → byte_of file (part.address + k) ≢ slice_index part.bytes k → IsLoadedWith b modules file → ⊥
  another_byte i k part listed within other it = other (it.module_bytes i k part listed within)

  -- nor is it an image that doesn't load the modules
  unloaded : (IsLoadedWith b modules file → ⊥) → IsJoined b modules file → ⊥
  unloaded none it = none it.loaded

  -- it holds no protected encoding
  unclean : (found : Found) → first_found file ≡ Some found → IsJoined b modules file → ⊥
  unclean found stands it = let clean = it.clean in cc

-- modules that are clean, each by itself, aren't refused for a protected encoding, where each has a guard page
clean_refused : (b : List ℕ) (modules : List CodeModule) (found : Found) → (IsInModule modules → ⊥)
    → join_answer b modules ≡ Err (Protected found) → IsRefusedByModule b modules → ⊥
clean_refused b modules found clean refused it = clean (it.refused found refused)

-- nor joined where one stands in a module by itself
unclean_joined : (b : List ℕ) (modules : List CodeModule) → IsInModule modules
    → ((found : Found) → join_answer b modules ≢ Err (Protected found)) → IsRefusedByModule b modules → ⊥
unclean_joined b modules stands other it = let (found, refused) = it.found stands in other found refused

-- and none stands in a module that has none in its pages
nowhere : (modules : List CodeModule) → ((number place : ℕ) (holder : CodeModule) → slice_get modules number ≡ Some holder
    → is_protected_at (slice_get (padded holder)) place ≢ true) → IsInModule modules → ⊥
nowhere modules none it = none it.number it.place it.holder it.listed it.stands
