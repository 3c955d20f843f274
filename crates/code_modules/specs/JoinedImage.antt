-- What is joined with an image is found in it, and nothing else.
use Rattle.std.specs.Prelude.{◌≡◌, ℕ, ◌+◌, ◌-◌, ◌/◌, ◌<◌, ◌==◌, Bool, true, ◌&&◌, ◌||◌, nat_le, List, ◌++◌, length, replicate, slice_get, slice_index, None, Some, Err}
use Rattle.std.specs.List.{list_any}
use Rattle.decode_fields.specs.Protected.{is_protected_at}
use Rattle.elf_image.specs.Pages.{byte_of, entry_of, is_executable, is_page, is_writable}
use Rattle.elf_image.specs.Rows.{IsForm}
use Rattle.byte_scanner.specs.declared.encoding.Found.{Found}
use Rattle.byte_scanner.specs.FirstFound.{first_found}
use Rattle.code_modules.specs.declared.fault.JoinFault.TheVariants.{Protected}
use Rattle.code_modules.specs.JoinAnswers.{join_answer, part_first, part_last}
use Rattle.code_modules.specs.JoinedParts.{CodeModule, JoinedPart, directory_address, directory_of, modules_behind, whole_pages}

-- a part takes memory on page n
abbrev pub part_touches : ℕ → JoinedPart → Bool
part_touches n part = nat_le (part_first part) n && nat_le n (part_last part)

-- page n is one of these parts'
abbrev pub is_page_in : List JoinedPart → ℕ → Bool
is_page_in parts n = list_any (part_touches n) parts

-- the file is in form and has the entry of the image, the file b; its pages are the image's, with their rights, the
-- modules', which may be executed and not written, and the directory's, which may only be read; and their bytes are the
-- image's, each module's with zeros behind them, and the directory's with zeros behind them
pub record IsLoadedWith (b : List ℕ) (modules : List CodeModule) (file : List ℕ) : Type 0 where
  pub form : IsForm file
  pub entry : entry_of file ≡ entry_of b
  pub pages : (n : ℕ) → is_page file n
      ≡ (is_page b n || (is_page_in (modules_behind b modules) n || n == directory_address / 4096))
  pub executable : (n : ℕ) → is_executable file n ≡ (is_executable b n || is_page_in (modules_behind b modules) n)
  pub writable : (n : ℕ) → is_writable file n ≡ is_writable b n
  pub image_bytes : (va : ℕ) → is_page b (va / 4096) ≡ true → byte_of file va ≡ byte_of b va
  pub module_bytes : (i k : ℕ) (part : JoinedPart) → slice_get (modules_behind b modules) i ≡ Some part
      → k < part.memory_size → byte_of file (part.address + k) ≡ slice_index part.bytes k
  pub directory_bytes : (k : ℕ) → k < 4096
      → byte_of file (directory_address + k) ≡ slice_index (directory_of (modules_behind b modules)) k

-- it loads image, modules and directory, and holds no protected encoding
pub record IsJoined (b : List ℕ) (modules : List CodeModule) (file : List ℕ) : Type 0 where
  pub loaded : IsLoadedWith b modules file
  pub clean : first_found file ≡ None

-- a module's pages by themselves
abbrev pub padded : CodeModule → List ℕ
padded m = m.bytes ++ replicate (whole_pages (length m.bytes) - length m.bytes) 0

-- a protected encoding stands in the pages of one of the modules by itself
pub record IsInModule (modules : List CodeModule) : Type 0 where
  pub number : ℕ
  pub place : ℕ
  pub holder : CodeModule
  pub listed : slice_get modules number ≡ Some holder
  pub stands : is_protected_at (slice_get (padded holder)) place ≡ true

-- it is refused for a protected encoding exactly where one stands in a module by itself
pub record IsRefusedByModule (b : List ℕ) (modules : List CodeModule) : Type 0 where
  pub refused : (found : Found) → join_answer b modules ≡ Err (Protected found) → IsInModule modules
  pub found : IsInModule modules → (found : Found) × (join_answer b modules ≡ Err (Protected found))
