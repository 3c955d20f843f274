-- What an attempt to join modules with an image comes to.
use Rattle.std.specs.Prelude.{◌≡◌, ℕ, ◌≤◌, ◌+◌, ◌-◌, ◌/◌, ◌==◌, Bool, ◌&&◌, nat_le, if◌then◌else◌, List, [], ◌∷◌, length, map, Option, None, Some, Result, Ok, Err, ⊤}
use Rattle.std.specs.List.{list_all, sum_by}
use Rattle.elf_image.specs.Pages.{entry_of}
use Rattle.byte_scanner.specs.declared.encoding.Found.{Found}
use Rattle.byte_scanner.specs.FirstFound.{first_found}
use Rattle.code_modules.specs.declared.fault.JoinFault.{JoinFault}
use Rattle.code_modules.specs.declared.fault.JoinFault.TheVariants.{Empty, NoFit, Protected, Memory}
use Rattle.code_modules.specs.JoinedFile.{file_from}
use Rattle.code_modules.specs.JoinedParts.{CodeModule, JoinedPart, directory_address, joined_parts, modules_behind}

-- modules of these bytes, with guards where these are true
abbrev pub modules_with : List Bool → List (List ℕ) → List CodeModule
modules_with (guard ∷ guards) (bytes ∷ later) = record { guard = guard; bytes = bytes } ∷ modules_with guards later
modules_with _ _ = []

-- the number of the first of these that has no bytes, where the first of all has this number
abbrev pub empty_from : ℕ → List (List ℕ) → Option ℕ
empty_from i [] = None
empty_from i (bytes ∷ later) = if length bytes == 0 then Some i else empty_from (i + 1) later

-- the number, from 0 on, of the first module without bytes
abbrev pub first_empty : List CodeModule → Option ℕ
first_empty modules = empty_from 0 (map (λ m. m.bytes) modules)

-- the first and the last page of a part, and how many it has
abbrev pub part_first : JoinedPart → ℕ
part_first part = part.address / 4096

abbrev pub part_last : JoinedPart → ℕ
part_last part = (part.address + part.memory_size - 1) / 4096

abbrev pub part_pages : JoinedPart → ℕ
part_pages part = part_last part - part_first part + 1

-- the part ends at the directory's page or before it
abbrev pub ends_before_directory : JoinedPart → Bool
ends_before_directory part = nat_le (part.address + part.memory_size) directory_address

-- an image may have 64 program headers and 8,192 pages, and no module may reach the directory's page
unfoldable pub is_fitting : List ℕ → List CodeModule → Bool
is_fitting b modules =
    nat_le (length (joined_parts b modules)) 64
    && nat_le (sum_by part_pages (joined_parts b modules)) 8192
    && list_all ends_before_directory (modules_behind b modules)

-- a file without a protected encoding is the answer
abbrev pub unless_protected : List ℕ → Option Found → Result (List ℕ) JoinFault
unless_protected file (Some found) = Err (Protected found)
unless_protected file None = Ok file

abbrev pub unless_empty : Option ℕ → Result (List ℕ) JoinFault → Result (List ℕ) JoinFault
unless_empty (Some i) later = Err (Empty i)
unless_empty None later = later

-- the file of the joined image
abbrev pub joined_file : List ℕ → List CodeModule → List ℕ
joined_file b modules = file_from (entry_of b) (joined_parts b modules)

-- the image, the file b, joined with the modules; or the first check that refuses it
unfoldable pub join_answer : List ℕ → List CodeModule → Result (List ℕ) JoinFault
join_answer b modules =
    unless_empty (first_empty modules) (
    if is_fitting b modules
    then unless_protected (joined_file b modules) (first_found (joined_file b modules))
    else Err NoFit)

-- where this is the answer, it may be refused so: want of memory is free
abbrev pub IsFaultOf : Result (List ℕ) JoinFault → JoinFault → Type 0
IsFaultOf answer Memory = ⊤
IsFaultOf answer fault = answer ≡ Err fault

-- the encoding that it names has at most three bytes
abbrev pub IsShortFault : JoinFault → Type 0
IsShortFault (Protected found) = found.count ≤ 3
IsShortFault _ = ⊤
