-- The code's parts as the definition has them, and parts that are placed one by one.
use Rattle.std.specs.Prelude.{◌≡◌, ℕ, ◌≤◌, ◌^◌, true, List, [], ◌∷◌, ◌++◌, length, nat_le, if◌then◌else◌, Result, Err, ⊤}
use Rattle.std.specs.List.{list_all, sum_by}
use Rattle.byte_scanner.specs.FirstFound.{first_found}
use Rattle.code_modules.specs.declared.fault.JoinFault.{JoinFault}
use Rattle.code_modules.specs.declared.fault.JoinFault.TheVariants.{NoFit}
use Rattle.code_modules.specs.declared.part.JoinedPart as code_part
use Rattle.code_modules.specs.declared.part.FilePart as code_file_part
use Rattle.code_modules.specs.JoinAnswers.{ends_before_directory, part_pages, unless_protected}
use Rattle.code_modules.specs.JoinedFile.{FilePart, data_start, file_from, part_end, parts_end, placed_from}
use Rattle.code_modules.specs.JoinedParts.{CodeModule, JoinedPart, directory_part, joined_parts, modules_behind}

abbrev pub as_part : code_part.JoinedPart → JoinedPart
as_part p = record { flags = p.flags; address = p.address; memory_size = p.memory_size; bytes = p.bytes.now }

abbrev pub as_file_part : code_file_part.FilePart → FilePart
as_file_part p = record { offset = p.offset; part = as_part p.part }

abbrev pub part_of : code_file_part.FilePart → JoinedPart
part_of p = as_part p.part

-- all of these parts are to be placed from `start` on; so far these are, up to the place `end`, and the rest isn't
pub record IsPlacedTo (start : ℕ) (all : List JoinedPart) (placed : List FilePart) (end : ℕ) (rest : List JoinedPart)
    : Type 0 where
  pub listed : placed ++ placed_from end rest ≡ placed_from start all
  pub ends : parts_end end (placed_from end rest) ≡ parts_end start (placed_from start all)

-- each part begins at this place, or where the one before it ends, or later
abbrev pub Follow : ℕ → List FilePart → Type 0
Follow end [] = ⊤
Follow end (p ∷ later) = (end ≤ p.offset) × Follow (part_end p) later

-- where these parts, and any others behind them, are still to be placed, then now the rest of these is
abbrev pub Leads : List FilePart → ℕ → List FilePart → ℕ → List JoinedPart → List JoinedPart → Type 0
Leads before from placed end whole rest =
    (start : ℕ) (all later : List JoinedPart) → IsPlacedTo start all before from (whole ++ later)
    → IsPlacedTo start all placed end (rest ++ later)

-- the parts of an image and of modules behind it are placed, and the directory is still to be placed
pub record IsLaidOut (b : List ℕ) (modules : List CodeModule) (placed : List FilePart) (end : ℕ) : Type 0 where
  pub few : length (joined_parts b modules) ≤ 64
  pub below : list_all ends_before_directory (modules_behind b modules) ≡ true
  pub placed_to : IsPlacedTo (data_start (length (joined_parts b modules))) (joined_parts b modules) placed end
      (directory_part (modules_behind b modules) ∷ [])
  pub small : end ≤ 2 ^ 40

-- what parts come to that are as many as may be, and of which no module ends too late
abbrev pub parts_answer : ℕ → List JoinedPart → Result (List ℕ) JoinFault
parts_answer entry parts =
    if nat_le (sum_by part_pages parts) 8192
    then unless_protected (file_from entry parts) (first_found (file_from entry parts))
    else Err NoFit
