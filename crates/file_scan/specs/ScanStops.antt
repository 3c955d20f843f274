-- Why the scan of a name's file stops, and what is known where it ends: what it says is true of that file, where the
-- shelf tells its files. A fault of the outside is told by a count that rose.
use Rattle.std.specs.Prelude.{◌≡◌, ℕ, ◌<◌, ◌≤◌, List, length, Some, None}
use Rattle.nk_host.specs.FaultCounts.{Rose, RoseTo}
use Rattle.elf_image.specs.declared.fault.ImageFault.{ImageFault}
use Rattle.elf_image.specs.Pages.{entry_of, executable_page_count}
use Rattle.elf_image.specs.Rows.{first_fault}
use Rattle.byte_scanner.specs.declared.encoding.Found.{Found}
use Rattle.byte_scanner.specs.FirstFound.{first_found}
use Rattle.file_scan.specs.declared.pieces.Stop.{Stop}
use Rattle.file_scan.specs.declared.pieces.Stop.TheVariants.{Faulty, Longer, Protected, Unread, Want}
use Rattle.file_scan.specs.GoodImages.{IsGoodImage, longest_file}
use Rattle.file_scan.specs.HeldFile.{OfFile}
use Rattle.file_scan.specs.ShelfChanges.{Change, ShelfState}

-- the file is within the limit, and this is its first fault
pub record HasFault (fault : ImageFault) (b : List ℕ) : Type 0 where
  pub within : length b ≤ longest_file
  pub first : first_fault b ≡ Some fault

-- the file is within the limit and in form, and this is the first protected encoding in its code
pub record HasFound (found : Found) (b : List ℕ) : Type 0 where
  pub within : length b ≤ longest_file
  pub formed : first_fault b ≡ None
  pub first : first_found b ≡ Some found

-- the file is a good image, and these are its entry and the number of its executable pages
pub record IsGoodWith (entry pages : ℕ) (b : List ℕ) : Type 0 where
  pub good : IsGoodImage b
  pub entry_is : entry ≡ entry_of b
  pub pages_are : pages ≡ executable_page_count b

-- the scan of a name's file stopped for this reason
abbrev pub IsStop : Change ShelfState → List ℕ → Stop → Type 0
IsStop shelf name Unread = Rose shelf.before.faults shelf.after.faults name
IsStop shelf name Want = RoseTo shelf.before.wants shelf.after.wants
IsStop shelf name Longer = OfFile shelf.before.files name (λ b. longest_file < length b)
IsStop shelf name (Faulty fault) = OfFile shelf.before.files name (HasFault fault)
IsStop shelf name (Protected found) =
    (2 ≤ found.count) × (found.count ≤ 3) × OfFile shelf.before.files name (HasFound found)
