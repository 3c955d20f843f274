-- Files that aren't good, and scans that say another thing of a file than what is so, each named by the sentence that it
-- guards.
use Rattle.std.proofs.Common.{◌≡◌, ◌≢◌, ℕ, ◌+◌, ◌≤◌, List, None, Some, length, arith}
use Rattle.elf_image.specs.declared.fault.ImageFault.{ImageFault}
use Rattle.elf_image.specs.Pages.{entry_of, executable_page_count}
use Rattle.elf_image.specs.Rows.{first_fault}
use Rattle.byte_scanner.specs.declared.encoding.Found.{Found}
use Rattle.byte_scanner.specs.FirstFound.{first_found}
use Rattle.file_scan.specs.GoodImages.{IsGoodImage}
use Rattle.file_scan.specs.ScanStops.{HasFault, HasFound, IsGoodWith}

-- no image is longer than the limit, has a fault, or holds a protected encoding
long_image : (b : List ℕ) → length b ≡ 67108865 → IsGoodImage b → ⊥
long_image b is it = let within = it.within in omega (arith, is, within)

faulty_image : (b : List ℕ) (fault : ImageFault) → first_fault b ≡ Some fault → IsGoodImage b → ⊥
faulty_image b fault is it = let none = it.formed in cc

unclean_image : (b : List ℕ) (found : Found) → first_found b ≡ Some found → IsGoodImage b → ⊥
unclean_image b found is it = let none = it.clean in cc

module _ (fault : ImageFault) (b : List ℕ) (it : HasFault fault b) where
  -- a fault of a file past the limit, and another fault than the first
  fault_of_a_long_file : length b ≡ 67108865 → ⊥
  fault_of_a_long_file is = let within = it.within in omega (arith, is, within)

  another_fault : first_fault b ≢ Some fault → ⊥
  another_fault other = other it.first

module _ (found : Found) (b : List ℕ) (it : HasFound found b) where
  -- an encoding of a file past the limit, of one that has a fault, and another encoding than the first
  encoding_of_a_long_file : length b ≡ 67108865 → ⊥
  encoding_of_a_long_file is = let within = it.within in omega (arith, is, within)

  encoding_of_a_faulty_file : (fault : ImageFault) → first_fault b ≡ Some fault → ⊥
  encoding_of_a_faulty_file fault is = let none = it.formed in cc

  another_encoding : first_found b ≢ Some found → ⊥
  another_encoding other = other it.first

module _ (entry pages : ℕ) (b : List ℕ) (it : IsGoodWith entry pages b) where
  -- a file that isn't good, another entry, and another count of executable pages
  no_good_file : (IsGoodImage b → ⊥) → ⊥
  no_good_file none = none it.good

  another_entry : entry ≢ entry_of b → ⊥
  another_entry other = other it.entry_is

  another_count : pages ≢ executable_page_count b → ⊥
  another_count other = other it.pages_are
