-- The image that is admitted.
use Rattle.std.specs.Prelude.{◌≡◌, ℕ, ◌≤◌, List, length, None}
use Rattle.elf_image.specs.Rows.{first_fault}
use Rattle.byte_scanner.specs.FirstFound.{first_found}

-- the most bytes of a file that is read: 64 MiB
abbrev pub longest_file : ℕ
longest_file = 67108864

-- the image is held within the limit, has no fault, and holds no protected encoding in its code
pub record IsGoodImage (b : List ℕ) : Type 0 where
  pub within : length b ≤ longest_file
  pub formed : first_fault b ≡ None
  pub clean : first_found b ≡ None
