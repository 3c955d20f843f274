-- The code of an image as mapped. Pages that follow each other form one run, since the byte after a page's last is
-- looked up at the next address; where the next page isn't executable the run ends.
use Rattle.std.specs.Prelude.{ℕ, ◌/◌, List, if◌then◌else◌, Option, None, Some}
use Rattle.elf_image.specs.Home.{page_size}
use Rattle.elf_image.specs.Pages.{is_executable, byte_of}

-- the byte at an address where an executable page of the image, the file b, holds it
abbrev pub code_at : List ℕ → ℕ → Option ℕ
code_at b address = if is_executable b (address / page_size) then Some (byte_of b address) else None
