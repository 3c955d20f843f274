-- Where the code of an image lies.
use Rattle.std.specs.Prelude.{◌≡◌, ℕ, ◌/◌, ◌<◌, true, List}
use Rattle.elf_image.specs.Home.{home_end, page_size}
use Rattle.elf_image.specs.Pages.{is_executable}

-- no page past the home's end may be executed
abbrev pub LiesInHome : List ℕ → Type 0
LiesInHome b = (address : ℕ) → is_executable b (address / page_size) ≡ true → address < home_end
