use Rattle.std.proofs.Common.{ℕ, ◌+◌, ◌<◌, drop, get_or-drop, subst, sym}
use Rattle.byteorder.specs.Numbers.{little_from-lt}
use Rattle.elf_image.specs.Elf.{field_at}
use Rattle.elf_image.specs.Pages.{entry_of}
use Rattle.elf_image.proofs.laws.entry_law.Goals as goal

pub returns : goal.returns
unfolding entry_of field_at
returns c = λ b bytes. little_from-lt 0 8 (drop 24 b) (λ k. let P : ℕ → Type 0 = λ n. n < 256 in subst P (sym (get_or-drop 24 b k 0)) (bytes (24 + k)))
