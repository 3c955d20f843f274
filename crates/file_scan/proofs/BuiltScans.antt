-- An image of exactly the most bytes is good where the rest is.
use Rattle.std.proofs.Common.{◌≡◌, ◌≤◌, ℕ, List, None, length, arith}
use Rattle.elf_image.specs.Rows.{first_fault}
use Rattle.byte_scanner.specs.FirstFound.{first_found}
use Rattle.file_scan.specs.GoodImages.{IsGoodImage}

longest_image : (b : List ℕ) → length b ≡ 67108864 → first_fault b ≡ None → first_found b ≡ None → IsGoodImage b
longest_image b is formed clean = record { within = omega (arith, is); formed = formed; clean = clean }
