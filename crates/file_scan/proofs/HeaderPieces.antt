-- A file by its first pieces.
use Rattle.std.proofs.Common.{◌≡◌, ◌≤◌, ℕ, List, length, take, drop, Some, sym, ap, ◌∙◌, arith, inl, inr, take_all}
use Rattle.std.proofs.lemmas.Bool.{cases_lt}
use Rattle.std.specs.Prelude.{min, Result, Ok, Err, MatchResult}
use Rattle.elf_image.specs.declared.fault.ImageFault.{ImageFault}
use Rattle.elf_image.specs.FileParts.{IsImage, IsShapeOf}
use Rattle.elf_image.specs.HeaderRows.{FileHeaders, FileShape}
use Rattle.elf_image.specs.Rows.{first_fault}
use Rattle.file_scan.specs.GoodImages.{longest_file}
use Rattle.file_scan.specs.ScanStops.{HasFault}
use Rattle.file_scan.specs.WalkedPieces.{HasHeaders, HasShape, IsOfSize}

-- what the head and the table of a file give, where it is within the limit
module _ (b : List ℕ) (within : length b ≤ longest_file) where
  pub shape_within : (r : Result FileShape ImageFault) → MatchResult r (IsShapeOf b) (λ fault. first_fault b ≡ Some fault)
      → MatchResult r (λ s. HasShape s b) (λ fault. HasFault fault b)
  shape_within (Ok s) is = record { within = within; shape_is = is }
  shape_within (Err fault) first = record { within = within; first = first }

  pub headers_within : (r : Result FileHeaders ImageFault) → MatchResult r (IsImage b) (λ fault. first_fault b ≡ Some fault)
      → MatchResult r (λ h. HasHeaders h b) (λ fault. HasFault fault b)
  headers_within (Ok h) image = record { within = within; image = image }
  headers_within (Err fault) first = record { within = within; first = first }

-- a file's first bytes, which are as many as a head has room for
pub head_read : (size n : ℕ) (head b : List ℕ) → IsOfSize size b → n ≡ min size 64 → head ≡ take n (drop 0 b) → head ≡ take 64 b
head_read size n head b sized room is =
    elim (cases_lt (length b) 64) [
      | inl short ↦ is ∙ take_all n b (omega (arith, room, sized.is, short)) ∙ sym (take_all 64 b (omega (arith, short)))
      | inr long ↦
          let all : n ≡ 64 = omega (arith, room, sized.is, long) in
          is ∙ ap (λ (m : ℕ). take m b) all
    ]
