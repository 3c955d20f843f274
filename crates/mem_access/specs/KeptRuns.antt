-- Bytes in a row on one page whose translation is kept and serves an access.
use Rattle.std.specs.Prelude.{◌≡◌, ℕ, ◌+◌, ◌%◌, ◌≤◌, false, List}
use Rattle.nk_bits.specs.declared.access.Access.{Access}
use Rattle.nk_bits.specs.declared.control.Control.{Control}
use Rattle.nk_bits.specs.Translations.{Translations}
use Rattle.nk_bits.specs.Outcomes.{answered}
use Rattle.nk_bits.specs.Accesses.{accessed, crosses}
use Rattle.page_walk.specs.MemoryAccess.{view_of}

-- so many bytes from an address on lie on one page, and so from a place on in a memory of that size; over any memory an access
-- within them finds its bytes one behind the other and leaves the translations
pub record IsKeptRun (size : ℕ) (control : Control) (cpl : ℕ) (access : Access) (tlb : Translations) (va count place : ℕ) : Type 0 where
  pub page : va % 4096 + count ≤ 4096
  pub agrees : place % 4096 ≡ va % 4096
  pub inside : place + count ≤ size
  pub one : (offset width : ℕ) → offset + width ≤ count → crosses (va + offset) width ≡ false
  pub found : (m : List ℕ) (offset width : ℕ) → 1 ≤ width → offset + width ≤ count →
      answered (record { first = place + offset; second = 0 }) tlb ≡ accessed (view_of m control cpl) access tlb (va + offset) width
