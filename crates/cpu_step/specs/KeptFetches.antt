-- Pages of code whose translation is kept and serves fetches.
use Rattle.std.specs.Prelude.{◌≡◌, ◌⊎◌, ℕ, ◌+◌, ◌%◌, ◌^◌, ◌<◌, ◌≤◌, List}
use Rattle.nk_bits.specs.declared.access.Access.TheVariants.{Fetch}
use Rattle.nk_bits.specs.declared.control.Control.{Control}
use Rattle.nk_bits.specs.Translations.{Translations}
use Rattle.nk_bits.specs.Outcomes.{answered}
use Rattle.nk_bits.specs.Accesses.{accessed}
use Rattle.nk_bits.specs.KernelLayout.{body_address}
use Rattle.page_walk.specs.MemoryAccess.{view_of}
use Rattle.cpu_step.specs.declared.kept_code.KeptCode.{KeptCode}

-- the code lies in a memory of so many bytes and on one page, the body's place isn't in it for the supervisor, and over
-- any memory the fetch of each of its bytes finds it at its place and leaves the translations
pub record IsKeptCode (size : ℕ) (control : Control) (cpl : ℕ) (tlb : Translations) (code : KeptCode) : Type 0 where
  pub page : code.start % 4096 + code.last ≤ 4080
  pub bound : code.start < 2 ^ 64
  pub inside : code.base + code.last + 16 ≤ size
  pub elsewhere : cpl ≡ 0 → (code.start + code.last < body_address) ⊎ (body_address < code.start)
  pub aligned : code.base % 4096 ≡ code.start % 4096
  pub fetched : (m : List ℕ) (ahead : ℕ) → ahead ≤ code.last →
      answered (record { first = code.base + ahead; second = 0 }) tlb
      ≡ accessed (view_of m control cpl) Fetch tlb (code.start + ahead) 1

-- the code lies in a memory of so many bytes and on one page
pub record LiesOnPage (size : ℕ) (code : KeptCode) : Type 0 where
  pub page : code.start % 4096 + code.last ≤ 4080
  pub bound : code.start < 2 ^ 64
  pub inside : code.base + code.last + 16 ≤ size
  pub aligned : code.base % 4096 ≡ code.start % 4096
