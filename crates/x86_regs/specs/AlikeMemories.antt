-- Two memories that are alike to the processor: it finds the same in both.
use Rattle.std.specs.Prelude.{◌≡◌, ℕ, ◌+◌, ◌*◌, ◌/◌, ◌<◌, true, List, length}
use Rattle.nk_bits.specs.declared.leaf.Leaf.{Leaf}
use Rattle.nk_bits.specs.Paging.{walk, walk_below}
use Rattle.nk_bits.specs.UpperEntries.{KeptEntry, serves_page}
use Rattle.nk_bits.specs.Claims.{Claim}
use Rattle.phys_mem.specs.Memory.{byte_at, entry_in}

-- they have one size and the same walks, from this root and below each upper entry that passes a claim, and agree in
-- each byte of a frame that a passing pair names
pub record AreAlike (test : Claim) (root : ℕ) (m n : List ℕ) : Type 0 where
  pub size : length m ≡ length n
  pub walks : (page : ℕ) → walk (entry_in m) (length m / 4096) root page ≡ walk (entry_in n) (length n / 4096) root page
  pub below : (entry : KeptEntry) (page : ℕ) → test.upper entry ≡ true → serves_page page entry ≡ true
      → walk_below (entry_in m) (length m / 4096) page entry.0 entry.2
      ≡ walk_below (entry_in n) (length n / 4096) page entry.0 entry.2
  pub bytes : (pair : ℕ × Leaf) (o : ℕ) → test.pair pair ≡ true → o < 4096
      → byte_at m (4096 * pair.1.frame + o) ≡ byte_at n (4096 * pair.1.frame + o)
