-- Memories that aren't alike. Each lemma is named by what tells them apart.
use Rattle.std.proofs.Common.{◌≡◌, ◌≢◌, ℕ, ◌+◌, ◌*◌, ◌<◌, true, false, List, [], ◌∷◌, refl, lit<}
use Rattle.nk_bits.specs.declared.leaf.Leaf.{Leaf}
use Rattle.nk_bits.specs.Claims.{Claim}
use Rattle.phys_mem.specs.Memory.{byte_at}
use Rattle.x86_regs.specs.AlikeMemories.{AreAlike}

abbrev any_page : Claim
any_page = record { pair = λ pair. true; upper = λ entry. true; limited = false }

abbrev read_only : ℕ → Leaf
read_only frame = record { frame = frame; rights = record { can_write = false; user = false; exec = false } }

-- a byte of a frame that a passing pair names
a_named_byte : (test : Claim) (root : ℕ) (m n : List ℕ) (pair : ℕ × Leaf) (o : ℕ) → test.pair pair ≡ true → o < 4096 →
    byte_at m (4096 * pair.1.frame + o) ≢ byte_at n (4096 * pair.1.frame + o) → AreAlike test root m n → ⊥
a_named_byte test root m n pair o passes within apart alike = apart (alike.bytes pair o passes within)

-- the third byte, where any page may be frame 0
the_third_byte : (root : ℕ) → AreAlike any_page root (7 ∷ 8 ∷ 9 ∷ []) (7 ∷ 8 ∷ 10 ∷ []) → ⊥
the_third_byte root = a_named_byte any_page root _ _ (5, read_only 0) 2 refl (lit< tt) (λ is. cc)

-- their sizes, though each byte past the end is 0
the_size : (test : Claim) (root : ℕ) → AreAlike test root (7 ∷ []) (7 ∷ 0 ∷ []) → ⊥
the_size test root alike = let is = alike.size in cc
