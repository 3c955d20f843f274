-- Tests of what is kept: one of a page's pair, and one of an upper entry. What is to hold of translations is said by such.
use Rattle.std.specs.Prelude.{◌≡◌, ℕ, ◌*◌, ◌≤◌, Bool, true, false, nat_lt, All, length}
use Rattle.nk_bits.specs.declared.leaf.Leaf.{Leaf}
use Rattle.nk_bits.specs.UpperEntries.{HasDistinctEntries, KeptEntry}
use Rattle.nk_bits.specs.Translations.{HasDistinctPages, Translations}

-- the two tests, and whether it is claimed that no more is kept than the processor keeps
pub record Claim : Type 0 where
  pub pair : ℕ × Leaf → Bool
  pub upper : KeptEntry → Bool
  pub limited : Bool

-- at most 1,024 pairs are kept, each of a page of its own, and at most 64 upper entries, each of a level and pages of its own
pub record IsLimited (tlb : Translations) : Type 0 where
  pub pairs : length tlb.pairs ≤ 1024
  pub pages : HasDistinctPages tlb.pairs
  pub uppers : length tlb.upper ≤ 64
  pub entries : HasDistinctEntries tlb.upper

-- each pair passes, and each entry; and where this is claimed, no more is kept than the processor keeps
pub record AllPass (test : Claim) (tlb : Translations) : Type 0 where
  pub pairs : All (λ pair. test.pair pair ≡ true) tlb.pairs
  pub upper : All (λ entry. test.upper entry ≡ true) tlb.upper
  pub limits : test.limited ≡ true → IsLimited tlb

-- the frame that is named lies in a memory of so many bytes
abbrev pub lies_in : ℕ → Claim
lies_in size = record {
  pair = λ pair. nat_lt (4096 * pair.1.frame) size;
  upper = λ entry. nat_lt (4096 * entry.2.frame) size;
  limited = false;
}
